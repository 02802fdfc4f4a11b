use Rattle.std.proofs.Common.{◌++◌, length, inl, inr}
use Rattle.std.proofs.lemmas.Bool.{cases_lt}
use Rattle.warg_pages.specs.Prefixes.{version, bits_of_bytes}
use Rattle.warg_pages.specs.ChangedPages.{page_at}
use Rattle.warg_pages.proofs.MoreInsertions.{quiet_page, quiet_version, quiet_stands}
use Rattle.warg_pages.proofs.PagesAfter.{nothing_new}
use Rattle.warg_pages.proofs.laws.pages_after.Goals as goal

pub returns : goal.returns
returns c = λ H bytes_at after old more pages own changed put kept. λ prefix bytes short there.
    elim (cases_lt (length old) (version H _ _)) [
      | inl later ↦
          let found = changed.all prefix record { are_bytes = bytes; short = short; is_there = there; later = later } in
          rw found.2 at (put found.0 (page_at H (old ++ more) prefix) found.1)
      | inr early ↦
          let none = nothing_new H old more _ early in
          rw (
            kept prefix (version H (old ++ more) (bits_of_bytes prefix)) early,
            quiet_version H old more (bits_of_bytes prefix) none,
            quiet_page H old more (bits_of_bytes prefix) none,
          ) (own prefix bytes short (rw (quiet_stands H old more (bits_of_bytes prefix) none) at there))
    ]
