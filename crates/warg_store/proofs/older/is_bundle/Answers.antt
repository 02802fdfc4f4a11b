use Rattle.std.proofs.Common.{◌≡◌, ◌<◌, List, ℕ, Vec, Ok, Err, length, sym, ◌∙◌}
use Rattle.std.specs.Cmp.Lexicographic.{bytes_decides}
use Rattle.std.specs.declared.alloc.Global.{Global}
use Rattle.warg_tiles.specs.declared.error.EntryError.TheVariants.{TooLong}
use Rattle.warg_store.proofs.ListLemmas.{all_made, all_mapped}
use Rattle.warg_store.proofs.older.is_bundle.Goals as goal

pub returns-in-Err-TooLong-clause-is : goal.returns-in-Err-TooLong-clause-is
returns-in-Err-TooLong-clause-is c = λ short same.
    let refused : c.write_entries.result ≡ Err TooLong = cc in
    absurd (c.write_entries.ensures.short.1
    (all_made (λ (e : List ℕ). length e < 65536) (λ (e : Vec ℕ Global). e.items) c.args.entries.now short) refused)

pub returns-in-Ok-clause-only : goal.returns-in-Ok-clause-only
returns-in-Ok-clause-only c = λ is.
    let IsShort : List ℕ → Type 0 = λ e. length e < 65536 in
    let short = c.write_entries.ensures.short.0 (λ refused. let no : Ok c.in-Ok.bundle ≡ Err TooLong =
    sym c.in-Ok.is ∙ refused in cc) in (
      all_mapped IsShort (λ (e : Vec ℕ Global). e.items) c.args.entries.now short,
      (bytes_decides c.args.bytes.now c.as_slice.result.now).0 (sym c.eq.ensures ∙ is) ∙ c.as_slice.ensures.value
          ∙ c.in-Ok.ensures.ok,
    )
