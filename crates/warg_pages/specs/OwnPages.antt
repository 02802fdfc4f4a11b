-- The pages of a list of insertions.
use Rattle.std.specs.Prelude.{◌≡◌, ℕ, ◌<◌, Bool, true, false, not, ◌||◌, nat_eq, List, length, Option, Some, None}
use Rattle.std.specs.List.{All}
use Rattle.warg_crypto.specs.Digests.{IsByte}
use Rattle.warg_map.specs.Last.{last_with}
use Rattle.warg_pages.specs.Prefixes.{bits_of_bytes, is_below, version}
use Rattle.warg_pages.specs.Slots.{is_lone, page_of}
use Rattle.warg_pages.specs.PageBytes.{page_bytes}

-- Whether a page stands at a prefix, whose last insertion is e: where the prefix is empty, or key digests of more than one key begin with it.
abbrev pub stands_over : (List ℕ → List ℕ) → List (List ℕ × List ℕ) → List Bool → Option (List ℕ × List ℕ) → Bool
stands_over H insertions prefix None = false
stands_over H insertions prefix (Some e) = nat_eq (length prefix) 0 || not (is_lone H insertions prefix e)

-- Whether a page stands at a prefix: at the empty one, where there is an insertion, and at each that two held key digests share.
abbrev pub stands : (List ℕ → List ℕ) → List (List ℕ × List ℕ) → List Bool → Bool
stands H insertions prefix = stands_over H insertions prefix (last_with (is_below H prefix) insertions)

-- What a source of pages has at a prefix of bytes and a version are the pages of these insertions: where a page stands, its bytes at its version.
abbrev pub AreOwnPages : (List ℕ → List ℕ) → (List ℕ → ℕ → Option (List ℕ)) → List (List ℕ × List ℕ) → Type 0
AreOwnPages H bytes_at insertions = (prefix : List ℕ) → All IsByte prefix → length prefix < 32 → stands H insertions (bits_of_bytes prefix) ≡ true
    → bytes_at prefix (version H insertions (bits_of_bytes prefix)) ≡ Some (page_bytes (page_of H insertions (bits_of_bytes prefix)))
