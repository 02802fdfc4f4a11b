-- Lemmas for the proofs of the crates above, over public definitions alone.
use Rattle.std.proofs.Common.{◌≡◌, ℕ, ◌+◌, List, Some}
use Rattle.std.specs.Prelude.{slice_get}
use Rattle.std.specs.FinMap.{get}
use Rattle.warg_crypto.specs.Tree.{leaf_digest}
use Rattle.warg_map.specs.Bits.{key_bits}
use Rattle.warg_map.specs.Last.{last_under}
use Rattle.warg_map.specs.Sparse.{map_of}
use Rattle.warg_pages.specs.Prefixes.{version}
use Rattle.warg_registry.specs.Insertions.{entry_of, entries_of, IsInsertion}
use Rattle.warg_registry.proofs.Entries as entries
use Rattle.warg_registry.proofs.HeldEntries as held

-- Insertions of one entry are one.
pub one_insertion : (a b : List ℕ × List ℕ) → IsInsertion a → entry_of a ≡ entry_of b → a ≡ b
one_insertion = entries.one_insertion

-- The entry at a held key's index is that of the last insertion under its digest, where this is of the key itself.
pub own_entry : (H : List ℕ → List ℕ) (insertions : List (List ℕ × List ℕ)) (key value leaf : List ℕ) (index : ℕ)
    → index + 1 ≡ version H insertions (key_bits H key) → get (map_of H insertions) (key_bits H key) ≡ Some leaf
    → last_under H (key_bits H key) insertions ≡ Some (key, value)
    → (slice_get (entries_of insertions) index ≡ Some (entry_of (key, value))) × (leaf_digest H value ≡ leaf)
own_entry H insertions key value leaf index at is_held = held.own_entry H insertions key leaf index at is_held value
