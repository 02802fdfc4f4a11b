-- One more insertion, in a page on its way.
use Rattle.std.specs.Prelude.{ℕ, ◌-◌, cond, nat_eq, nat_lt, Bool, List, [], ◌∷◌, length}
use Rattle.std.specs.Bool.{then_some}
use Rattle.warg_crypto.specs.Tree.{leaf_digest}
use Rattle.warg_map.specs.Sparse.{root_of_levels, map_of}
use Rattle.warg_pages.specs.Prefixes.{below}
use Rattle.warg_pages.specs.Slots.{SlotAt, is_lone}

-- Ascending slots with one more, in the place of that of its byte, if there is one.
unfoldable pub with_slot : SlotAt → List SlotAt → List SlotAt
with_slot x [] = x ∷ []
with_slot x (y ∷ ys) = cond (nat_lt x.byte y.byte) (x ∷ y ∷ ys) (cond (nat_eq x.byte y.byte) (x ∷ ys) (y ∷ with_slot x ys))

-- The slot of a byte over a prefix, after insertions of which the last is below it.
abbrev pub last_slot : (List ℕ → List ℕ) → List (List ℕ × List ℕ) → List Bool → ℕ → List ℕ × List ℕ → SlotAt
last_slot H insertions prefix s e = record {
  byte = s;
  version = length insertions;
  digest = root_of_levels H (256 - length prefix) (below (map_of H insertions) prefix);
  lone = then_some (is_lone H insertions prefix e) (H e.0, leaf_digest H e.1);
}
