-- How many keys are held, and how many bits each has.
use Rattle.std.proofs.Common.{◌≡◌, ℕ, ◌-◌, ◌^◌, ◌≤◌, Bool, false, List, length, ap, ◌∙◌, inl, inr, arith}
use Rattle.std.proofs.lemmas.Bool.{cases_Bool}
use Rattle.std.specs.FinMap.{insert, empty, contains_key, len, get-insert, len-insert}
use Rattle.std.specs.Ordering.{eq_by_cmp}
use Rattle.warg_map.specs.Sparse.{SparseMap, HasLevels, bits_cmp}
use Rattle.warg_map.proofs.SparseTree.{bits_total, contains_key-empty, tied}

pub levels-empty : HasLevels 256 empty
levels-empty bits h = absurd (let e : contains_key empty bits ≡ false = contains_key-empty bits in cc)

pub levels-insert : (m : SparseMap) (bits : List Bool) (v : List ℕ) → length bits ≡ 256 → HasLevels 256 m
    → HasLevels 256 (insert m bits v)
levels-insert m bits v n h = λ other held. elim (cases_Bool (eq_by_cmp bits_cmp other bits)) [
  | inl same ↦ ap length (tied other bits same) ∙ n
  | inr apart ↦ h other (rw (get-insert bits_total m bits v other, apart) at held)
]

-- a map that isn't full, or holds the key, has room for it
pub fits-insert : (m : SparseMap) (bits : List Bool) (v : List ℕ) → len m ≤ 2 ^ 64 - 1
    → ¬ ((len m ≡ 2 ^ 64 - 1) × (contains_key m bits ≡ false)) → len (insert m bits v) ≤ 2 ^ 64 - 1
fits-insert m bits v few room = let one = len-insert bits_total m bits v in grind (arith, cases_Bool)
