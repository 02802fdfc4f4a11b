-- The last of the insertions whose keys have something in common.
use Rattle.std.specs.Prelude.{ℕ, Bool, cond, List, [], ◌∷◌, Option, Some, None}
use Rattle.std.specs.Option.{option_or}
use Rattle.std.specs.Ordering.{eq_by_cmp}
use Rattle.warg_map.specs.Bits.{key_bits}
use Rattle.warg_map.specs.Sparse.{bits_cmp}

-- The last element that passes a test, or nothing.
unfoldable pub last_with : {X : Type 0} → (X → Bool) → List X → Option X
last_with p [] = None
last_with p (x ∷ xs) = option_or (last_with p xs) (cond (p x) (Some x) None)

-- Whether two lists of bits are the same.
abbrev pub same_bits : List Bool → List Bool → Bool
same_bits p q = eq_by_cmp bits_cmp p q

-- The last of the insertions whose key has these bits, or nothing.
abbrev pub last_under : (List ℕ → List ℕ) → List Bool → List (List ℕ × List ℕ) → Option (List ℕ × List ℕ)
last_under H bits es = last_with (λ e. same_bits bits (key_bits H e.0)) es
