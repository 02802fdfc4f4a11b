-- What `!=` on hashes says of their bytes.
use Rattle.std.proofs.Common.{◌≡◌, ℕ, Bool, true, false, not, ◌&&◌, eqb, List, arith}
use Rattle.std.specs.Cmp.Lexicographic.{pointwise, bytes_decides}

module _ (a b : List ℕ) (r : Bool) (is : r ≡ not (pointwise eqb a b && true)) where
  pub same_hashes : r ≡ false → a ≡ b
  same_hashes e = (bytes_decides a b).0 (grind arith)

  pub other_hashes : r ≡ true → ¬ (a ≡ b)
  other_hashes e same = let both = (bytes_decides a b).1 same in grind arith

-- and `==`
pub hashes_decide : (a b : List ℕ) (r : Bool) → r ≡ (pointwise eqb a b && true) → (r ≡ true → a ≡ b)
    × (a ≡ b → r ≡ true)
hashes_decide a b r is = (
  λ t. (bytes_decides a b).0 (grind arith),
  λ e. let both =
      (bytes_decides a b).1 e in grind arith,
)
