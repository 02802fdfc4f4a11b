-- The blocks of a log while a push joins them.
use Rattle.std.specs.Prelude.{◌≡◌, ℕ, suc, ◌+◌, ◌*◌, ◌^◌, List, map}
use Rattle.warg_log.specs.Nodes.{height_of, start_of, balanced_roots}
use Rattle.warg_crypto.specs.Tree.{branch}

-- G gives the digests of ranges, by height and first leaf, once the leaf digest d is behind the digests
-- of the blocks of length n.
pub record Grows (H : List ℕ → List ℕ) (n : ℕ) (d : List ℕ) (digests : List (List ℕ)) (G : ℕ → ℕ → List ℕ) : Type 0 where
  pub blocks : digests ≡ map (λ t. G (height_of t) (start_of t)) (balanced_roots n)
  pub leaf : d ≡ G 0 n
  pub joins : (h q : ℕ) → q * 2 ^ suc h + 2 ^ suc h ≡ n + 1 → G (suc h) (q * 2 ^ suc h) ≡ branch H (G h (q * 2 ^ suc h)) (G h (q * 2 ^ suc h + 2 ^ h))
