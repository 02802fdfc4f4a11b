-- A log that holds the digests of its balanced roots alone.
use Rattle.std.specs.Prelude.{◌≡◌, ℕ, zero, suc, ◌+◌, ◌^◌, ◌==◌, if◌then◌else◌, List, [], ◌∷◌, length, map, Option, Some, None, unwrap_or}
use Rattle.warg_log.specs.Nodes.{height_of, start_of, node_over, balanced_roots}
use Rattle.warg_crypto.specs.Tree.{branch}
use Rattle.warg_log.specs.Tree.{from_right, root_of, leaves_below}

-- A length, and a digest for each balanced root of it, from left to right.
pub record Blocks : Type 0 where
  pub len : ℕ
  pub digests : List (List ℕ)

-- The digest that stands beside a node.
abbrev pub digest_beside : List ℕ → List (List ℕ) → ℕ → Option (List ℕ)
digest_beside (t ∷ ts) (d ∷ ds) x = if t == x then Some d else digest_beside ts ds x
digest_beside _ _ x = None

-- The block of a node: the digest that is held for it, if it is a balanced root of the length.
abbrev pub block_at : Blocks → ℕ → Option (List ℕ)
block_at b x = digest_beside (balanced_roots b.len) b.digests x

-- The digest of the 2 ^ h leaves from a on, once the leaf digest d is put behind blocks F of length n:
-- the old block's, if there is one; d for the new leaf; else the branch of the two halves.
abbrev pub block_over : (List ℕ → List ℕ) → (ℕ → Option (List ℕ)) → ℕ → List ℕ → ℕ → ℕ → List ℕ
block_over H F n d zero a = if a == n then d else unwrap_or (F (node_over a 1)) []
block_over H F n d (suc h) a = unwrap_or (F (node_over a (2 ^ suc h))) (branch H (block_over H F n d h a) (block_over H F n d h (a + 2 ^ h)))

-- The blocks after a push of d: each balanced root of the next length has the digest of its leaves.
-- `laws::pushed_stands` says so of blocks that stand for leaf digests.
abbrev pub pushed : (List ℕ → List ℕ) → Blocks → List ℕ → Blocks
pushed H b d = record {
  len = b.len + 1;
  digests = map (λ t. block_over H (block_at b) b.len d (height_of t) (start_of t)) (balanced_roots (b.len + 1));
}

-- The blocks stand for these leaf digests: each is the root of the leaves below its node.
pub record StandsFor (H : List ℕ → List ℕ) (b : Blocks) (ds : List (List ℕ)) : Type 0 where
  pub count : length ds ≡ b.len
  pub roots : b.digests ≡ map (λ t. root_of H (leaves_below t ds)) (balanced_roots b.len)

-- Blocks joined from the right, and the digest of no bytes where there is none.
abbrev pub joined_blocks : (List ℕ → List ℕ) → List (List ℕ) → List ℕ
joined_blocks H = from_right (branch H) (H [])
