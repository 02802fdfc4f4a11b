-- The empty trees of a sparse Merkle tree, over any digest function H.
use Rattle.std.specs.Prelude.{ℕ, zero, suc, List, []}
use Rattle.warg_crypto.specs.Tree.{leaf_digest, branch}

-- The digest of the empty tree of a height: a leaf of no bytes, and above it the branch over two empty trees.
unfoldable pub empty_root : (List ℕ → List ℕ) → ℕ → List ℕ
empty_root H zero = leaf_digest H []
empty_root H (suc k) = branch H (empty_root H k) (empty_root H k)
