-- A slice while a push is on its way.
use Rattle.std.specs.Prelude.{◌≡◌, ℕ, ◌-◌, ◌*◌, ◌<◌, ◌≤◌, List, [], length, slice_index_or}
use Rattle.warg_log.specs.Nodes.{height_of, end_of}
use Rattle.warg_log.specs.Tree.{digest_or_spacer}

-- The slice of a log of these leaf digests, but for the nodes above height k whose last leaf is the last of all.
pub record IsSliceUpTo (H : List ℕ → List ℕ) (ds tree : List (List ℕ)) (k : ℕ) : Type 0 where
  pub len : length tree ≡ 2 * length ds - 1
  pub holds : (x : ℕ) → x < length tree → (end_of x ≡ length ds → height_of x ≤ k) → slice_index_or tree x [] ≡ digest_or_spacer H ds x
