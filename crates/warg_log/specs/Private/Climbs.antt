-- The way up from a node while a program is on it.
use Rattle.std.specs.Prelude.{◌≡◌, ℕ, suc, ◌+◌, ◌-◌, ◌*◌, ◌/◌, ◌^◌, ◌<◌, ◌≤◌, List}
use Rattle.warg_log.specs.Nodes.{height_of, place_of, end_of}
use Rattle.warg_log.specs.Walks.{siblings_up}

-- The node r, which exists at length n, stands above the node t or is that node, and these nodes are the siblings on the way
-- from t to r.
pub record IsWayUp (t n r : ℕ) (nodes : List ℕ) : Type 0 where
  pub above : height_of t ≤ height_of r
  pub place : place_of r ≡ place_of t / 2 ^ (height_of r - height_of t)
  pub exists : end_of r ≤ n
  pub siblings : nodes ≡ siblings_up (height_of r - height_of t) (height_of t) (place_of t)

-- The parent of the node r doesn't exist at length n.
abbrev pub IsTop : ℕ → ℕ → Type 0
IsTop r n = n < (place_of r / 2 + 1) * 2 ^ suc (height_of r)
