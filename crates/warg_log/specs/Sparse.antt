-- Digests held for some nodes.
use Rattle.std.specs.Prelude.{ℕ, ◌<◌, ◌==◌, if◌then◌else◌, List, [], ◌∷◌, Option, Some, None}
use Rattle.std.specs.List.{AllByRecursion}
use Rattle.warg_log.specs.declared.node.Node.{Node}

-- Nodes with their digests.
abbrev pub Pairs : Type 0
Pairs = List (Node × List ℕ)

-- The nodes' numbers ascend strictly.
abbrev pub IsAscending : Pairs → Type 0
IsAscending [] = Unit {0}
IsAscending (p ∷ ps) = AllByRecursion (λ (q : Node × List ℕ). p.0.0 < q.0.0) ps × IsAscending ps

-- The digest that is held for a node's number.
abbrev pub held_digest : Pairs → ℕ → Option (List ℕ)
held_digest [] x = None
held_digest (p ∷ ps) x = if p.0.0 == x then Some p.1 else held_digest ps x
