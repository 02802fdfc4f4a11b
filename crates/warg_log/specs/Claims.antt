-- What contracts see of checkpoints, proofs and walks.
use Rattle.std.specs.Prelude.{ℕ, ◌*◌, List, Bool, nat_eq}
use Rattle.std.specs.Ordering.{on, eq_of_both}
use Rattle.std.specs.Cmp.Lexicographic.{pointwise}
use Rattle.warg_log.specs.declared.node.Node.{Node}

-- A checkpoint: a log's root, and the number of its entries.
pub record RootAndLength : Type 0 where
  pub root : List ℕ
  pub length : ℕ

-- The claim that a node's digest is part of the log of a length.
pub record InclusionClaim : Type 0 where
  pub leaf : Node
  pub log_length : ℕ

-- The claim that the entry at an index, counted from 0, is part of the log of a length.
abbrev pub leaf_claim : ℕ → ℕ → InclusionClaim
leaf_claim index n = record { leaf = record { 0 = 2 * index }; log_length = n }

-- The claim that the log of an old length is a beginning of the log of a new one.
pub record ConsistencyClaim : Type 0 where
  pub old_length : ℕ
  pub new_length : ℕ

-- The nodes of an inclusion proof's walk, and how many of them each of its three parts has.
pub record Walk : Type 0 where
  pub nodes : List Node
  pub initial_walk_len : ℕ
  pub lower_broots : ℕ
  pub upper_broots : ℕ

-- Whether two nodes have one number.
abbrev pub same_node : Node → Node → Bool
same_node = on (λ (node : Node). node.0) nat_eq

-- Whether two walks have the same nodes, in order, and parts of the same counts.
abbrev pub same_walk : Walk → Walk → Bool
same_walk = eq_of_both
    (eq_of_both
    (eq_of_both (on (λ (w : Walk). w.nodes) (pointwise same_node)) (on (λ (w : Walk). w.initial_walk_len) nat_eq))
    (on (λ (w : Walk). w.lower_broots) nat_eq))
    (on (λ (w : Walk). w.upper_broots) nat_eq)
