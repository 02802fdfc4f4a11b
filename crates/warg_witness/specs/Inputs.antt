-- The byte lists that the digest function H takes, in the tree over given entries and in evaluations. A
-- range is given by its first leaf a and its count n of leaves.
use Rattle.std.specs.Prelude.{ℕ, ◌+◌, ◌-◌, nat_le, if◌then◌else◌, List, [], Option, Some, slice_index_or}
use Rattle.warg_crypto.specs.Tree.{leaf_input, leaf_digest, branch_input, where_both}
use Rattle.warg_log.specs.Tree.{front_of, leaves_of, root_over}
use Rattle.warg_log.specs.Ranges.{Range, front_part, rest_part}
use Rattle.warg_log.specs.Cut.{Evaluation, with_target, is_target, cut_over, old_over}

-- The plain input at a range: at one leaf the byte 00 and the entry, else that of the branch over the
-- roots of the range's two parts.
abbrev pub plain_input : (List ℕ → List ℕ) → List (List ℕ) → ℕ → ℕ → List ℕ
plain_input H entries a n =
    if nat_le n 1
    then leaf_input (slice_index_or entries a [])
    else branch_input (root_over H (leaves_of H entries) a (front_of n)) (root_over H (leaves_of H entries) (a + front_of n) (n - front_of n))

-- The evaluation's input at a range around the target, and not the target's own.
abbrev pub cut_input : (List ℕ → List ℕ) → Evaluation → Range → Option (List ℕ)
cut_input H e range = where_both branch_input (cut_over H e (front_part range)) (cut_over H e (rest_part range))

-- The evaluation's input at a range around a target with the value v: at the target the byte 00 and v.
abbrev pub value_input : (List ℕ → List ℕ) → (ℕ → Option (List ℕ)) → Range → List ℕ → Range → Option (List ℕ)
value_input H F target v range = if is_target target range then Some (leaf_input v) else cut_input H (with_target F target (leaf_digest H v)) range

-- The old root's input at a range, and not one of a power of two of leaves.
abbrev pub old_input : (List ℕ → List ℕ) → (ℕ → Option (List ℕ)) → Range → Option (List ℕ)
old_input H F range = where_both branch_input (old_over H F (front_part range)) (old_over H F (rest_part range))
