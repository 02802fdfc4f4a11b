-- What a consistency proof from a length m to a length n claims and evaluates to, over digests F.
use Rattle.std.specs.Prelude.{◌≡◌, ℕ, ◌<◌, ◌≤◌, ◌==◌, nat_lt, if◌then◌else◌, List, [], ◌∷◌, Option, Some, Result, Ok, Err}
use Rattle.std.specs.Option.{ok_or}
use Rattle.std.specs.List.{AllByRecursion}
use Rattle.warg_crypto.specs.Bytes.{same_bytes}
use Rattle.warg_protobuf.specs.Reading.{◌>>=◌}
use Rattle.warg_log.specs.declared.proof.InclusionProofError.TheVariants as Inclusion
use Rattle.warg_log.specs.declared.consistency.ConsistencyProofError.{ConsistencyProofError}
use Rattle.warg_log.specs.declared.consistency.ConsistencyProofError.TheVariants as Consistency
use Rattle.warg_log.specs.Nodes.{balanced_roots}
use Rattle.warg_log.specs.Cut.{cut_root, old_root}

-- The node t leads to the root r: its digest is held, and its cut root is r.
abbrev pub LeadsTo : (List ℕ → List ℕ) → (ℕ → Option (List ℕ)) → ℕ → List ℕ → ℕ → Type 0
LeadsTo H F n r t = (x : List ℕ) × (F t ≡ Some x) × (cut_root H F t x n ≡ Some r)

-- The proof is met by an old and a new root: the old one is the old root, and all balanced roots of the
-- old length lead to the new one. `laws::consistency_met` says that it evaluates to exactly these.
pub record IsConsistent (H : List ℕ → List ℕ) (F : ℕ → Option (List ℕ)) (m n : ℕ) (old new : List ℕ) : Type 0 where
  pub some : 0 < m
  pub order : m ≤ n
  pub old_root_is : old_root H F m ≡ Some old
  pub new_root_is : AllByRecursion (LeadsTo H F n new) (balanced_roots m)

-- The root to which the node t leads, or which digest lacks: its own, or one that its cut root reads.
abbrev pub root_to : (List ℕ → List ℕ) → (ℕ → Option (List ℕ)) → ℕ → ℕ → Result (List ℕ) ConsistencyProofError
root_to H F n t = do
  x ← ok_or (F t) Consistency.HashNotKnown
  ok_or (cut_root H F t x n) (Consistency.InclusionError Inclusion.HashNotKnown)

-- The root `agreed`, where all of these nodes lead to it; or else the first fault from the left.
abbrev pub agreed_root : (List ℕ → List ℕ) → (ℕ → Option (List ℕ)) → ℕ → List ℕ → List ℕ → Result (List ℕ) ConsistencyProofError
agreed_root H F n agreed [] = Ok agreed
agreed_root H F n agreed (t ∷ ts) = do
  r ← root_to H F n t
  if same_bytes r agreed then agreed_root H F n agreed ts else Err Consistency.DivergingRoots

-- The new root: that to which all the balanced roots of the old length lead, as the first one does.
abbrev pub new_root_of : (List ℕ → List ℕ) → (ℕ → Option (List ℕ)) → ℕ → List ℕ → Result (List ℕ) ConsistencyProofError
new_root_of H F n [] = Err Consistency.OldLengthZero
new_root_of H F n (t ∷ ts) = do
  r ← root_to H F n t
  agreed_root H F n r ts

-- The old root and the new one, or the first fault.
abbrev pub both_roots : Result (List ℕ) ConsistencyProofError → Option (List ℕ) → Result (List ℕ × List ℕ) ConsistencyProofError
both_roots new old = do
  r ← new
  o ← ok_or old Consistency.HashNotKnown
  Ok (o, r)

-- What the proof evaluates to: the old root and the new one, or the first fault.
abbrev pub consistency : (List ℕ → List ℕ) → (ℕ → Option (List ℕ)) → ℕ → ℕ → Result (List ℕ × List ℕ) ConsistencyProofError
consistency H F m n =
    if m == 0
    then Err Consistency.OldLengthZero
    else if nat_lt n m
    then Err Consistency.PointsOutOfOrder
    else both_roots (new_root_of H F n (balanced_roots m)) (old_root H F m)
