-- What the evaluations of inclusion and consistency proofs say, and which faults they can have.
use Rattle.std.proofs.Common.{◌≡◌, ℕ, ◌≤◌, nat_le, List, Option, Some, None, Result, Ok, Err, ◌↔◌, if◌then◌else◌, arith, ◌<◌, ◌==◌, Bool, false, nat_lt, [], ◌∷◌, length, take, refl}
use Rattle.std.specs.Option.{ok_or}
use Rattle.warg_log.specs.declared.proof.InclusionProofError.{InclusionProofError}
use Rattle.std.specs.Cmp.Lexicographic.{bytes_decides}
use Rattle.std.specs.List.{AllByRecursion}
use Rattle.std.proofs.lemmas.Bool.{le-leb}
use Rattle.warg_log.specs.declared.proof.InclusionProofError.TheVariants as Inclusion
use Rattle.warg_log.specs.declared.consistency.ConsistencyProofError.{ConsistencyProofError}
use Rattle.warg_log.specs.declared.consistency.ConsistencyProofError.TheVariants as Consistency
use Rattle.warg_log.specs.Nodes.{end_of, balanced_roots}
use Rattle.warg_log.specs.Tree.{root_of, leaves_below, own_digest}
use Rattle.warg_crypto.specs.Bytes.{same_bytes}
use Rattle.warg_log.specs.Cut.{old_root}
use Rattle.warg_protobuf.specs.Reading.{◌>>=◌}
use Rattle.warg_log.specs.Consistency.{root_to, agreed_root, new_root_of, both_roots, consistency, LeadsTo, IsConsistent}
use Rattle.warg_protobuf.proofs.ForCallers.{all_weaken}
use Rattle.warg_log.proofs.CutLemmas.{cut_root_own, old_root_own}
use Rattle.warg_log.proofs.BalancedLemmas.{has_first_over}
use Rattle.warg_log.proofs.OrderLemmas.{roots_end}

-- ---- inclusion

-- an evaluation that is looked at where the node's leaves end in time
abbrev evaluation : ℕ → ℕ → Option (List ℕ) → Result (List ℕ) InclusionProofError
evaluation end n cut = if nat_le end n then ok_or cut Inclusion.HashNotKnown else Err Inclusion.LeafTooNew

pub leads : (end n : ℕ) (cut : Option (List ℕ)) (root : List ℕ)
    → (evaluation end n cut ≡ Ok root) ↔ ((end ≤ n) × (cut ≡ Some root))
leads end n (Some found) root = grind arith
leads end n None root = grind arith

pub too_new : (end n : ℕ) (cut : Option (List ℕ)) → (evaluation end n cut ≡ Err Inclusion.LeafTooNew) ↔ (end ≤ n → ⊥)
too_new end n (Some found) = grind arith
too_new end n None = grind arith

pub unknown : (end n : ℕ) (cut : Option (List ℕ)) → (evaluation end n cut ≡ Err Inclusion.HashNotKnown) ↔
    ((end ≤ n) × (cut ≡ None))
unknown end n (Some found) = grind arith
unknown end n None = grind arith

-- ---- consistency

all_ok : (zero late : Bool) (new : Result (List ℕ) ConsistencyProofError) (old : Option (List ℕ)) (o r : List ℕ)
    → (if zero then Err Consistency.OldLengthZero else if late then Err Consistency.PointsOutOfOrder else both_roots new
    old) ≡ Ok (o, r)
    → (zero ≡ false) × (late ≡ false) × (new ≡ Ok r) × (old ≡ Some o)
all_ok false false (Ok n) (Some p) o r e = grind arith
all_ok zero late new old o r e = absurd (cc)

-- a root that is compared with the agreed one
agreed_on : (q next : Result (List ℕ) ConsistencyProofError) (a r : List ℕ)
    → ◌>>=◌ q (λ s. if same_bytes s a then next else Err Consistency.DivergingRoots) ≡ Ok r
    → (q ≡ Ok a) × (next ≡ Ok r)
agreed_on (Ok s) next a r e = grind (arith, bytes_decides s a)
agreed_on (Err fault) next a r e = absurd (cc)

module _ (H : List ℕ → List ℕ) (F : ℕ → Option (List ℕ)) where
  root_ok : (n t : ℕ) (r : List ℕ) → root_to H F n t ≡ Ok r → LeadsTo H F n r t
  root_ok n t r e = grind arith

  agreed_ok : (n : ℕ) (a r : List ℕ) (ts : List ℕ) → agreed_root H F n a ts ≡ Ok r
      → (a ≡ r) × AllByRecursion (LeadsTo H F n a) ts
  agreed_ok n a r [] e = (cc, tt)
  agreed_ok n a r (t ∷ ts) e =
      let at = agreed_on (root_to H F n t) (agreed_root H F n a ts) a r e in
      let rest = agreed_ok n a r ts at.1 in
      (rest.0, (root_ok n t a at.0, rest.1))

  new_ok : (n : ℕ) (r : List ℕ) (ts : List ℕ) → new_root_of H F n ts ≡ Ok r → AllByRecursion (LeadsTo H F n r) ts
  new_ok n r [] e = absurd (cc)
  new_ok n r (t ∷ ts) e = grind (arith, agreed_ok)

  pub consistency-only : (m n : ℕ) (old new : List ℕ) → consistency H F m n ≡ Ok (old, new)
      → IsConsistent H F m n old new
  consistency-only m n old new e = grind (
    arith,
    all_ok (m == 0) (nat_lt n m) (new_root_of H F n (balanced_roots m))
        (old_root H F m) old new e,
    new_ok,
  )

  -- roots that meet it
  agreed_all : (n : ℕ) (r : List ℕ) (ts : List ℕ) → AllByRecursion (LeadsTo H F n r) ts → agreed_root H F n r ts ≡ Ok r
  agreed_all n r [] all = refl
  agreed_all n r (t ∷ ts) all = rw (all.0.1, all.0.2, (bytes_decides r r).1 refl) (agreed_all n r ts all.1)

  pub consistency-then : (m n : ℕ) (old new : List ℕ) → IsConsistent H F m n old new → consistency H F m n
      ≡ Ok (old, new)
  consistency-then m n old new is = grind (arith, has_first_over 0 m is.some, agreed_all)

-- the faults of an evaluation: never memory, and within an inclusion proof that a digest isn't known
pub record EvaluationFault {X : Type 0} (r : Result X ConsistencyProofError) : Type 0 where
  pub memory : r ≡ Err Consistency.Memory → ⊥
  pub within : (fault : InclusionProofError) → r ≡ Err (Consistency.InclusionError fault)
      → fault ≡ Inclusion.HashNotKnown

abbrev IsEvaluationFault : ConsistencyProofError → Type 0
IsEvaluationFault Consistency.Memory = ⊥
IsEvaluationFault (Consistency.InclusionError fault) = fault ≡ Inclusion.HashNotKnown
IsEvaluationFault other = Unit {0}

abbrev pub Evaluates : {X : Type 0} → Result X ConsistencyProofError → Type 0
Evaluates (Ok x) = Unit {0}
Evaluates (Err fault) = IsEvaluationFault fault

-- a fault that is passed on
pub passed_on : {A B : Type 0} (q : Result A ConsistencyProofError) (r : Result B ConsistencyProofError)
    (e f : ConsistencyProofError) → Evaluates q → Err e ≡ q → f ≡ e → r ≡ Err f → EvaluationFault r
passed_on q r e f at was same is = grind arith

module _ (H : List ℕ → List ℕ) (F : ℕ → Option (List ℕ)) where
  agreed_evaluates : (n : ℕ) (a : List ℕ) (ts : List ℕ) → Evaluates (agreed_root H F n a ts)
  agreed_evaluates n a [] = tt
  agreed_evaluates n a (t ∷ ts) = grind (arith, agreed_evaluates n a ts)

  pub new_root_evaluates : (n : ℕ) (ts : List ℕ) → Evaluates (new_root_of H F n ts)
  new_root_evaluates n [] = tt
  new_root_evaluates n (t ∷ ts) = grind (arith, agreed_evaluates)

-- a log's own digests
pub consistency_own : (H : List ℕ → List ℕ) (ds : List (List ℕ)) (m n : ℕ) → 0 < m → m ≤ n → n ≤ length ds
    → consistency H (own_digest H ds) m n ≡ Ok (root_of H (take m ds), root_of H (take n ds))
consistency_own H ds m n some order fits =
    consistency-then H (own_digest H ds) m n _ _ (record {
      some = some;
      order = order;
      old_root_is = old_root_own H ds m some (omega arith);
      new_root_is = all_weaken (λ t. end_of t ≤ length ds) _ (λ t exists. (
        root_of H (leaves_below t ds),
        rw (le-leb (end_of t) (length ds) exists) refl,
        cut_root_own H ds t n _ refl (omega arith) fits,
      )) (balanced_roots m) (roots_end m (length ds) (omega arith));
    })
