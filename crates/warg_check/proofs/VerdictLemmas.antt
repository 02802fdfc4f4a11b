-- The steps of a verdict.
use Rattle.std.proofs.Common.{◌≡◌, ◌≢◌, ℕ, ◌&&◌, Bool, true, nat_eq, List, Option, Some, None, Result, Ok, Err, length, get_or, refl, sym, ap, ◌∙◌, ⊎_elim, ◌<◌, ◌≤◌}
use Rattle.std.specs.Prelude.{slice_get}
use Rattle.std.specs.Cmp.Lexicographic.{pointwise, same_text}
use Rattle.std.proofs.lemmas.Option.{slice_get_read, slice_get_past}
use Rattle.std.proofs.lemmas.Bool.{and_parts, cases_Bool}
use Rattle.warg_log.specs.declared.proof.InclusionProofError.{InclusionProofError}
use Rattle.warg_log.specs.declared.consistency.ConsistencyProofError.{ConsistencyProofError}
use Rattle.warg_protobuf.specs.declared.value_error.DecodeError.{DecodeError}
use Rattle.warg_check.specs.declared.verdict.CheckError.{CheckError}
use Rattle.warg_check.specs.declared.verdict.CheckError.TheVariants as fault
use Rattle.warg_map.specs.Bits.{key_bits}
use Rattle.warg_map.specs.ProofValue.{proof_value}
use Rattle.warg_map.specs.Messages.{Peers}
use Rattle.warg_check.specs.Verdicts.{judged, verdict_at, is_root, are_roots, leads}
use Rattle.warg_check.specs.UpdateVerdicts.{leads_both}

-- from a bundle that is read to the verdict on one of its proofs
pub judged_at : {B P : Type 0} (proofs : B → List P) (holds : B → P → Bool) (at : ℕ) (read : Result B DecodeError)
    (b : B) (proof : P) (is : Bool)
    → read ≡ Ok b → slice_get (proofs b) at ≡ Some proof → holds b proof ≡ is → verdict_at proofs holds at read ≡ Ok is
judged_at proofs holds at read b proof is reads there judges =
    ap (verdict_at proofs holds at) reads ∙ ap (judged (holds b)) there ∙ ap Ok judges

-- a place past the last proof
pub none_at : {B P : Type 0} (proofs : B → List P) (holds : B → P → Bool) (at : ℕ) (read : Result B DecodeError) (b : B)
    → read ≡ Ok b → slice_get (proofs b) at ≡ None → verdict_at proofs holds at read ≡ Err fault.NoSuchProof
none_at proofs holds at read b reads none = ap (verdict_at proofs holds at) reads ∙ ap (judged (holds b)) none

-- a verdict is no fault of the bytes, and neither is a place past the last proof
pub not_refused : (holds : Bool) (e : CheckError) → ◌≢◌ {A = Result Bool CheckError} (Ok holds) (Err e)
not_refused holds e is = absurd cc

pub not_decoding : (e : DecodeError) → ◌≢◌ {A = Result Bool CheckError} (Err fault.NoSuchProof) (Err (fault.Decode e))
not_decoding e is = absurd cc

-- the proof at a place
pub at_place : {P : Type 0} (all taken : List P) (at : ℕ) (proof : P) → taken ≡ all → at < length taken
    → proof ≡ get_or taken at proof → slice_get all at ≡ Some proof
at_place all taken at proof same within is = rw (← same) (slice_get_read taken (length taken) at proof refl within is)

pub past_place : {P : Type 0} (all taken : List P) (at : ℕ) → taken ≡ all → length taken ≤ at → slice_get all at ≡ None
past_place all taken at same past = rw (← same) (slice_get_past taken at past)

-- peers that were evaluated
pub leads_to : (H : List ℕ → List ℕ) (leaf key root : List ℕ) (peers : Peers) (found : List ℕ) (holds : Bool)
    → found ≡ proof_value H peers leaf (key_bits H key)
    → holds ≡ (pointwise nat_eq found root && true) → leads H leaf key root peers ≡ holds
leads_to H leaf key root peers found holds is same =
    rw (same, is) (⊎_elim (λ t. rw t refl) (λ f. rw f refl)
    (cases_Bool (pointwise nat_eq (proof_value H peers leaf (key_bits H key)) root)))

-- what a verdict that is true says
true_judged : {P : Type 0} (holds : P → Bool) (o : Option P) → judged holds o ≡ Ok true → (proof : P)
    × (holds proof ≡ true) × (o ≡ Some proof)
true_judged holds None is = absurd cc
true_judged holds (Some proof) is = let holds_is : holds proof ≡ true = cc in (proof, holds_is, refl)

pub true_verdict : {B P : Type 0} (proofs : B → List P) (holds : B → P → Bool) (at : ℕ) (read : Result B DecodeError)
    → verdict_at proofs holds at read ≡ Ok true
    → (b : B) × (proof : P) × (read ≡ Ok b) × (holds b proof ≡ true) × (slice_get (proofs b) at ≡ Some proof)
true_verdict proofs holds at (Err e) is = absurd cc
true_verdict proofs holds at (Ok b) is = let judge = true_judged (holds b) (slice_get (proofs b) at) is in
    (b, judge.0, refl, judge.1, judge.2)

-- two roots that are these
pub roots_are : (old new : List ℕ) (roots : Result (List ℕ × List ℕ) ConsistencyProofError) → are_roots old new roots
    ≡ true → roots ≡ Ok (old, new)
roots_are old new (Err e) is = absurd cc
roots_are old new (Ok roots) is =
    let both = and_parts (pointwise nat_eq roots.0 old) (pointwise nat_eq roots.1 new) is in
    let with_old : List ℕ → List ℕ × List ℕ = λ x. (x, roots.1) in
    let with_new : List ℕ → List ℕ × List ℕ = λ y. (old, y) in
    ap Ok (ap with_old (same_text roots.0 old (sym both.0)) ∙ ap with_new (same_text roots.1 new (sym both.1)))

-- peers that lead from both leaves to both roots
pub both_lead : (H : List ℕ → List ℕ) (key old_leaf new_leaf old_root new_root : List ℕ) (peers : Peers)
    → leads_both H key old_leaf new_leaf old_root new_root peers ≡ true
    → (proof_value H peers old_leaf (key_bits H key) ≡ old_root)
    × (proof_value H peers new_leaf (key_bits H key) ≡ new_root)
both_lead H key old_leaf new_leaf old_root new_root peers is =
    let both = and_parts (leads H old_leaf key old_root peers) (leads H new_leaf key new_root peers) is in (
      same_text (proof_value H peers old_leaf (key_bits H key)) old_root (sym both.0),
      same_text (proof_value H peers new_leaf (key_bits H key)) new_root (sym both.1),
    )

pub root_is : (root : List ℕ) (found : Result (List ℕ) InclusionProofError) → is_root root found ≡ true
    → found ≡ Ok root
root_is root (Err e) is = absurd cc
root_is root (Ok r) is = ap Ok (same_text r root (sym is))
