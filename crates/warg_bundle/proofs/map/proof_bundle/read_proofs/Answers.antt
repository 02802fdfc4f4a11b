use Rattle.std.proofs.Common.{◌≡◌, List, ◌++◌, ◌∷◌, [], Option, Some, None, Err, map, refl, ap, ◌∙◌}
use Rattle.warg_protobuf.specs.MapInclusionProof.{proof_view}
use Rattle.warg_protobuf.specs.Decoding.{first_fault, unless}
use Rattle.warg_map.specs.Messages.{proof_fault}
use Rattle.warg_protobuf.proofs.ForCallers.{no_fault, fault_behind, read_more}
use Rattle.warg_bundle.proofs.map.proof_bundle.read_proofs.Goals as goal

fault_is : {X E : Type 0} (fault : Option E) (x : X) (e : E) → unless fault x ≡ Err e → fault ≡ Some e
fault_is None x e is = absurd (cc)
fault_is (Some d) x e is = cc

fault_met : {X Y E : Type 0} (fault_of : X → Option E) (f : Y → X) (ys rest : List Y) (y : Y) (e : E) → ys ≡ y ∷ rest
    → fault_of (f y) ≡ Some e → first_fault fault_of (map f ys) ≡ Some e
fault_met fault_of f ys rest y e is bad = rw (is, bad) refl

pub messages-preserved : goal.messages-preserved
messages-preserved g c = record {
  can = tt;
  ends = tt;
  read = read_more proof_view _ _ c.in-Some.message c.messages.proofs.items _ _ c.in-Some.ensures.steps.0
      (c.in_ok-push.ensures.items ∙ ap (λ p. c.messages.proofs.items ++ p ∷ []) c.in_ok-from_message.ensures.message)
      c.messages.invariant.read;
  fault = c.messages.invariant.fault
      ∙ fault_behind proof_fault proof_view _ _ c.in-Some.message c.in-Some.ensures.steps.0
      (no_fault _ _ _ c.in_ok-from_message.ensures.exact).0;
}
