use Rattle.std.proofs.Common.{is_some, ap, ◌∙◌}
use Rattle.std.specs.FinMap.{get}
use Rattle.warg_map.specs.declared.walk.Asked.TheVariants.{Presence}
use Rattle.warg_map.specs.Bits.{last_bits}
use Rattle.warg_map.specs.Private.Walk.{answer_of}
use Rattle.warg_map.proofs.SparseTree.{get-insert_same}
use Rattle.warg_map.proofs.InsertionSteps.{root_before, root_after, grows}
use Rattle.warg_map.proofs.KeyBits.{length-last_bits}
use Rattle.warg_map.proofs.map.Map.insert_with_proof.Goals as goal

pub returns-clause-ok : goal.returns-clause-ok
returns-clause-ok g c =
    let found = ap (λ m. get m (last_bits c.of-key.result 256)) c.in_ok-map.ensures.ok ∙ get-insert_same _ _ _ in
    let shown = rw found at c.in_ok-proof.ensures.proof
    (ap is_some (c.in_ok-proof.ensures.answer ∙ ap (answer_of g.D.SupportedDigest.digest Presence) found)) in
    let proves = rw (c.in_ok-map.ensures.ok, c.of-key.ensures, c.hash_leaf.ensures) at shown in
    record {
      inserted = rw (c.of-key.ensures, c.hash_leaf.ensures) at c.in_ok-map.ensures.ok;
      proves = rw c.of-key.ensures at shown;
      before = root_before c.args.self.now _
          (length-last_bits _ 256) proves;
      after = rw (c.in_ok-map.ensures.ok, c.of-key.ensures, c.hash_leaf.ensures)
          (root_after c.args.self.now _
          (length-last_bits _ 256) proves);
      newness = rw (c.len.ensures, c.len-2.ensures, ← c.of-key.ensures)
          (grows c.args.self.now c.in_ok-map.map (last_bits c.of-key.result 256) _ c.in_ok-map.ensures.ok);
    }
