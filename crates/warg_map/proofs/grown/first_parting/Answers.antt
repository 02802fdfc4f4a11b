use Rattle.std.proofs.Common.{arith, sym, ap, ◌∙◌}
use Rattle.std.proofs.lemmas.List.{take_more}
use Rattle.warg_protobuf.proofs.ForCallers.{all_push, all_weaken}
use Rattle.warg_map.specs.Bits.{bits_from}
use Rattle.warg_map.proofs.ManyLeaves.{apart_step}
use Rattle.warg_map.proofs.KeyBits.{bits_from-fewer}
use Rattle.warg_map.proofs.grown.first_parting.Goals as goal

pub loop-leaf-preserved : goal.loop-leaf-preserved
loop-leaf-preserved g c =
    let e = c.leaf-item.result in
    let shared = c.shared_bits-shared.ensures in
    let same = sym (shared.same ∙ ap (λ k. bits_from k c.args.from c.shared_bits-shared.result) c.key.ensures) in
    rw (take_more c.deref-leaf-items.result.now c.loop-leaf.leaf-index e c.loop-leaf-test.true, ← c.leaf-item.is)
    (record {
      at_most = omega (arith, shared.at_most, c.loop-leaf.invariant.at_most);
      same = all_push _ _ e (all_weaken _ _
          (λ x. bits_from-fewer x.key c.args.key.now c.args.from c.shared_bits-shared.result c.loop-leaf.shared
          shared.at_most) _ c.loop-leaf.invariant.same) same;
      apart = apart_step c.args.key.now c.args.from c.args.len c.loop-leaf.shared c.shared_bits-shared.result _ e
          c.loop-leaf.invariant.apart shared.at_most (rw c.key.ensures at shared.apart);
    })
