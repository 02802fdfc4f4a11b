use Rattle.std.proofs.Common.{refl, arith}
use Rattle.std.proofs.lemmas.Grind.{common_steps}
use Rattle.warg_protobuf.specs.Varint.{varint_bytes, varint_bytes_in}
use Rattle.warg_protobuf.proofs.Varints.{writes_more}
use Rattle.warg_protobuf.proofs.writer.push_varint.Goals as goal

pub loop-left-init : goal.loop-left-init
unfolding varint_bytes
loop-left-init g c = (9, omega arith, refl)

pub loop-left-preserved : goal.loop-left-preserved
loop-left-preserved g c = rw c.in_ok-push.ensures.items
    (writes_more c.loop-left.out.items c.loop-left.left _ c.loop-left-test.true c.loop-left.invariant)

pub returns : goal.returns
unfolding varint_bytes_in
returns g c = grind (arith, common_steps)
