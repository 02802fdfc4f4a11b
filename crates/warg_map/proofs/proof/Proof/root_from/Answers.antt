use Rattle.std.proofs.Common.{◌<◌, refl, arith}
use Rattle.warg_map.specs.Bits.{bits_from}
use Rattle.warg_map.specs.ProofValue.{proof_value}
use Rattle.warg_map.proofs.ProofValue.{proof_value-more}
use Rattle.warg_map.proofs.proof.Proof.root_from.Goals as goal

pub loop-height-init : goal.loop-height-init
unfolding proof_value bits_from
loop-height-init g c = (refl, c.empty_tree-empty.ensures)

pub loop-height-preserved : goal.loop-height-preserved
loop-height-preserved g c =
    let lt : c.loop-height.height < 256 = omega arith in
    let more = proof_value-more g.D.SupportedDigest.digest c.args.self.now c.args.leaf c.args.key.now
    c.loop-height.height lt in (
      rw (c.branch-hash.ensures, c.side_at.ensures, c.peer.ensures, c.loop-height.invariant.0, more),
      c.empty_above-empty.ensures,
    )
