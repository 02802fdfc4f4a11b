use Rattle.std.proofs.Common.{refl, arith}
use Rattle.warg_bundle.proofs.ServeLemmas.{own_growth}
use Rattle.warg_bundle.proofs.log.serve.growth_bytes.Goals as goal

pub bundle_bytes-requires : goal.bundle_bytes-requires
bundle_bytes-requires g c =
    let inside = c.in_ok-proof.ensures.exactly.0 refl in
    own_growth g.D.SupportedDigest.digest c.args.log.now c.in_ok-proofs.proofs.items c.new.result.items
    c.in_ok-proof.proof c.args.old_length c.args.new_length
    c.in_ok-proofs.ensures.items c.new.ensures.items c.in_ok-proof.ensures.old_length c.in_ok-proof.ensures.new_length
    inside.1 inside.2 (omega arith)
