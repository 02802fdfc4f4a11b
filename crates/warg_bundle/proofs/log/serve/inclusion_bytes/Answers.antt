use Rattle.std.proofs.Common.{refl, arith}
use Rattle.warg_bundle.proofs.ServeLemmas.{own_leaf}
use Rattle.warg_bundle.proofs.log.serve.inclusion_bytes.Goals as goal

pub bundle_bytes-requires : goal.bundle_bytes-requires
bundle_bytes-requires g c =
    let inside = c.in_ok-proof.ensures.exactly.0 refl in
    own_leaf g.D.SupportedDigest.digest c.args.log.now c.new.result.items c.in_ok-proofs.proofs.items
    c.in_ok-proof.proof c.args.index c.args.log_length
    c.new.ensures.items c.in_ok-proofs.ensures.items c.in_ok-proof.ensures.leaf c.in_ok-proof.ensures.length inside.0
    inside.1 (omega arith)
