use Rattle.std.proofs.Common.{◌≡◌, map, true, Ok, ap}
use Rattle.warg_log.specs.Sparse.{held_digest}
use Rattle.warg_check.specs.Claims.{verdict}
use Rattle.warg_check.specs.Claims.Claim.{growth}
use Rattle.warg_check.specs.Claims.Evidence.{by_bundle}
use Rattle.warg_claims.proofs.ConvictLemmas.{if_ok, seen_true, growth_convicts}
use Rattle.warg_claims.proofs.convict.convict_growth.Goals as goal

pub returns-in-Some : goal.returns-in-Some
returns-in-Some g c =
    let H = g.D.SupportedDigest.digest in
    let before = map g.V.VisitBytes.bytes c.args.old_entries.now in
    let after = map g.V.VisitBytes.bytes c.args.new_entries.now in
    let shown : verdict H (growth c.args.old.now c.args.new.now) (by_bundle c.args.bytes.now c.args.at) ≡ Ok true =
    seen_true (c.in_ok-is_true.ensures _ c.check_growth.ensures.verdict) c.if-not-branch.false in
    if_ok c.witness_consistency.result
    (λ finding. growth_convicts H c.args.bytes.now c.args.at c.args.old.now c.args.new.now before after c.in-Ok.bundle
    c.in-Some.proof.old_length c.in-Some.proof.new_length _ finding c.in-Ok.ensures.exact c.in-Some.ensures.old_length
    c.in-Some.ensures.new_length (ap held_digest c.hashes.ensures.value) shown)
    c.witness_consistency.ensures.found
