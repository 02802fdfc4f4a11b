use Rattle.std.proofs.Common.{◌≡◌, map, true, Ok, ap}
use Rattle.warg_log.specs.Sparse.{held_digest}
use Rattle.warg_check.specs.Claims.{verdict}
use Rattle.warg_check.specs.Claims.Claim.{entry_at}
use Rattle.warg_check.specs.Claims.Evidence.{by_bundle}
use Rattle.warg_claims.proofs.ConvictLemmas.{if_ok, seen_true, entry_convicts}
use Rattle.warg_claims.proofs.convict.convict_entry.Goals as goal

pub returns-in-Some : goal.returns-in-Some
returns-in-Some g c =
    let H = g.D.SupportedDigest.digest in
    let value = g.V.VisitBytes.bytes c.args.value.now in
    let entries = map g.V.VisitBytes.bytes c.args.entries.now in
    let shown : verdict H (entry_at c.args.index value c.args.log.now) (by_bundle c.args.bytes.now c.args.at)
    ≡ Ok true =
    seen_true (c.in_ok-is_true.ensures _ c.check_entry.ensures.verdict) c.if-not-branch.false in
    if_ok c.witness_value.result
    (λ finding. entry_convicts H c.args.bytes.now c.args.at c.args.index value c.args.log.now entries c.in-Ok.bundle
    c.in-Some.proof _ finding c.in-Ok.ensures.exact c.in-Some.ensures.leaf c.in-Some.ensures.log_length
    (ap held_digest c.hashes.ensures.value) shown)
    c.witness_value.ensures.found
