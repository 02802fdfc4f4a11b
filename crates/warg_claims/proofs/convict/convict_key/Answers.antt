use Rattle.std.proofs.Common.{◌≡◌, true, Ok, ◌∙◌}
use Rattle.warg_crypto.specs.Tree.{leaf_digest}
use Rattle.warg_protobuf.specs.MapProofBundle.{MapBundle}
use Rattle.warg_map.specs.Sparse.{pair_bytes}
use Rattle.warg_check.specs.Verdicts.{leads}
use Rattle.warg_check.specs.Claims.{verdict}
use Rattle.warg_check.specs.Claims.Claim.{value_under}
use Rattle.warg_check.specs.Claims.Evidence.{by_bundle}
use Rattle.warg_claims.proofs.ConvictLemmas.{if_ok, seen_true, at_place, past_place, none_there, key_convicts}
use Rattle.warg_claims.proofs.convict.convict_key.Goals as goal

pub returns-in-Some : goal.returns-in-Some
returns-in-Some g c =
    let H = g.D.SupportedDigest.digest in
    let key = g.K.VisitBytes.bytes c.args.key.now in
    let value = g.V.VisitBytes.bytes c.args.value.now in
    let insertions = pair_bytes g.K.VisitBytes.bytes g.V.VisitBytes.bytes c.args.insertions.now in
    let get = c.in-Some.ensures.lookup in
    let shown : verdict H (value_under key value c.args.root.now) (by_bundle c.args.bytes.now c.args.at) ≡ Ok true =
    seen_true (c.in_ok-is_true.ensures _ c.check_key.ensures.verdict) c.if-not-branch.false in
    if_ok c.witness_key.result
    (λ finding. key_convicts H c.args.bytes.now c.args.at key value c.args.root.now insertions c.in-Ok.bundle
    c.in-Some.proof.now finding c.in-Ok.ensures.exact
    (at_place (c.as_slice.ensures.value ∙ c.unbundle-proofs.ensures) get.3.0 get.1) shown)
    c.witness_key.ensures.found

pub returns : goal.returns
returns g c = λ is.
    let H = g.D.SupportedDigest.digest in
    let key = g.K.VisitBytes.bytes c.args.key.now in
    none_there (λ (b : MapBundle). b.proofs)
    (λ _. leads H (leaf_digest H (g.V.VisitBytes.bytes c.args.value.now)) key c.args.root.now) c.args.at c.in-Ok.ensures.exact
    (past_place (c.as_slice.ensures.value ∙ c.unbundle-proofs.ensures) c.in-None.ensures.lookup.3) is.shown
