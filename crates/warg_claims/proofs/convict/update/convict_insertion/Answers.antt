use Rattle.std.proofs.Common.{◌≡◌, true, Ok, ◌∙◌}
use Rattle.warg_crypto.specs.EmptyTrees.{empty_root}
use Rattle.warg_crypto.specs.Tree.{leaf_digest}
use Rattle.warg_protobuf.specs.MapProofBundle.{MapBundle}
use Rattle.warg_map.specs.Sparse.{pair_bytes}
use Rattle.warg_check.specs.UpdateVerdicts.{leads_both}
use Rattle.warg_check.specs.Claims.{verdict}
use Rattle.warg_check.specs.Claims.Claim.{insertion}
use Rattle.warg_check.specs.Claims.Evidence.{by_bundle}
use Rattle.warg_claims.proofs.ConvictLemmas.{if_ok, seen_true, at_place, past_place, none_there, insertion_convicts}
use Rattle.warg_claims.proofs.convict.update.convict_insertion.Goals as goal

pub returns-in-Some : goal.returns-in-Some
returns-in-Some g c =
    let H = g.D.SupportedDigest.digest in
    let key = g.K.VisitBytes.bytes c.args.key.now in
    let value = g.V.VisitBytes.bytes c.args.value.now in
    let old = pair_bytes g.K.VisitBytes.bytes g.V.VisitBytes.bytes c.args.old_insertions.now in
    let new = pair_bytes g.K.VisitBytes.bytes g.V.VisitBytes.bytes c.args.new_insertions.now in
    let get = c.in-Some.ensures.lookup in
    let shown : verdict H (insertion key value c.args.old_root.now c.args.new_root.now)
    (by_bundle c.args.bytes.now c.args.at) ≡ Ok true =
    seen_true (c.in_ok-is_true.ensures _ c.check_insertion-verdict.ensures.verdict) c.if-not-branch.false in
    if_ok c.witness_change.result
    (λ finding. insertion_convicts H c.args.bytes.now c.args.at key value c.args.old_root.now c.args.new_root.now old
    new
    c.in-Ok.bundle c.in-Some.absence.now finding c.in-Ok.ensures.exact
    (at_place (c.as_slice.ensures.value ∙ c.unbundle_all-proofs.ensures.absences) get.3.0 get.1) shown)
    c.witness_change.ensures.found

pub returns : goal.returns
returns g c = λ is.
    let H = g.D.SupportedDigest.digest in
    let key = g.K.VisitBytes.bytes c.args.key.now in
    none_there (λ (b : MapBundle). b.absences)
    (λ _. leads_both H key (empty_root H 0) (leaf_digest H (g.V.VisitBytes.bytes c.args.value.now)) c.args.old_root.now
    c.args.new_root.now) c.args.at c.in-Ok.ensures.exact
    (past_place (c.as_slice.ensures.value
    ∙ c.unbundle_all-proofs.ensures.absences) c.in-None.ensures.lookup.3) is.shown
