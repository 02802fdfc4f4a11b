use Rattle.std.proofs.Common.{◌≡◌, map, true, Ok, ap, sym, ◌∙◌, Some}
use Rattle.std.proofs.lemmas.List.{length-map}
use Rattle.warg_check.specs.Claims.{verdict}
use Rattle.warg_check.specs.Claims.Claim.{entry_at}
use Rattle.warg_check.specs.Claims.Evidence.{by_path}
use Rattle.warg_claims.proofs.ConvictLemmas.{if_ok, seen_true, entry_path_convicts}
use Rattle.warg_claims.proofs.convict.convict_entry_path.Goals as goal

pub returns : goal.returns
returns g c =
    let H = g.D.SupportedDigest.digest in
    let value = g.V.VisitBytes.bytes c.args.value.now in
    let entries = map g.V.VisitBytes.bytes c.args.entries.now in
    let shown : verdict H (entry_at c.args.index value c.args.log.now) (by_path c.args.bytes.now) ≡ Ok true =
    seen_true (c.in_ok-is_true.ensures _ c.check_entry_path.ensures.verdict) c.if-not-branch.false in
    if_ok c.witness_record.result
    (λ finding. entry_path_convicts H c.args.bytes.now c.args.index value c.args.log.now entries c.as_slice.result.now
    finding
    (c.in-Ok.ensures.ok ∙ ap Some (sym c.as_slice.ensures.value))
    (length-map c.args.entries.now g.V.VisitBytes.bytes ∙ c.if-entries-length.false ∙ c.length.ensures) shown)
    c.witness_record.ensures.found
