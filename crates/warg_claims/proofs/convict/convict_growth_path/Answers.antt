use Rattle.std.proofs.Common.{◌≡◌, map, true, Ok, ap, sym, ◌∙◌, Some}
use Rattle.std.proofs.lemmas.List.{length-map}
use Rattle.warg_check.specs.Claims.{verdict}
use Rattle.warg_check.specs.Claims.Claim.{growth}
use Rattle.warg_check.specs.Claims.Evidence.{by_path}
use Rattle.warg_claims.proofs.ConvictLemmas.{if_ok, seen_true, growth_path_convicts}
use Rattle.warg_claims.proofs.convict.convict_growth_path.Goals as goal

pub returns : goal.returns
returns g c =
    let H = g.D.SupportedDigest.digest in
    let bytes_of = g.V.VisitBytes.bytes in
    let before = map bytes_of c.args.old_entries.now in
    let after = map bytes_of c.args.new_entries.now in
    let shown : verdict H (growth c.args.old.now c.args.new.now) (by_path c.args.bytes.now) ≡ Ok true =
    seen_true (c.in_ok-is_true.ensures _ c.check_growth_path.ensures.verdict) c.if-not-branch.false in
    if_ok c.witness_tree.result
    (λ finding. growth_path_convicts H c.args.bytes.now c.args.old.now c.args.new.now before after c.as_slice.result.now
    finding (c.in-Ok.ensures.ok ∙ ap Some (sym c.as_slice.ensures.value))
    (length-map c.args.old_entries.now bytes_of ∙ c.if-old_entries-length.false ∙ c.length.ensures)
    (length-map c.args.new_entries.now bytes_of ∙ c.if-new_entries-length.false ∙ c.length-2.ensures)
    (sym c.root.ensures ∙ c.in_ok-have_root.ensures.0 c.if-not-branch-2.false) shown)
    c.witness_tree.ensures.found
