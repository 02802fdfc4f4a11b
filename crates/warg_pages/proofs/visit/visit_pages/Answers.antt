use Rattle.std.proofs.Common.{◌≡◌, [], sym, ◌∙◌, arith}
use Rattle.std.proofs.lemmas.List.{append-nil}
use Rattle.std.proofs.lemmas.Result.{on_ok_weaker}
use Rattle.warg_pages.proofs.HashEquality.{same_hashes, other_hashes}
use Rattle.warg_pages.proofs.Refused.{if_err, of_source}
use Rattle.warg_pages.proofs.FinalPeers.{no_empty_way}
use Rattle.warg_pages.proofs.VisitedPages.{all_from, all_of_none, own_root}
use Rattle.warg_pages.proofs.visit.visit_pages.Goals as goal

pub returns-then-version-ne0-clause-refused : goal.returns-then-version-ne0-clause-refused
returns-then-version-ne0-clause-refused g c =
    let some : ¬ (c.args.version ≡ 0) = λ z. c.if-version-ne0.true z in
    if_err c.visit_from.result _ _ c.visit_from.ensures.refused
    (λ e. of_source e (λ fault known es is_known own. fault known es is_known
    (own_root _ _ _ _ es (omega arith) some own)))

pub returns-then-ne-clause-refused : goal.returns-then-ne-clause-refused
returns-then-ne-clause-refused g c = λ known es is_known own.
    let none : c.args.version ≡ 0 = omega arith in
    no_empty_way _ _ _ _ es none
    (λ e. other_hashes _ _ _ c.ne.ensures c.if-ne.true (e ∙ sym c.empty_tree.ensures)) own

pub returns-then-version-ne0-clause-seen : goal.returns-then-version-ne0-clause-seen
returns-then-version-ne0-clause-seen g c =
    let some : ¬ (c.args.version ≡ 0) = λ z. c.if-version-ne0.true z in
    on_ok_weaker c.visit_from.result (λ seen before has.
    let at = seen before has in (
      at.0,
      at.1,
      λ known is. all_from g.D.SupportedDigest.digest _ _ c.args.root.now c.args.version at.0 some (at.2 known is),
    )) c.visit_from.ensures.seen

pub returns-clause-seen : goal.returns-clause-seen
returns-clause-seen g c = λ before has.
    let none : c.args.version ≡ 0 = omega arith in (
      [],
      rw (append-nil before) has,
      λ known is. all_of_none g.D.SupportedDigest.digest _ _ c.args.root.now c.args.version none
          (same_hashes _ _ _ c.ne.ensures c.if-ne.false ∙ c.empty_tree.ensures),
    )
