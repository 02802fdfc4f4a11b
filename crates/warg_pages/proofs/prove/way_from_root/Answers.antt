use Rattle.std.proofs.Common.{◌≡◌, ◌++◌, ap, ◌∙◌, arith, sym}
use Rattle.warg_pages.proofs.HashEquality.{same_hashes, other_hashes}
use Rattle.warg_pages.proofs.Refused.{if_ok, if_err, of_source}
use Rattle.warg_pages.proofs.FinalPeers.{own_at_root, whole_way, whole_own, empty_way, empty_own, no_empty_way}
use Rattle.warg_pages.proofs.prove.way_from_root.Goals as goal

pub returns-then-version-ne0-clause-ok : goal.returns-then-version-ne0-clause-ok
returns-then-version-ne0-clause-ok g c =
    if_ok _ _ _ c.descend.ensures.ok
    (λ held way. whole_way _ c.args.root.now c.args.key.now _ way.0 held
    (way.1 ∙ ap (λ os. os ++ way.0) c.requires) way.2)

pub returns-then-version-ne0-clause-own : goal.returns-then-version-ne0-clause-own
returns-then-version-ne0-clause-own g c =
    let some : ¬ (c.args.version ≡ 0) = λ z. c.if-version-ne0.true z in
    if_ok c.descend.result _ _ c.descend.ensures.ok (λ held way known es is_known own. whole_own _ _ _ way.0 held es
    (way.1 ∙ ap (λ os. os ++ way.0) c.requires) (way.3 known es is_known
    (own_at_root _ _ _ _ _ es (omega arith) some own)))

pub returns-then-version-ne0-clause-err : goal.returns-then-version-ne0-clause-err
returns-then-version-ne0-clause-err g c =
    let some : ¬ (c.args.version ≡ 0) = λ z. c.if-version-ne0.true z in
    if_err c.descend.result _ _ c.descend.ensures.err
    (λ e. of_source e (λ fault known es is_known own. fault known es is_known
    (own_at_root _ _ _ _ _ es (omega arith) some own)))

pub returns-then-ne-clause-err : goal.returns-then-ne-clause-err
returns-then-ne-clause-err g c = λ known es is_known own.
    let none : c.args.version ≡ 0 = omega arith in
    no_empty_way _ _ _ _ es none
    (λ e. other_hashes _ _ _ c.ne.ensures c.if-ne.true (e ∙ sym c.empty_tree.ensures)) own

pub returns-clause-ok : goal.returns-clause-ok
returns-clause-ok g c =
    empty_way _ _ c.args.key.now _ c.requires
    (same_hashes _ _ _ c.ne.ensures c.if-ne.false ∙ c.empty_tree.ensures)

pub returns-clause-own : goal.returns-clause-own
returns-clause-own g c = λ known es is_known own.
    let none : c.args.version ≡ 0 = omega arith in
    empty_own _ _ _ c.args.key.now c.args.version _ es none c.requires own
