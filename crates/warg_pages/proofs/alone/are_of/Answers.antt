use Rattle.std.proofs.Common.{◌≡◌, ◌+◌, ◌++◌, [], ◌∷◌, take, refl, sym, ap, ◌∙◌, arith}
use Rattle.std.proofs.lemmas.List.{take_more, take_all}
use Rattle.std.proofs.lemmas.List.Elements.{All-append, All-cons, All-nil}
use Rattle.warg_pages.specs.Private.Updates.{ChangeAt}
use Rattle.warg_pages.proofs.HashEquality.{same_hashes}
use Rattle.warg_pages.proofs.alone.are_of.Goals as goal

pub loop-change-preserved : goal.loop-change-preserved
loop-change-preserved g c =
    let here : c.change-item.result.key ≡ c.args.key.now = sym (ap (λ (x : ChangeAt). x.key) c.change.view_is)
    ∙ same_hashes _ _ _ c.ne.ensures c.if-ne.false in
    let more = take_more c.args.changes.now _ _ (omega arith) in
    let same : take (c.loop-change.change-index + 1) c.args.changes.now
    ≡ take c.loop-change.change-index c.args.changes.now ++ c.change-item.result ∷ [] = more
    ∙ ap (λ x. take c.loop-change.change-index c.args.changes.now ++ x ∷ []) (sym c.change-item.is) in
    rw same (All-append (λ (x : ChangeAt). x.key ≡ c.args.key.now) _
    (c.change-item.result ∷ []) c.loop-change.invariant
    (All-cons (λ (x : ChangeAt). x.key ≡ c.args.key.now) c.change-item.result [] here
    (All-nil (λ (x : ChangeAt). x.key ≡ c.args.key.now))))

pub returns : goal.returns
returns g c =
    let all : take c.loop-change.change-index c.args.changes.now ≡ c.args.changes.now =
    take_all _ _ c.loop-change-test.false in
    (λ t. rw all at c.loop-change.invariant, λ h. refl)
