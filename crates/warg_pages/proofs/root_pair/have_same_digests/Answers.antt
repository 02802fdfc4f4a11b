use Rattle.std.proofs.Common.{◌≡◌, ◌∙◌, sym, ap, arith}
use Rattle.std.proofs.lemmas.List.{take_all}
use Rattle.warg_pages.specs.Slots.{SlotAt}
use Rattle.warg_pages.proofs.HashEquality.{same_hashes}
use Rattle.warg_pages.proofs.SlotDigests.{same_digests, one_more_same}
use Rattle.warg_pages.proofs.root_pair.have_same_digests.Goals as goal

pub loop-at-preserved : goal.loop-at-preserved
loop-at-preserved g c =
    let old = c.index-before-at.result in
    let new = c.index-after-at.result in
    let byte : old.byte ≡ new.byte = sym (ap (λ (x : SlotAt). x.byte) c.old.view_is) ∙ c.if-old-new.false
    ∙ ap (λ (x : SlotAt). x.byte) c.new.view_is in
    let digest : old.digest ≡ new.digest = sym (ap (λ (x : SlotAt). x.digest) c.old.view_is)
    ∙ same_hashes _ _ _ c.ne.ensures c.if-ne.false ∙ ap (λ (x : SlotAt). x.digest) c.new.view_is in
    one_more_same _ _ _ old new (omega arith)
    (omega arith) c.index-before-at.is c.index-after-at.is byte digest c.loop-at.invariant

pub returns : goal.returns
returns g c = λ t.
    let front = take_all c.loop-at.at c.args.before.now (omega arith) in
    let back = take_all c.loop-at.at c.args.after.now (omega arith) in
    same_digests _ _ (rw (front, back) at c.loop-at.invariant)
