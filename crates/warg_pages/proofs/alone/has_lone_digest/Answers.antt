use Rattle.std.proofs.Common.{◌≡◌, List, ℕ, Some, sym, ap, ◌∙◌}
use Rattle.warg_pages.specs.Slots.{SlotAt}
use Rattle.warg_pages.specs.Pages.{slot_height}
use Rattle.warg_pages.specs.Private.Descents.{lone_root}
use Rattle.warg_pages.proofs.BitParts.{lone_root-none}
use Rattle.warg_pages.proofs.HashEquality.{hashes_decide}
use Rattle.warg_pages.proofs.LoneSlots.{some_same}
use Rattle.warg_pages.proofs.alone.has_lone_digest.Goals as goal

pub returns-in-Some-lone : goal.returns-in-Some-lone
returns-in-Some-lone g c =
    let lone = c.in-Some-lone.lone in
    let there : c.in-Some.slot.now.lone ≡ Some lone = rw (← c.slot.view_is) c.in-Some-lone.is in
    let digest : c.slot.inside.digest ≡ c.in-Some.slot.now.digest = ap (λ (x : SlotAt). x.digest) c.slot.view_is in
    let root : c.lone_tree.result ≡ lone_root _ lone.0 lone.1 (slot_height c.args.depth) =
    rw (ap (λ (l : List ℕ × List ℕ). l.0) c.lone.view_is) at (c.lone_tree.ensures lone.1
    (ap (λ (l : List ℕ × List ℕ). l.1) c.lone.view_is ∙ lone_root-none _ _ lone.1)) in
    let decide = hashes_decide _ _ _ c.eq.ensures in
    rw c.in-Some.is (
      λ t other is. rw (some_same (sym there ∙ is)) at (sym root ∙ decide.0 t ∙ digest),
      λ h. decide.1 (root ∙ h lone there ∙ sym digest),
    )
