use Rattle.std.proofs.Common.{◌≡◌, ◌+◌, sym, ap, ◌∙◌, arith, List, ℕ}
use Rattle.warg_pages.specs.Slots.{SlotAt}
use Rattle.warg_pages.specs.Pages.{slot_height}
use Rattle.warg_pages.specs.Private.Descents.{lone_root}
use Rattle.warg_pages.proofs.HashEquality.{same_hashes, other_hashes}
use Rattle.warg_pages.proofs.BitParts.{lone_root-none}
use Rattle.warg_pages.proofs.LoneEnds.{held_end, held_no_end}
use Rattle.warg_pages.proofs.lone.held_end.Goals as goal
use Rattle.warg_pages.proofs.lone.held_end.Goals.{After-lone_tree}

-- the subtree of the lone key below the slot
below_slot : (g : _) (c : After-lone_tree g) → c.lone_tree.result
    ≡ lone_root g.D.SupportedDigest.digest c.args.key.now c.args.lone.now.1 (slot_height c.args.depth)
below_slot g c =
    c.lone_tree.ensures _ (ap (λ (l : List ℕ × List ℕ). l.1) c.lone.view_is ∙ lone_root-none _ _ _)

pub returns-then-ne-clause-err : goal.returns-then-ne-clause-err
returns-then-ne-clause-err g c =
    let root = below_slot g (goal.at.returns-then-ne-clause-err g c).After-lone_tree in
    held_no_end _ c.args.key.now c.args.depth c.args.slot.now _ c.requires.depth
    c.requires.same (λ e. other_hashes _ _ _ c.ne.ensures c.if-ne.true (root ∙ e
    ∙ sym (ap (λ (x : SlotAt). x.digest) c.slot.view_is)))

pub returns-clause-ok : goal.returns-clause-ok
returns-clause-ok g c =
    let root = below_slot g (goal.at.returns-clause-ok g c).After-lone_tree in
    let version : c.slot.inside.version ≡ c.args.slot.now.version = ap (λ (x : SlotAt). x.version) c.slot.view_is in
    let same = same_hashes _ _ _ c.ne.ensures c.if-ne.false in
    let index : c.in-Some.index + 1 ≡ c.args.slot.now.version = let sub = c.in-Some.ensures in omega arith in
    rw (c.copied.ensures, ap (λ (l : List ℕ × List ℕ). l.1) c.lone.view_is)
    (held_end _ c.args.key.now c.args.depth _ _ c.args.lone.now
    c.requires.depth c.requires.same (sym root ∙ same ∙ ap (λ (x : SlotAt). x.digest) c.slot.view_is) index)
