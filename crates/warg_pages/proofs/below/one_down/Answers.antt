use Rattle.std.proofs.Common.{◌≡◌, ◌∙◌, ◌++◌, [], ◌∷◌, List, ℕ, Some, length, ap}
use Rattle.std.specs.Prelude.{slice_index}
use Rattle.warg_pages.specs.Slots.{SlotAt}
use Rattle.warg_pages.specs.Pages.{slot_height}
use Rattle.warg_pages.specs.Private.Descents.{lone_root}
use Rattle.warg_pages.proofs.BitParts.{lone_root-none}
use Rattle.warg_pages.proofs.below.one_down.Goals as goal

pub returns-then-not-begins_with-clause-err : goal.returns-then-not-begins_with-clause-err
returns-then-not-begins_with-clause-err g c = λ e.
    let yes = c.begins_with.ensures.1 (rw (c.bytes.ensures.value ∙ ap (λ (l : List ℕ
    × List ℕ). l.0) c.lone.view_is) e) in
    cc

pub returns-clause-ok : goal.returns-clause-ok
returns-clause-ok g c =
    let lone = c.args.lone.now in
    let depth = length _ in
    let key : c.lone.inside.key ≡ lone.0 = ap (λ (l : List ℕ × List ℕ). l.0) c.lone.view_is in
    let root : c.lone_tree.result ≡ lone_root _ c.lone.inside.key lone.1 (slot_height depth) =
    c.lone_tree.ensures lone.1 (ap (λ (l : List ℕ × List ℕ). l.1) c.lone.view_is ∙ lone_root-none _ _ lone.1) in
    c.in_ok-put_behind.ensures.ok ∙ (λ i. c.new-page.ensures i ++ record {
      byte = slice_index ((c.bytes-2.ensures.value ∙ key) i) depth;
      version = (ap (λ (x : SlotAt). x.version) c.slot.view_is) i;
      digest = (root ∙ ap (λ k. lone_root _ k lone.1 (slot_height depth)) key) i;
      lone = Some (c.copied.ensures i);
    } ∷ [])
