use Rattle.std.proofs.Common.{◌≡◌, Some, ap, ◌∙◌}
use Rattle.warg_pages.specs.Pages.{slot_height}
use Rattle.warg_pages.specs.Private.Descents.{lone_root}
use Rattle.warg_pages.specs.Private.Updates.{ChangeAt}
use Rattle.warg_pages.proofs.BitParts.{lone_root-none}
use Rattle.warg_pages.proofs.alone.lone_slot_after.Goals as goal

pub returns-clause-ok : goal.returns-clause-ok
returns-clause-ok g c =
    let last = c.args.last.now in
    let key : c.last.inside.key ≡ last.key = ap (λ (x : ChangeAt). x.key) c.last.view_is in
    let leaf : c.last.inside.leaf ≡ last.leaf = ap (λ (x : ChangeAt). x.leaf) c.last.view_is in
    let root : c.lone_tree.result ≡ lone_root _ last.key last.leaf (slot_height c.args.depth) =
    rw key at (c.lone_tree.ensures last.leaf (leaf ∙ lone_root-none _ c.last.inside.key last.leaf)) in
    λ i. record {
      byte = c.args.byte;
      version = (ap (λ (x : ChangeAt). x.version) c.last.view_is) i;
      digest = root i;
      lone = Some ((c.copied.ensures ∙ key) i, (c.copied-2.ensures ∙ leaf) i);
    }
