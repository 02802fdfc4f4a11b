use Rattle.std.proofs.Common.{refl}
use Rattle.warg_map.proofs.TreeForm.{with_longer_stem, with_new_stem}
use Rattle.warg_map.proofs.node.Stem.above.Goals as goal

pub returns-in-Stem : goal.returns-in-Stem
returns-in-Stem g c =
    rw (c.copied.ensures, c.in_ok-clone.ensures.cases, c.deref-in-Stem.ensures, c.deref.ensures)
    (with_longer_stem c.args.key.now c.args.from c.args.len
    c.in-Stem.is c.node.ensures.well_formed c.node.ensures.seen
    c.requires.some c.requires.height c.requires.below refl)

pub returns : goal.returns
returns g c =
    rw c.copied-2.ensures (with_new_stem c.args.key.now c.args.from c.args.len
    c.node.ensures.well_formed c.node.ensures.seen c.in_default.not-Stem c.requires.some c.requires.height
    c.requires.below refl)
