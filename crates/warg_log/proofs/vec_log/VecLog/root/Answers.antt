use Rattle.std.proofs.Common.{◌≡◌, refl, ◌∙◌, arith}
use Rattle.warg_log.proofs.SliceLemmas.{slice_size, no_root, next_root, whole_root}
use Rattle.warg_log.proofs.NodeLemmas.{last_width}
use Rattle.warg_log.proofs.vec_log.VecLog.root.Goals as goal
use Rattle.warg_log.proofs.vec_log.VecLog.root.Goals.{in-Some, in-None}

pub roots-init : goal.roots-init
roots-init g c = no_root _ _ _ c.self.invariant.0

pub roots-preserved : goal.roots-preserved
roots-preserved g c =
    next_root _ _ c.self.inside.tree.items c.roots.end _ c.roots.root c.index-left.result.now _ c.roots-test.true
    (omega arith) refl c.self.invariant.1 c.roots.invariant c.index-left.ensures (elim c.match-root.branch [
      | in-Some w ↦ rw w.in-Some.is (w.root-is ∙ w.hash_branch.ensures)
      | in-None w ↦ rw w.in-None.is (w.root-is ∙ w.copied.ensures)
    ])

pub index-left-requires : goal.index-left-requires
index-left-requires g c = omega (
  arith,
  last_width c.roots.end c.roots-test.true (omega (arith, c.roots.auto.end-fits)),
  slice_size g.D.SupportedDigest.digest _ c.self.inside.tree.items c.self.invariant.1,
  c.self.inside.tree.ok.0,
  c.roots.invariant.within,
)

pub returns : goal.returns
returns g c =
    let none : c.roots.end ≡ 0 = omega (arith, c.roots-test.false) in
    rw (c.unwrap_or.ensures, c.copied-2.ensures, c.self.invariant.2, ← c.self.view_is)
    (whole_root _ _ c.roots.root (rw none at c.roots.invariant))
