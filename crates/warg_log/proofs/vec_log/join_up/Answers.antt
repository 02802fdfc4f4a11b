use Rattle.std.proofs.Common.{◌-◌, ◌∙◌, refl, arith}
use Rattle.std.proofs.lemmas.Nat.{pow_pos}
use Rattle.warg_log.proofs.NodeLemmas.{smaller_root}
use Rattle.warg_log.proofs.SliceLemmas.{read_low, joined_up, all_up}
use Rattle.warg_log.proofs.vec_log.join_up.Goals as goal

pub up-init : goal.up-init
up-init g c = record {
  last = omega arith;
  slice = c.requires.slice;
  is = c.copied-digest.ensures ∙ read_low _ _ _ 0 0 (c.args.count - 1) _ _ c.requires.slice (omega arith) (omega arith)
      (omega (arith, c.requires.slice.len)) c.index.ensures;
  leaves = refl;
}

pub overflow_sub-at-in-up : goal.overflow_sub-at-in-up
overflow_sub-at-in-up g c = omega (
  arith,
  smaller_root c.args.count c.up.height c.requires.some
      (omega arith) c.up-test.true,
  pow_pos c.up.height,
)

pub overflow_sub-at-in-up-2 : goal.overflow_sub-at-in-up-2
overflow_sub-at-in-up-2 g c = omega (
  arith,
  smaller_root c.args.count c.up.height c.requires.some
      (omega arith) c.up-test.true,
  pow_pos c.up.height,
)

pub up-preserved : goal.up-preserved
up-preserved g c = rw (c.copied.ensures, c.hash_branch-digest.ensures)
    (joined_up _ _ c.args.count c.requires.some (omega arith) c.requires.count _ c.up.height _ c.up.at _ _
    c.up-test.true refl c.up.invariant c.index-in-up.ensures)

pub returns-clause-slice : goal.returns-clause-slice
returns-clause-slice g c = all_up _ _ c.args.count c.requires.some (omega arith) c.requires.count _ c.up.height
    c.up-test.false c.up.invariant.slice
