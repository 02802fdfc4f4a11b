use Rattle.std.proofs.Common.{⊎_elim, ◌∙◌, arith}
use Rattle.std.proofs.lemmas.List.{take_all}
use Rattle.warg_folder.specs.Names.{staged}
use Rattle.warg_folder.proofs.ListLemmas.{contains_more}
use Rattle.warg_folder.proofs.RunLemmas.{runs_on}
use Rattle.warg_folder.proofs.committing.move_all.Goals as goal

pub returns-in_err-move_one-clause-crash : goal.returns-in_err-move_one-clause-crash
returns-in_err-move_one-clause-crash g c = λ faithful e.
    c.move_one.ensures.crash faithful _ e (c.names.invariant.crash faithful)

pub returns-in_err-move_one-clause-any_moment : goal.returns-in_err-move_one-clause-any_moment
returns-in_err-move_one-clause-any_moment g c = λ faithful.
    runs_on (c.names.invariant.time faithful)
    (c.move_one.ensures.any_moment faithful _ (c.names.invariant.crash faithful))

pub names-preserved : goal.names-preserved
names-preserved g c = record {
  moved = λ faithful n is contained.
      let now = c.in_ok-move_one.ensures.moved faithful n is in
      ⊎_elim (λ before. now.1 (c.names.invariant.moved faithful n is before))
      (λ here. now.0 (c.as_str.ensures.value ∙ here))
      (contains_more c.args.names.now c.names.name-index c.name-item.result (staged n)
      (omega arith) c.name-item.is contained);
  crash = λ faithful e. c.move_one.ensures.crash faithful _ e (c.names.invariant.crash faithful);
  faults = omega (arith, c.names.invariant.faults, c.move_one.ensures.cause.later);
  time = λ faithful. runs_on (c.names.invariant.time faithful)
      (c.move_one.ensures.any_moment faithful _ (c.names.invariant.crash faithful));
}

pub returns-clause-moved : goal.returns-clause-moved
returns-clause-moved g c = λ faithful.
    rw (take_all c.names.name-index c.args.names.now (omega arith)) at (c.names.invariant.moved faithful)
