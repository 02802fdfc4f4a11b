use Rattle.warg_folder.specs.Files.{moved}
use Rattle.warg_folder.specs.Private.Steps.{IsMoving}
use Rattle.warg_folder.proofs.ForCallers.{begins, either}
use Rattle.warg_folder.proofs.StepLemmas.{moved_one}
use Rattle.warg_folder.proofs.committing.move_one.Goals as goal

pub returns-in-Some-clause-crash : goal.returns-in-Some-clause-crash
returns-in-Some-clause-crash g c = λ faithful s e all left.
    let from = c.rename.ensures.crash faithful e left in
    either (IsMoving s) (moved c.args.from.now c.in-Some.to.now) from.0 e from.2 (all from.0 from.1)
    (rw c.in-Some.ensures.1 (moved_one s from.0 c.in-Some.to.now c.in-Some.ensures.0 (all from.0 from.1)))

pub returns-in-Some-clause-any_moment : goal.returns-in-Some-clause-any_moment
returns-in-Some-clause-any_moment g c = λ faithful s all. begins _ _ _ _ _ _
    (g.met.F.Folder.only_now c.args.folder.now) (c.rename.ensures.time faithful) all
    (λ e left. returns-in-Some-clause-crash g c faithful s e all left)

pub returns-in-None-clause-moved : goal.returns-in-None-clause-moved
returns-in-None-clause-moved g c = λ faithful n is. ((λ e. absurd (c.in-None.ensures n is e)), (λ none. none))
