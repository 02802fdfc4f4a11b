use Rattle.std.proofs.Common.{inl, inr}
use Rattle.warg_folder.specs.declared.committing.TheConstants.{MOST_TEXT}
use Rattle.warg_folder.proofs.ForCallers.{leaves_then, leaves_weaker, read_none}
use Rattle.warg_folder.proofs.ReadyLemmas.{ready, opened_empty}
use Rattle.warg_folder.proofs.recovery.recover.Goals as goal

pub finish_read-requires-clause-read : goal.finish_read-requires-clause-read
finish_read-requires-clause-read g c = λ faithful.
    rw (c.settled_mark.ensures.seen faithful, c.as_slice.ensures.value)
    (rw c.in-Some.is at (c.in_ok-text.ensures.found faithful))

pub drop_staged-requires-clause-idle : goal.drop_staged-requires-clause-idle
drop_staged-requires-clause-idle g c = λ faithful.
    rw (c.settled_mark.ensures.seen faithful)
    (read_none _ MOST_TEXT (rw c.in-None.is at (c.in_ok-text.ensures.found faithful)))

pub returns-in_err-text-clause-any_moment : goal.returns-in_err-text-clause-any_moment
returns-in_err-text-clause-any_moment g c = λ faithful.
    leaves_weaker _ _ _ _ _ _ (c.settled_mark.ensures.any_moment faithful) (λ _. inl)

pub returns-in-Some-clause-any_moment : goal.returns-in-Some-clause-any_moment
returns-in-Some-clause-any_moment g c = λ faithful.
    leaves_then _ _ _ _ _ _ _ _ (c.settled_mark.ensures.any_moment faithful)
    (rw (c.settled_mark.ensures.seen faithful) at (c.finish_read.ensures.any_moment faithful)) (λ _. inl) (λ _. inr)

pub returns-in-Some-clause-opened : goal.returns-in-Some-clause-opened
returns-in-Some-clause-opened g c = λ faithful.
    rw (c.settled_mark.ensures.seen faithful) at (c.finish_read.ensures.opened faithful)

pub returns-in-Some-clause-ready : goal.returns-in-Some-clause-ready
returns-in-Some-clause-ready g c = λ faithful.
    ready c.finish_read.result (g.F.Folder.seen c.settled_mark.new.folder) _ _ (c.finish_read.ensures.opened faithful)
    (c.finish_read.ensures.durable faithful)

pub returns-in-Some-clause-empty : goal.returns-in-Some-clause-empty
returns-in-Some-clause-empty g c = λ faithful.
    opened_empty c.finish_read.result (g.F.Folder.seen c.settled_mark.new.folder) _
    (c.finish_read.ensures.opened faithful)

pub returns-in-Some-clause-too_long : goal.returns-in-Some-clause-too_long
returns-in-Some-clause-too_long g c = λ faithful is.
    rw (c.settled_mark.ensures.seen faithful) at (c.finish_read.ensures.too_long faithful is)

pub returns-in-None-clause-any_moment : goal.returns-in-None-clause-any_moment
returns-in-None-clause-any_moment g c = λ faithful.
    leaves_then _ _ _ _ _ _ _ _ (c.settled_mark.ensures.any_moment faithful)
    (rw (c.settled_mark.ensures.seen faithful) at (c.drop_staged.ensures.any_moment faithful)) (λ _. inl) (λ _. inr)

pub returns-in-None-clause-opened : goal.returns-in-None-clause-opened
returns-in-None-clause-opened g c = λ faithful.
    rw (c.settled_mark.ensures.seen faithful) at (c.drop_staged.ensures.opened faithful)

pub returns-in-None-clause-ready : goal.returns-in-None-clause-ready
returns-in-None-clause-ready g c = λ faithful.
    ready c.drop_staged.result (g.F.Folder.seen c.settled_mark.new.folder) _ _ (c.drop_staged.ensures.opened faithful)
    (c.drop_staged.ensures.durable faithful)

pub returns-in-None-clause-empty : goal.returns-in-None-clause-empty
returns-in-None-clause-empty g c = λ faithful.
    opened_empty c.drop_staged.result (g.F.Folder.seen c.settled_mark.new.folder) _
    (c.drop_staged.ensures.opened faithful)
