use Rattle.std.proofs.Common.{sym, ◌∙◌}
use Rattle.std.proofs.lemmas.Result.{on_ok_weaker}
use Rattle.warg_folder.proofs.ForCallers.{apart, leaves_none}
use Rattle.warg_store.proofs.StagedLemmas.{old_tile, new_tile}
use Rattle.warg_store.proofs.log.stage_new.Goals as goal

pub returns-then-exists_at_length-clause-staged : goal.returns-then-exists_at_length-clause-staged
returns-then-exists_at_length-clause-staged g c = λ faithful.
    old_tile c.args.older (c.args.stored.now.tile, c.args.stored.now.digests.items) (g.F.Folder.seen c.args.folder.now)
    (c.exists_at_length.ensures.0 c.if-exists_at_length.true)

pub returns-then-exists_at_length-clause-any_moment : goal.returns-then-exists_at_length-clause-any_moment
returns-then-exists_at_length-clause-any_moment g c = λ faithful.
    leaves_none _ _ _ _ (λ e left. c.requires.staging faithful e (g.met.F.Folder.only_now c.args.folder.now e left))

pub returns-clause-staged : goal.returns-clause-staged
returns-clause-staged g c = λ faithful.
    on_ok_weaker c.stage_tile.result
    (λ is. is ∙ new_tile c.args.older (c.args.stored.now.tile, c.args.stored.now.digests.items)
    (g.F.Folder.seen c.args.folder.now)
    (λ old. apart (sym (c.exists_at_length.ensures.1 old) ∙ c.if-exists_at_length.false)))
    (c.stage_tile.ensures.staged faithful)
