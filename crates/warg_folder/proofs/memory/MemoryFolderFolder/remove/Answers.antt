use Rattle.warg_folder.proofs.MemoryLemmas.{seen_more, may_more}
use Rattle.warg_folder.proofs.memory.MemoryFolderFolder.remove.Goals as goal

pub returns-clause-removed : goal.returns-clause-removed
returns-clause-removed c = λ faithful. rw (← c.in_ok-name.ensures) (seen_more _ _ _ c.in_ok-add.ensures.ok)

pub returns-clause-crash : goal.returns-clause-crash
returns-clause-crash c = λ faithful. rw (← c.in_ok-name.ensures) (may_more _ _ _ c.in_ok-add.ensures.ok)
