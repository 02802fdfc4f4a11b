use Rattle.warg_folder.proofs.MemoryLemmas.{seen_more, may_more}
use Rattle.warg_folder.proofs.memory.MemoryFolderFolder.write.Goals as goal

pub returns-clause-written : goal.returns-clause-written
returns-clause-written c = λ faithful.
    rw (← c.in_ok-name.ensures, ← c.in_ok-bytes.ensures) (seen_more _ _ _ c.in_ok-add.ensures.ok)

pub returns-clause-crash : goal.returns-clause-crash
returns-clause-crash c = λ faithful. rw (← c.in_ok-name.ensures) (may_more _ _ _ c.in_ok-add.ensures.ok)
