use Rattle.warg_folder.proofs.MemoryLemmas.{seen_more, may_more}
use Rattle.warg_folder.proofs.memory.MemoryFolderFolder.rename.Goals as goal

pub returns-clause-renamed : goal.returns-clause-renamed
returns-clause-renamed c = λ faithful.
    rw (← c.in_ok-from.ensures, ← c.in_ok-to.ensures) (seen_more _ _ _ c.in_ok-add.ensures.ok)

pub returns-clause-crash : goal.returns-clause-crash
returns-clause-crash c = λ faithful.
    rw (← c.in_ok-from.ensures, ← c.in_ok-to.ensures) (may_more _ _ _ c.in_ok-add.ensures.ok)
