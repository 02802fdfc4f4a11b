use Rattle.warg_folder.specs.Memory.{stays}
use Rattle.warg_folder.proofs.MemoryLemmas.{seen_more, may_more}
use Rattle.warg_folder.proofs.memory.MemoryFolderFolder.sync.Goals as goal

pub returns-clause-durable : goal.returns-clause-durable
returns-clause-durable c = λ faithful. may_more _ _ _ c.in_ok-add.ensures.ok

pub returns-clause-seen : goal.returns-clause-seen
returns-clause-seen c = λ faithful. seen_more _ _ _ c.in_ok-add.ensures.ok

pub returns-clause-crash : goal.returns-clause-crash
returns-clause-crash c = λ faithful e left.
    rw (may_more _ _ _ c.in_ok-add.ensures.ok e left) (stays c.args.self.now.calls.items)
