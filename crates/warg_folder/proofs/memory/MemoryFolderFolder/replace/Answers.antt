use Rattle.std.proofs.Common.{inr}
use Rattle.warg_folder.proofs.MemoryLemmas.{seen_more, may_more, elapses}
use Rattle.warg_folder.proofs.memory.MemoryFolderFolder.replace.Goals as goal

pub returns-clause-replaced : goal.returns-clause-replaced
returns-clause-replaced c = λ faithful.
    rw (← c.in_ok-name.ensures, ← c.in_ok-bytes.ensures) (seen_more _ _ _ c.in_ok-add.ensures.ok)

pub returns-clause-durable : goal.returns-clause-durable
returns-clause-durable c = λ faithful.
    rw (← c.in_ok-name.ensures, ← c.in_ok-bytes.ensures) (may_more _ _ _ c.in_ok-add.ensures.ok)

pub returns-clause-crash : goal.returns-clause-crash
returns-clause-crash c = λ faithful e left.
    let from = may_more _ _ _ c.in_ok-add.ensures.ok e left in
    (from.0, from.1, rw (← c.in_ok-name.ensures, ← c.in_ok-bytes.ensures) (inr from.2))

pub returns-clause-time : goal.returns-clause-time
returns-clause-time c = λ faithful. elapses _ c.in_ok-add.ensures.ok
