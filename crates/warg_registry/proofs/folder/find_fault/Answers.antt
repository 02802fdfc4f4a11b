use Rattle.warg_registry.proofs.Sources.{kept_read}
use Rattle.warg_registry.proofs.folder.find_fault.Goals as goal

pub keys-preserved : goal.keys-preserved
keys-preserved g c =
    let was = c.keys.invariant in
    let done = kept_read g.F.Folder was.told c.prove_by_pages.ensures.known in
    record { read = λ faithful known read. done.read faithful known (was.read faithful known read); told = done.told }

pub returns-in-Err-clause-read : goal.returns-in-Err-clause-read
returns-in-Err-clause-read g c = λ faithful known read.
    let was = c.keys.invariant in
    (kept_read g.F.Folder was.told c.prove_by_pages.ensures.known).read faithful known (was.read faithful known read)

pub returns-in-Err-clause-later : goal.returns-in-Err-clause-later
returns-in-Err-clause-later g c =
    (kept_read g.F.Folder c.keys.invariant.told c.prove_by_pages.ensures.known).told.later

pub returns-in-Err-clause-cause : goal.returns-in-Err-clause-cause
returns-in-Err-clause-cause g c = λ faithful is.
    let done = kept_read g.F.Folder c.keys.invariant.told c.prove_by_pages.ensures.known in
    done.told.failed faithful (c.refusal.ensures.cause is)
