use Rattle.std.proofs.Common.{◌∙◌}
use Rattle.warg_folder.specs.declared.device.Folder.{Ghosts}
use Rattle.warg_store.specs.Growing.{LogIn}
use Rattle.warg_store.specs.Log.{LogOf, Serves}
use Rattle.warg_registry.specs.Folder.{registry_of, IsLogRead}
use Rattle.warg_registry.proofs.FolderMoments.{log_read_then}
use Rattle.warg_registry.proofs.MapLines.{own_root}
use Rattle.warg_registry.proofs.Pruned.{served_source}
use Rattle.warg_registry.proofs.Refused.{told_as}
use Rattle.warg_registry.proofs.source.KeptPages.served.Goals as goal

-- a folder that was only read serves what it served
still_serves : {F : Type 0} (dev : Ghosts F) {known now : LogIn F} {log : LogOf}
    → IsLogRead dev.seen dev.may_leave dev.moment dev.left_since known now → Serves log (dev.seen known.folder)
    → Serves log (dev.seen now.folder)
still_serves dev {log = log} read serves = rw read.read.found serves

pub returns-in-Ok-clause-served : goal.returns-in-Ok-clause-served
returns-in-Ok-clause-served g c = λ faithful known origin insertions read serves.
    let dev = g.F.Folder in
    let said = c.in_ok-text.ensures.said faithful (registry_of origin insertions) (still_serves dev read serves) in
    served_source origin insertions (dev.seen known.folder) c.in-Ok.root c.length-version.result c.in_ok-text.text
    serves said c.in-Ok.ensures.ok (c.length-version.ensures ∙ c.checkpoint.ensures.length)

pub returns-in-Ok-clause-read : goal.returns-in-Ok-clause-read
returns-in-Ok-clause-read g c = λ faithful known read.
    log_read_then g.F.Folder g.met.F.Folder.counts_now read c.served.ensures.same (c.served.ensures.read faithful)

pub returns-in-Err-Log-clause-read : goal.returns-in-Err-Log-clause-read
returns-in-Err-Log-clause-read g c = λ faithful known read.
    log_read_then g.F.Folder g.met.F.Folder.counts_now read c.served.ensures.same (c.served.ensures.read faithful)

pub returns-clause-read : goal.returns-clause-read
returns-clause-read g c = λ faithful known read.
    log_read_then g.F.Folder g.met.F.Folder.counts_now read c.served.ensures.same (c.served.ensures.read faithful)

pub returns-in_err-text-clause-whole : goal.returns-in_err-text-clause-whole
returns-in_err-text-clause-whole g c = λ faithful known origin insertions read serves.
    told_as _ _ _ c.from_residual.ensures.1
    (c.in_err-text.ensures.whole faithful (registry_of origin insertions) (still_serves g.F.Folder read serves))

pub returns-in-Err-Log-clause-whole : goal.returns-in-Err-Log-clause-whole
returns-in-Err-Log-clause-whole g c = λ faithful known origin insertions read serves.
    let still = still_serves g.F.Folder read serves in
    let said = c.in_ok-text.ensures.said faithful (registry_of origin insertions) still in
    rw c.in-Err-Log.field-0-is at (own_root origin insertions said c.in-Err-Log.ensures.err)

pub returns-clause-whole : goal.returns-clause-whole
returns-clause-whole g c = λ faithful known origin insertions read serves.
    let still = still_serves g.F.Folder read serves in
    let said = c.in_ok-text.ensures.said faithful (registry_of origin insertions) still in
    absurd (rw c.in-Err-NoMap.field-0-is at (own_root origin insertions said c.in-Err-NoMap.ensures.err))
