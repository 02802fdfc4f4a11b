use Rattle.std.proofs.Common.{sym, subst}
use Rattle.warg_store.specs.Audited.{HasOlder}
use Rattle.warg_store.specs.Reading.{Reads}
use Rattle.warg_registry.specs.Folder.{registry_of}
use Rattle.warg_registry.specs.Reading.{RegistryRead}
use Rattle.warg_registry.proofs.Refused.{told_as}
use Rattle.warg_registry.proofs.reader.RegistryReader.audit.Goals as goal

pub returns-in_err-checkpoint-clause-whole : goal.returns-in_err-checkpoint-clause-whole
returns-in_err-checkpoint-clause-whole g c = λ faithful origin insertions has older.
    told_as _ _ _ c.from_residual.ensures.1
    (c.in_err-checkpoint.ensures.whole faithful origin insertions has)

pub returns-in_err-audit-clause-whole : goal.returns-in_err-audit-clause-whole
returns-in_err-audit-clause-whole g c = λ faithful origin insertions has older.
    let dev = g.F.Folder in
    let log = registry_of origin insertions in
    let map = c.in_ok-checkpoint.ensures in
    let Read : RegistryRead g.row.F.Denot → Type 0 = λ r. Reads dev.seen log r.log in
    let Older : RegistryRead g.row.F.Denot → Type 0 = λ r. HasOlder log (dev.seen r.log.folder) in
    let still = subst (HasOlder log) (sym (map.read faithful).found) older in
    told_as _ _ _ c.from_residual-in_err-audit.ensures.1 (c.in_err-audit.ensures.whole faithful log
    (subst Read (sym c.self.view_is) (map.reads faithful origin insertions has).reads)
    (subst Older (sym c.self.view_is) still))
