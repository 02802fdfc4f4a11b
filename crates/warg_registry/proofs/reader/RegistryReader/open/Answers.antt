use Rattle.std.proofs.Common.{◌∙◌}
use Rattle.warg_registry.specs.Folder.{registry_of}
use Rattle.warg_registry.proofs.MapLines.{own_root, root_of_map}
use Rattle.warg_registry.proofs.Refused.{told_as}
use Rattle.warg_registry.proofs.reader.RegistryReader.open.Goals as goal

pub returns-in_err-log-clause-opens : goal.returns-in_err-log-clause-opens
returns-in_err-log-clause-opens g c = λ faithful origin insertions serves.
    told_as _ _ _ c.from_residual.ensures.1
    (c.in_err-log.ensures.opens faithful (registry_of origin insertions) serves)

pub returns-in_err-root-clause-opens : goal.returns-in_err-root-clause-opens
returns-in_err-root-clause-opens g c = λ faithful origin insertions serves.
    let found = c.in_ok-log.ensures.reads faithful (registry_of origin insertions) serves in
    told_as _ _ _ c.from_residual-in_err-root.ensures.1
    (own_root origin insertions (c.text.ensures ∙ found.text) c.in_err-root.ensures.err)

pub returns-clause-reads : goal.returns-clause-reads
returns-clause-reads g c = λ faithful origin insertions serves.
    let found = c.in_ok-log.ensures.reads faithful (registry_of origin insertions) serves in
    record {
      reads = found;
      is_root = root_of_map origin c.in_ok-root.root insertions (c.text.ensures ∙ found.text) c.in_ok-root.ensures.ok;
    }
