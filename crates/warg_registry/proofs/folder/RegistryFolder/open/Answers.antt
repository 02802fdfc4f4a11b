use Rattle.std.proofs.Common.{◌≡◌, length, refl, ap, ◌∙◌}
use Rattle.std.proofs.lemmas.List.{length-map}
use Rattle.warg_tiles.specs.CheckpointText.{Said}
use Rattle.warg_registry.specs.Folder.{registry_of}
use Rattle.warg_registry.proofs.Refused.{told_as}
use Rattle.warg_registry.specs.Insertions.{entry_of}
use Rattle.warg_registry.proofs.MapLines.{own_root, root_of_map}
use Rattle.warg_registry.proofs.folder.RegistryFolder.open.Goals as goal

pub returns-clause-has : goal.returns-clause-has
returns-clause-has g c = λ faithful origin served kept has.
    let found = c.in_ok-log.ensures.has faithful (registry_of origin served) (registry_of origin kept) has in
    let counts : c.in_ok-log.log.edge.len ≡ length kept = c.in_ok-log.ensures.all
    ∙ ap (λ (t : Said). t.length) found.text ∙ length-map kept entry_of in
    rw c.with.ensures
    (record {
      takes = refl;
      log = found;
      root = root_of_map origin c.in_ok-root.root kept (c.text.ensures ∙ found.text) c.in_ok-root.ensures.ok;
      count = c.length-version.ensures.value ∙ counts;
    })

pub returns-in_err-log-clause-opens : goal.returns-in_err-log-clause-opens
returns-in_err-log-clause-opens g c = λ faithful origin served kept has.
    told_as _ _ _ c.from_residual.ensures.1
    (c.in_err-log.ensures.opens faithful (registry_of origin served) (registry_of origin kept) has)

pub returns-in_err-root-clause-opens : goal.returns-in_err-root-clause-opens
returns-in_err-root-clause-opens g c = λ faithful origin served kept has.
    let found = c.in_ok-log.ensures.has faithful (registry_of origin served) (registry_of origin kept) has in
    told_as _ _ _ c.from_residual-in_err-root.ensures.1
    (own_root origin kept (c.text.ensures ∙ found.text) c.in_err-root.ensures.err)
