use Rattle.std.proofs.Common.{◌≡◌, ◌<◌, ◌⊎◌, length, [], Err, IfErr, refl, ap, subst}
use Rattle.warg_store.specs.Growing.{Has}
use Rattle.warg_store.specs.Log.{LogOf, CanBeKept, no_entries_with}
use Rattle.warg_store.specs.declared.opening.CreateError.{CreateError}
use Rattle.warg_store.specs.declared.opening.CreateError.TheVariants.{Origin}
use Rattle.warg_registry.specs.Folder.{registry_of}
use Rattle.warg_registry.proofs.Listed.{items_of}
use Rattle.warg_registry.proofs.Refused.{told_as}
use Rattle.warg_registry.proofs.RegistryGrowth.{empty_registry, no_insertions_root}
use Rattle.warg_registry.proofs.folder.RegistryFolder.create.Goals.{After-create_with}
use Rattle.warg_registry.proofs.folder.RegistryFolder.create.Goals as goal

-- the log that is created is that of the empty registry
empty_log : (g : _) (c : After-create_with g)
    → no_entries_with c.args.origin.now (items_of c.as_slice.result.now) ≡ registry_of c.args.origin.now []
empty_log g c = empty_registry c.args.origin.now c.new-map.result.root _ c.new-map.ensures.root
    (rw c.as_slice.ensures.value c.in_ok-lines.ensures.lines)

pub returns-clause-has : goal.returns-clause-has
returns-clause-has g c = λ faithful.
    let dev = g.F.Folder in
    let at = goal.at.returns-clause-has g c in
    rw c.with.ensures
    (record {
      takes = refl;
      log = subst (λ (n : LogOf). Has dev.seen dev.may_leave n n n c.in_ok-log.log) (empty_log g at.After-create_with)
          (c.in_ok-log.ensures.has faithful);
      root = no_insertions_root c.new-map.result.root c.new-map.ensures.root;
      count = c.new-map.ensures.version;
    })

pub returns-in_err-log-clause-origin : goal.returns-in_err-log-clause-origin
returns-in_err-log-clause-origin g c = λ refused.
    let origin = c.args.origin.now in
    let P : CreateError → Type 0 =
    λ e. e ≡ Origin → (65535 < length origin) ⊎ (CanBeKept (registry_of origin []) → ⊥) in
    let at = goal.at.returns-in_err-log-clause-origin g c in
    subst (λ r. IfErr r P) refused (told_as _ _ _ c.from_residual-in_err-log.ensures.1
    (λ is. rw (empty_log g at.After-create_with) at (c.in_err-log.ensures.origin (ap (λ e. Err e) is)))) refl
