use Rattle.std.proofs.Common.{List, ℕ, [], ◌∷◌, ◌++◌, subst, ◌≡◌}
use Rattle.warg_registry.specs.Folder.{HasRegistry}
use Rattle.warg_uses.proofs.registry.published.Goals as goal

pub returns : goal.returns
returns g c = λ faithful origin served kept has.
    let opened = c.in_ok-registry.ensures.has faithful origin served kept has in
    let done = c.in_ok-publish.ensures.published faithful origin served kept opened in
    let one : (c.as_bytes.result.now, c.as_bytes-2.result.now) ∷ [] ≡ (c.args.name.now, c.args.version.now) ∷ [] =
    λ i. (c.as_bytes.ensures.value i, c.as_bytes-2.ensures.value i) ∷ [] in (
      done.0,
      subst (λ (more : List (List ℕ × List ℕ)). HasRegistry g.F.Folder.seen g.F.Folder.may_leave origin done.0
          (kept ++ more) c.publish.new.self) one done.1,
    )
