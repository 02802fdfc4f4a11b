use Rattle.std.proofs.Common.{ℕ, ⊎_elim, List, length, sym, subst, ◌∙◌, arith}
use Rattle.std.proofs.lemmas.List.{length-map}
use Rattle.warg_folder.specs.Files.{Files, AreApart}
use Rattle.warg_store.specs.Pruned.{AreGone, ArePagesIn, IsSpare}
use Rattle.warg_store.proofs.ForCallers.{gone_then}
use Rattle.warg_registry.specs.Folder.{registry_of, RegistryIn, HasRegistry}
use Rattle.warg_registry.specs.Insertions.{entry_of}
use Rattle.warg_registry.proofs.LeftPages.{page_stays, spare_in}
use Rattle.warg_registry.proofs.Sources.{log_is_read}
use Rattle.warg_registry.proofs.Refused.{told_as}
use Rattle.warg_registry.proofs.WhilePruned.{IsPruning, looked_at, of_registry}
use Rattle.warg_registry.proofs.folder.RegistryFolder.prune.Goals.{After-spare}
use Rattle.warg_registry.proofs.folder.RegistryFolder.prune.Goals as goal

-- the registry while it is pruned, once its pages were looked at
pruning : (g : _) (c : After-spare g) → g.F.Folder.IsFaithful → {origin : List ℕ} {served kept : List (List ℕ × List ℕ)}
    → HasRegistry g.F.Folder.seen g.F.Folder.may_leave origin served kept c.args.self.now
    → IsPruning g.F.Folder origin served kept c.args.self.now c.self.inside.pages.log c.spare.new.self.log
    c.self.inside.is_open c.self.inside.map.root c.self.inside.map.version
pruning g c faithful {origin} {served} {kept} has = looked_at g.F.Folder origin served kept c.self.view_is has
    (g.met.F.Folder.only_now c.args.self.now.log.folder) (c.spare.ensures.read faithful)

pub returns-clause-pruned : goal.returns-clause-pruned
returns-clause-pruned g c = λ faithful origin served kept has.
    let run = pruning g (goal.at.returns-clause-pruned g c).After-spare faithful has in
    let these = run.none c.as_slice.ensures.value (c.in_ok-spare.ensures.spare faithful) in
    run.has c.remove_pages.new.self (c.in_ok-remove_pages.ensures.pruned faithful _ _ _
    (c.in_ok-pruned.ensures.pruned faithful _ _ _ run.at) these)

pub returns-in_err-spare-clause-any_moment : goal.returns-in_err-spare-clause-any_moment
returns-in_err-spare-clause-any_moment g c = λ faithful origin served kept has.
    (pruning g (goal.at.returns-in_err-spare-clause-any_moment g c).After-spare faithful has).reading

pub returns-in_err-pruned-clause-any_moment : goal.returns-in_err-pruned-clause-any_moment
returns-in_err-pruned-clause-any_moment g c = λ faithful origin served kept has.
    let run = pruning g (goal.at.returns-in_err-pruned-clause-any_moment g c).After-spare faithful has in
    run.pruning c.prune.new.self (c.prune.ensures.any_moment faithful _ _ _ run.at)

pub returns-in_err-remove_pages-clause-any_moment : goal.returns-in_err-remove_pages-clause-any_moment
returns-in_err-remove_pages-clause-any_moment g c = λ faithful origin served kept has.
    let run = pruning g (goal.at.returns-in_err-remove_pages-clause-any_moment g c).After-spare faithful has in
    let these = run.none c.as_slice.ensures.value (c.in_ok-spare.ensures.spare faithful) in
    run.removing c.prune.new.self c.remove_pages.new.self
    (c.prune.ensures.any_moment faithful _ _ _ run.at)
    (c.remove_pages.ensures.any_moment faithful _ _ _ (c.in_ok-pruned.ensures.pruned faithful _ _ _ run.at) these)

pub returns-clause-any_moment : goal.returns-clause-any_moment
returns-clause-any_moment g c = λ faithful origin served kept has.
    let run = pruning g (goal.at.returns-clause-any_moment g c).After-spare faithful has in
    let these = run.none c.as_slice.ensures.value (c.in_ok-spare.ensures.spare faithful) in
    run.removing c.prune.new.self c.remove_pages.new.self
    (c.prune.ensures.any_moment faithful _ _ _ run.at)
    (c.remove_pages.ensures.any_moment faithful _ _ _ (c.in_ok-pruned.ensures.pruned faithful _ _ _ run.at) these)

pub returns-clause-gone : goal.returns-clause-gone
returns-clause-gone g c = λ faithful origin served kept has.
    let dev = g.F.Folder in
    let run = pruning g (goal.at.returns-clause-gone g c).After-spare faithful has in
    let first = dev.seen c.self.inside.pages.log.folder in
    let pruned = dev.seen c.prune.new.self.folder in
    let last = dev.seen c.remove_pages.new.self.folder in
    let here = c.spare.ensures.read faithful c.self.inside.pages.log (log_is_read dev c.self.inside.pages.log) in
    let stay = c.in_ok-pruned.ensures.only faithful _ _ _ run.at in
    let there : ArePagesIn pruned c.as_slice.result.now = subst (ArePagesIn pruned) (sym c.as_slice.ensures.value)
    (λ k d inside. let is = c.in_ok-spare.ensures.there faithful k d inside in
    (page_stays _ pruned _ _ stay _ is.1 is.0, is.1)) in
    let apart = subst AreApart (sym c.as_slice.ensures.value) (c.in_ok-spare.ensures.apart faithful) in
    let both = gone_then c.in_ok-pruned.pruned (length c.as_slice.result.now) first pruned last
    (subst (λ (f : Files). AreGone c.in_ok-pruned.pruned f pruned) here.read.found
    (c.in_ok-pruned.ensures.gone faithful)) (c.in_ok-remove_pages.ensures.gone faithful apart there) in
    subst (λ (r : RegistryIn g.row.F.Denot). AreGone c.saturating_add.result (dev.seen r.log.folder) last)
    c.self.view_is (subst (λ n. AreGone n first last) (omega (
      arith,
      c.saturating_add.ensures,
      c.len.ensures,
      c.in_ok-pruned.ensures.few,
      c.as_slice.ensures.len,
      c.as_slice.type_inv.0,
    )) both)

pub returns-clause-spare : goal.returns-clause-spare
returns-clause-spare g c = λ faithful origin served kept has n spare.
    let dev = g.F.Folder in
    let run = pruning g (goal.at.returns-clause-spare g c).After-spare faithful has in
    let S = registry_of origin served in
    let K = registry_of origin kept in
    let first = dev.seen c.self.inside.pages.log.folder in
    let here = c.spare.ensures.read faithful c.self.inside.pages.log (log_is_read dev c.self.inside.pages.log) in
    let at : IsSpare (length kept) (length served) first n = subst (λ (r : RegistryIn g.row.F.Denot).
    IsSpare (length kept) (length served) (dev.seen r.log.folder) n) (sym c.self.view_is) spare in
    let is : IsSpare (length K.entries) (length S.entries) (dev.seen c.spare.new.self.log.folder) n =
    spare_in (length kept) (length K.entries) (length served) (length S.entries) first _ n
    (sym (length-map kept entry_of)) (sym (length-map served entry_of)) here.read.found at in
    let pruned = c.in_ok-pruned.ensures.all faithful _ _ _ run.at n is in
    ⊎_elim (λ same. same ∙ pruned) (λ gone. gone.0) (c.in_ok-remove_pages.ensures.only faithful n)

pub returns-clause-all : goal.returns-clause-all
returns-clause-all g c = λ faithful origin served kept has.
    let run = pruning g (goal.at.returns-clause-all g c).After-spare faithful has in
    run.remaining c.prune.new.self c.remove_pages.new.self c.as_slice.ensures.value
    (c.in_ok-pruned.ensures.only faithful _ _ _ run.at) (c.in_ok-remove_pages.ensures.only faithful)
    (c.in_ok-remove_pages.ensures.removed faithful) (c.in_ok-spare.ensures.all faithful)

pub returns-in_err-spare-clause-whole : goal.returns-in_err-spare-clause-whole
returns-in_err-spare-clause-whole g c = λ faithful origin served kept has.
    told_as _ _ _ c.from_residual.ensures.1
    (of_registry g.F.Folder origin served kept c.self.view_is has _
    (c.in_err-spare.ensures.whole faithful))

pub returns-in_err-pruned-clause-whole : goal.returns-in_err-pruned-clause-whole
returns-in_err-pruned-clause-whole g c = λ faithful origin served kept has.
    let run = pruning g (goal.at.returns-in_err-pruned-clause-whole g c).After-spare faithful has in
    told_as _ _ _ c.from_residual-in_err-pruned.ensures.1 (c.in_err-pruned.ensures.whole faithful _ _ _ run.at)

pub returns-in_err-remove_pages-clause-whole : goal.returns-in_err-remove_pages-clause-whole
returns-in_err-remove_pages-clause-whole g c = λ faithful origin served kept has.
    told_as _ _ _ c.from_residual-in_err-remove_pages.ensures.1 tt
