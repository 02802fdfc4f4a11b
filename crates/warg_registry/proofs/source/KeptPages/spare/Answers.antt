use Rattle.std.proofs.Common.{◌≡◌, true, IsSome, ⊎_elim, inl, inr}
use Rattle.warg_folder.specs.Names.{is_page}
use Rattle.warg_registry.proofs.SomeNames.{some_each}
use Rattle.warg_registry.specs.Pruning.{bytes_of}
use Rattle.warg_registry.proofs.Pruned.{none_of}
use Rattle.warg_registry.proofs.Refused.{told_as}
use Rattle.warg_registry.proofs.source.KeptPages.spare.Goals as goal

pub returns-clause-spare : goal.returns-clause-spare
returns-clause-spare g c = λ faithful known origin served kept read serves own.
    let needed = c.in_ok-needed.ensures.needed faithful known origin served kept read serves own in
    let names = bytes_of c.in_ok-needed.needed.names.keys in (
      none_of names _ served c.in_ok-others.ensures.none needed.all_served,
      none_of names _ kept c.in_ok-others.ensures.none needed.all_kept,
    )

pub returns-clause-apart : goal.returns-clause-apart
returns-clause-apart g c = λ faithful. c.in_ok-others.ensures.some.apart (c.in_ok-names.ensures.apart faithful)

pub returns-clause-there : goal.returns-clause-there
returns-clause-there g c = λ faithful.
    some_each (λ n. IsSome (g.F.Folder.seen c.names.new.self.log.folder n) × (is_page n ≡ true)) _ _
    c.in_ok-others.ensures.some (c.in_ok-names.ensures.there faithful)

pub returns-clause-all : goal.returns-clause-all
returns-clause-all g c = λ faithful known origin served kept read serves own n page there.
    let needed = c.in_ok-needed.ensures.needed faithful known origin served kept read serves own in
    let listed = c.in_ok-names.ensures.all faithful known
    (c.in_ok-needed.ensures.read faithful known read) n page there in
    ⊎_elim (λ spare. inl spare)
    (λ key. ⊎_elim (λ these. inr (inl these)) (λ those. inr (inr those)) (needed.only n key))
    (c.in_ok-others.ensures.all n listed)

pub returns-in_err-needed-clause-whole : goal.returns-in_err-needed-clause-whole
returns-in_err-needed-clause-whole g c = λ faithful known origin served kept read serves own.
    told_as _ _ _ c.from_residual.ensures.1
    (c.in_err-needed.ensures.whole faithful known origin served kept read serves own)

pub returns-in_err-names-clause-whole : goal.returns-in_err-names-clause-whole
returns-in_err-names-clause-whole g c = λ faithful known origin served kept read serves own.
    told_as _ _ _ c.from_residual-in_err-names.ensures.1 c.in_err-names.ensures.whole
