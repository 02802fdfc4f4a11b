use Rattle.warg_registry.proofs.source.KeptPages.names.Goals as goal

pub returns-clause-there : goal.returns-clause-there
returns-clause-there g c = λ faithful.
    rw (c.pages.ensures.read faithful).found
    (c.in_ok-pages.ensures.there faithful)
