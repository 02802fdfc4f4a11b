use Rattle.warg_pages.proofs.visit.check_lone.Goals as goal

pub returns-in-Hashed-clause-ok : goal.returns-in-Hashed-clause-ok
returns-in-Hashed-clause-ok g c = rw c.in-Hashed.is c.hash_lone.ensures.ok
