use Rattle.warg_registry.proofs.RegistryPages.{own_files, served_checkpoint}
use Rattle.warg_registry.proofs.laws.served_registry.Goals as goal

pub returns-clause-checkpoint : goal.returns-clause-checkpoint
returns-clause-checkpoint c = served_checkpoint

pub returns-clause-pages : goal.returns-clause-pages
returns-clause-pages c = λ origin insertions files serves. own_files origin insertions files serves.holds
