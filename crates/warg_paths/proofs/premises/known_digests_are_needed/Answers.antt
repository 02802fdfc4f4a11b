use Rattle.warg_paths.proofs.PremiseLemmas.{inclusion_digests_are_needed, consistency_digests_are_needed}
use Rattle.warg_paths.proofs.premises.known_digests_are_needed.Goals as goal

pub returns-clause-inclusion : goal.returns-clause-inclusion
returns-clause-inclusion c = inclusion_digests_are_needed

pub returns-clause-consistency : goal.returns-clause-consistency
returns-clause-consistency c = consistency_digests_are_needed
