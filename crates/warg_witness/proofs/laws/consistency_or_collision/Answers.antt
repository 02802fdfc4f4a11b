use Rattle.warg_witness.proofs.HeldLemmas.{consistency_collides}
use Rattle.warg_witness.proofs.laws.consistency_or_collision.Goals as goal

pub returns : goal.returns
returns c = consistency_collides
