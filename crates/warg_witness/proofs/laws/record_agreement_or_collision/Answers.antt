use Rattle.warg_witness.proofs.PathLawLemmas.{record_agreement_collides}
use Rattle.warg_witness.proofs.laws.record_agreement_or_collision.Goals as goal

pub returns : goal.returns
returns c = λ H. record_agreement_collides H (c.path_is_unique.ensures H)
