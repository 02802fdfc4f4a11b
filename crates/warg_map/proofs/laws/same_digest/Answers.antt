use Rattle.warg_map.proofs.DigestBits.{same_bits_same_digest}
use Rattle.warg_map.proofs.laws.same_digest.Goals as goal

pub returns : goal.returns
returns c = λ H key other f g. same_bits_same_digest f g
