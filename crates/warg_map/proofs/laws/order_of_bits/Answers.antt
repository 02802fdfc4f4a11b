use Rattle.warg_map.proofs.DigestBits.{bits-order}
use Rattle.warg_map.proofs.laws.order_of_bits.Goals as goal

pub returns : goal.returns
returns c = λ H key other f g. bits-order f g
