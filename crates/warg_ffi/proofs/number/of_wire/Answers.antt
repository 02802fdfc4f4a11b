use Rattle.std.proofs.Common.{refl}
use Rattle.warg_ffi.proofs.number.of_wire.Goals as goal

pub returns-in-BadTag : goal.returns-in-BadTag
returns-in-BadTag c = rw c.in-BadTag.is refl
