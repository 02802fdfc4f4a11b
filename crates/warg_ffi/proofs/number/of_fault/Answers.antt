use Rattle.std.proofs.Common.{refl}
use Rattle.warg_ffi.proofs.number.of_fault.Goals as goal

pub returns-in-NoSuchProof : goal.returns-in-NoSuchProof
returns-in-NoSuchProof c = rw c.in-NoSuchProof.is refl
