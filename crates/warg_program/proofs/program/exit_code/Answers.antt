use Rattle.std.proofs.Common.{rules}
use Rattle.warg_program.proofs.program.exit_code.Goals as goal

pub returns-in-Err-Memory-clause-device : goal.returns-in-Err-Memory-clause-device
returns-in-Err-Memory-clause-device c = search rules

pub returns-in-Err-Memory-clause-want : goal.returns-in-Err-Memory-clause-want
returns-in-Err-Memory-clause-want c = search rules
