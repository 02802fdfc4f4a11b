use Rattle.std.proofs.Common.{[]}
use Rattle.warg_crypto.proofs.hash.bytes_of.Goals as goal

pub returns : goal.returns
returns g c = c.visit.ensures [] (λ _. c.new.ensures.items) c.if-collector.false
