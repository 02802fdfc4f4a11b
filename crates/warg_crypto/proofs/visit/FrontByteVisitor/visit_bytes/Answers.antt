use Rattle.std.proofs.Common.{◌++◌, arith}
use Rattle.warg_crypto.specs.Private.Compared.{IsFront}
use Rattle.warg_crypto.proofs.CompareLemmas.{step_visited, front_step, counted, visit_finds}
use Rattle.warg_crypto.proofs.visit.FrontByteVisitor.visit_bytes.Goals as goal

pub returns : goal.returns
returns g c m before = counted _ _ _ _ c.checked_add-self.ensures (λ next next_is more.
    step_visited IsFront m c.args.bytes.now more ((rw c.in-Some.is at before) (c.args.bytes.now ++ more))
    (front_step c.args.bytes.now more _ c.in-Some.count next next_is)
    (let finds = visit_finds c.in-Some.count c.args.bytes.now _ c.visit.new.to.rest.now c.visit.new.to.skip
    c.visit.new.to.same c.visit.ensures in grind arith))
