use Rattle.std.proofs.Common.{List, ℕ, ◌+◌, ap}
use Rattle.warg_log.specs.Blocks.{Blocks}
use Rattle.warg_log.proofs.StackLemmas.{grows_over, stands_pushed}
use Rattle.warg_log.proofs.stack_log.StackLogLogBuilder.push.Goals as goal

pub returns-clause-ok : goal.returns-clause-ok
returns-clause-ok g c =
    let before : Blocks = record { len = c.self.inside.count; digests = c.self.inside.blocks.items } in
    let all = rw (c.hash_leaf-digest.ensures, c.in_ok-reserve.ensures.items) at c.join_blocks.ensures.blocks in
    let after : List (List ℕ) → Blocks = λ l. record { len = c.self.inside.count + 1; digests = l } in
    rw (← c.self.view_is) (ap after (all _ (grows_over g.D.SupportedDigest.digest before _ c.self.invariant.0)))

pub returns-clause-stands : goal.returns-clause-stands
returns-clause-stands g c = λ ds stands. rw (returns-clause-ok g c)
    (stands_pushed g.D.SupportedDigest.digest _ _ ds stands)
