use Rattle.std.proofs.Common.{sym, ◌∙◌}
use Rattle.warg_log.proofs.ImageLemmas.{all_good}
use Rattle.warg_log.proofs.TreeLemmas.{message_is, message_read}
use Rattle.warg_log.proofs.vec_log.VecLog.to_message.Goals as goal

pub returns-clause-again : goal.returns-clause-again
returns-clause-again g c = rw (← c.self.view_is, c.in_ok-tree.ensures.digests ∙ c.as_slice.ensures.value)
    (message_read g.D.SupportedDigest.digest _ _
    (message_is g.D.SupportedDigest.digest _ _ (sym c.self.invariant.0) c.self.invariant.1)
    (all_good _ (rw c.as_slice.ensures.value at c.in_ok-tree.ensures.lengths)))
