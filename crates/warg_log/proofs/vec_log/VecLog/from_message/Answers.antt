use Rattle.std.proofs.Common.{◌≡◌, sym, ap, inr, ◌∙◌}
use Rattle.std.proofs.lemmas.Bool.{false≢true}
use Rattle.warg_log.specs.Tree.{leaves_in}
use Rattle.warg_log.specs.Images.{vec_message}
use Rattle.warg_log.proofs.TreeLemmas.{message_read, no_log, log_again}
use Rattle.warg_log.proofs.vec_log.VecLog.from_message.Goals as goal
use Rattle.warg_log.proofs.vec_log.VecLog.from_message.Goals.{Then-not-has_message}

-- the leaf digests of a tree that isn't a log's have another message
refuted : (g : _) (c : Then-not-has_message g) → vec_message g.D.SupportedDigest.digest
    (leaves_in c.args.message.tree.items)
    ≡ record { length = c.args.message.length; tree = c.args.message.tree.items } → ⊥
refuted g c is = false≢true (sym c.if-not-has_message.true
    ∙ c.has_message.ensures.1 (rw (c.in_ok-log.ensures.ok, c.as_slice.ensures.value) is))

pub returns-then-not-has_message-clause-exact : goal.returns-then-not-has_message-clause-exact
returns-then-not-has_message-clause-exact g c = inr (no_log g.D.SupportedDigest.digest _ _
    (rw c.as_slice.ensures.value at c.in_ok-log.ensures.good)
    (refuted g (goal.at.returns-then-not-has_message-clause-exact g c).Then-not-has_message))

pub returns-then-not-has_message-clause-none : goal.returns-then-not-has_message-clause-none
returns-then-not-has_message-clause-none g c = λ _ ds is.
    refuted g (goal.at.returns-then-not-has_message-clause-none g c).Then-not-has_message
    (log_again g.D.SupportedDigest.digest _ _ ds is)

pub returns-clause-exact : goal.returns-clause-exact
returns-clause-exact g c =
    let own = c.in_ok-log.ensures.ok ∙ ap leaves_in c.as_slice.ensures.value in
    rw own (message_read g.D.SupportedDigest.digest _ _ (rw own at (c.has_message.ensures.0 c.if-not-has_message.false))
    (rw c.as_slice.ensures.value at c.in_ok-log.ensures.good))
