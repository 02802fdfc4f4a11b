use Rattle.std.proofs.Common.{map, refl, sym, inr, ◌∙◌}
use Rattle.warg_protobuf.specs.HashEntry.{entry_view}
use Rattle.warg_log.proofs.ImageLemmas.{no_stack, none_stack, entries_again}
use Rattle.warg_log.proofs.stack_log.StackLog.from_message.Goals as goal

pub returns-then-not-are_roots-clause-exact : goal.returns-then-not-are_roots-clause-exact
returns-then-not-are_roots-clause-exact g c = inr (no_stack _ (map entry_view c.args.message.stack.items)
    (rw c.as_slice.ensures.value at c.in_ok-digests.ensures.good)
    (rw c.as_slice-2.ensures.value at (sym c.are_roots.ensures ∙ c.if-not-are_roots.true)))

pub returns-then-not-are_roots-clause-none : goal.returns-then-not-are_roots-clause-none
returns-then-not-are_roots-clause-none g c = λ _. none_stack _ (map entry_view c.args.message.stack.items)
    (rw c.as_slice-2.ensures.value at (sym c.are_roots.ensures ∙ c.if-not-are_roots.true))

pub returns-clause-message : goal.returns-clause-message
returns-clause-message g c = rw (
  rw c.as_slice.ensures.value at c.in_ok-digests.ensures.ok,
  entries_again c.args.message.length (map entry_view c.args.message.stack.items)
      (rw c.as_slice-2.ensures.value at (sym c.are_roots.ensures ∙ c.if-not-are_roots.false)),
) refl
