use Rattle.std.proofs.Common.{Some, rules, sym, ap, ◌∙◌, rules}
use Rattle.std.proofs.lemmas.List.Sorted.{answers_always}
use Rattle.warg_log.proofs.SparseLemmas.{searched_ok, searched_err}
use Rattle.warg_log.proofs.sparse_data.SparseLogDataLogData.hash_for.Goals as goal

pub returns-in-Ok : goal.returns-in-Ok
returns-in-Ok g c =
    let by_number = c.in-Ok.ensures.position (λ pair. pair.0.0)
    (answers_always _ _ _ (λ f a r g called. search rules)) in
    let bound = rw c.as_slice.ensures.value at c.in-Ok.ensures.bound in
    rw (← c.self.view_is) (ap Some (c.copied.ensures ∙ ap (λ p. p.1) c.index.ensures)
    ∙ sym (searched_ok c.self.inside.pairs.items c.args.node.0 c.in-Ok.place c.index.result.now c.self.invariant bound
    (rw c.as_slice.ensures.value at by_number)))

pub returns-in-Err : goal.returns-in-Err
returns-in-Err g c =
    let by_number = c.in-Err.ensures.position (λ pair. pair.0.0)
    (answers_always _ _ _ (λ f a r g called. search rules)) in
    rw (← c.self.view_is) (sym (searched_err c.self.inside.pairs.items c.args.node.0 c.in-Err.field-0 c.self.invariant
    (rw c.as_slice.ensures.value at by_number)))
