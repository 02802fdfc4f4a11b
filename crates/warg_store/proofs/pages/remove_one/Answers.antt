use Rattle.std.proofs.Common.{inl, inr, ⊎_elim, refl, sym, ◌∙◌}
use Rattle.std.proofs.lemmas.Result.{on_ok_weaker}
use Rattle.warg_folder.proofs.ForCallers.{elapses_none}
use Rattle.warg_store.proofs.RemoveLemmas.{gone_here}
use Rattle.warg_store.proofs.pages.remove_one.Goals as goal

pub returns-then-not-is_page-clause-time : goal.returns-then-not-is_page-clause-time
returns-then-not-is_page-clause-time g c = λ faithful. elapses_none _ _ _ _

pub returns-then-not-is_page-clause-crash : goal.returns-then-not-is_page-clause-crash
returns-then-not-is_page-clause-crash g c = λ faithful e left. (e, left, inl refl)

pub returns-clause-removed : goal.returns-clause-removed
returns-clause-removed g c = λ faithful. on_ok_weaker c.remove.result (λ gone page. gone_here c.args.name.now _ _ gone)
    (c.remove.ensures.removed faithful)

pub returns-clause-only : goal.returns-clause-only
returns-clause-only g c = λ faithful. on_ok_weaker c.remove.result
    (λ gone. inr (sym c.is_page.ensures ∙ c.if-not-is_page.false, gone)) (c.remove.ensures.removed faithful)

pub returns-clause-crash : goal.returns-clause-crash
returns-clause-crash g c = λ faithful e left.
    let from = c.remove.ensures.crash faithful e left in (
      from.0,
      from.1,
      ⊎_elim (λ same. inl same)
          (λ gone. inr (sym c.is_page.ensures ∙ c.if-not-is_page.false, gone)) from.2,
    )
