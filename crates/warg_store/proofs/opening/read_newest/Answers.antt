use Rattle.std.proofs.Common.{◌≡◌, Some, inl, inr, ⊎_elim, None, ◌∙◌}
use Rattle.std.proofs.lemmas.Result.{IfOk-weaker}
use Rattle.warg_store.specs.Log.{LogOf, Serves, said_of}
use Rattle.warg_store.specs.Refusals.{IsNoFault}
use Rattle.warg_store.proofs.OptionLemmas.{one_value, no_value}
use Rattle.warg_store.proofs.WholeLemmas.{err_same, has_serves, one_serves, one_state, one_newest}
use Rattle.warg_store.proofs.OpenLemmas.{kept_said}
use Rattle.warg_store.proofs.opening.read_newest.Goals.{In_ok-served, In_err-served}
use Rattle.warg_store.proofs.opening.read_newest.Goals as goal

-- the text that is read is that of a log that is served
found : (g : _) (c : In_ok-served g) → g.F.Folder.IsFaithful → (log : LogOf)
    → Serves log (g.F.Folder.seen c.args.folder.now) → c.in_ok-served.field-0 ≡ Some (said_of log)
found g c faithful log serves =
    c.in_ok-served.ensures.text faithful _ serves.checkpoint.0 (kept_said log serves.can)
    (rw (c.read_text.ensures.seen faithful) serves.checkpoint.1)

-- which isn't refused
not_refused : (g : _) (c : In_err-served g) → g.F.Folder.IsFaithful → (log : LogOf)
    → Serves log (g.F.Folder.seen c.args.folder.now) → IsNoFault ⊥ c.in_err-served.field-0.0
not_refused g c faithful log serves =
    c.in_err-served.ensures.whole faithful _ serves.checkpoint.0 (kept_said log serves.can)
    (rw (c.read_text.ensures.seen faithful) serves.checkpoint.1)

pub returns-in-Some-state-2-clause-text : goal.returns-in-Some-state-2-clause-text
returns-in-Some-state-2-clause-text g c faithful =
    IfOk-weaker c.newest_of.result _ _ (λ text newest log serves.
    newest log (rw (c.read_text-2.ensures.seen faithful, c.read_text.ensures.seen faithful) serves)
    (one_value c.in-Some.is
    (found g (goal.at.returns-in-Some-state-2-clause-text g c).In_ok-served faithful log serves)))
    (c.newest_of.ensures.text faithful)

pub returns-in-None-state-clause-text : goal.returns-in-None-state-clause-text
returns-in-None-state-clause-text g c faithful log serves = one_value c.in-Some.is
    (found g (goal.at.returns-in-None-state-clause-text g c).In_ok-served faithful log serves)

pub returns-in_err-state-clause-whole : goal.returns-in_err-state-clause-whole
returns-in_err-state-clause-whole g c = λ faithful served log has. err_same _ _ _ c.from_residual.ensures.1
    (⊎_elim (λ keeps. c.in_err-state.ensures.whole faithful _ None (kept_said log keeps.can) keeps.state)
    (λ without. c.in_err-state.ensures.absent faithful without.1) has)

pub returns-in_err-served-clause-whole : goal.returns-in_err-served-clause-whole
returns-in_err-served-clause-whole g c = λ faithful served log has.
    err_same _ _ _ c.from_residual-in_err-served.ensures.1
    (not_refused g (goal.at.returns-in_err-served-clause-whole g c).In_err-served faithful served
    (has_serves served log _ has))

pub returns-in_default-clause-whole : goal.returns-in_default-clause-whole
returns-in_default-clause-whole g c = λ faithful served log has. absurd (no_value c.in_default.is
    (found g (goal.at.returns-in_default-clause-whole g c).In_ok-served faithful served
    (has_serves served log _ has)))

pub returns-in-Some-state-2-clause-whole : goal.returns-in-Some-state-2-clause-whole
returns-in-Some-state-2-clause-whole g c = λ faithful served log has. elim has [
  | inl keeps ↦
      let said = c.in_ok-state.ensures.text faithful _ None (kept_said log keeps.can) keeps.state in
      c.newest_of.ensures.whole faithful served log
      (λ idle. rw (c.read_text-2.ensures.seen faithful, c.read_text.ensures.seen faithful) keeps)
      (one_value c.in-Some-state-2.is said)
  | inr without ↦ absurd (no_value ((c.in_ok-state.ensures.none faithful).1 without.1) c.in-Some-state-2.is)
]

pub returns-in_err-state-clause-meanwhile : goal.returns-in_err-state-clause-meanwhile
returns-in_err-state-clause-meanwhile g c = λ faithful served old next one.
    let is = one_state served old next _ one in
    err_same _ _ _ c.from_residual.ensures.1
    (c.in_err-state.ensures.whole faithful _ None (kept_said is.0 is.1.can) is.1.text)

pub returns-in_err-served-clause-meanwhile : goal.returns-in_err-served-clause-meanwhile
returns-in_err-served-clause-meanwhile g c = λ faithful served old next one.
    let is = one_serves served old next _ one in
    err_same _ _ _ c.from_residual-in_err-served.ensures.1
    (not_refused g (goal.at.returns-in_err-served-clause-meanwhile g c).In_err-served faithful is.0 is.1)

pub returns-in_default-clause-meanwhile : goal.returns-in_default-clause-meanwhile
returns-in_default-clause-meanwhile g c = λ faithful served old next one.
    let is = one_serves served old next _ one in
    absurd (no_value c.in_default.is
    (found g (goal.at.returns-in_default-clause-meanwhile g c).In_ok-served faithful is.0 is.1))

pub returns-in-Some-state-2-clause-meanwhile : goal.returns-in-Some-state-2-clause-meanwhile
returns-in-Some-state-2-clause-meanwhile g c = λ faithful served old next one.
    let is = one_newest served old next _ (g.F.Folder.seen c.read_text-2.new.folder) c.in-Some-state-2.state
    (c.read_text-2.ensures.seen faithful ∙ c.read_text.ensures.seen faithful) one
    (λ log has. one_value c.in-Some-state-2.is
    (c.in_ok-state.ensures.text faithful _ None (kept_said log has.can) has.text)) in
    c.newest_of.ensures.whole faithful is.0 is.1 is.2 is.3

pub returns-in-Some-state-2-clause-newest : goal.returns-in-Some-state-2-clause-newest
returns-in-Some-state-2-clause-newest g c = λ faithful kept rest.
    let first = c.read_text.ensures.seen faithful in
    let second = c.read_text-2.ensures.seen faithful in
    rw (one_value c.in-Some-state-2.is (c.in_ok-state.ensures.text faithful kept None rest.can rest.says)) at
    (c.newest_of.ensures.newest faithful (rw (second, first) rest.no_mark) (rw (second, first) rest.unsigned))

pub returns-in-None-state-clause-newest : goal.returns-in-None-state-clause-newest
returns-in-None-state-clause-newest g c = λ faithful kept rest.
    absurd (no_value c.in-None-state.is (c.in_ok-state.ensures.text faithful kept None rest.can rest.says))
