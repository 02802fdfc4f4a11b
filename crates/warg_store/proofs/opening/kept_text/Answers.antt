use Rattle.std.proofs.Common.{◌≡◌, inl, inr, ⊎_elim, None}
use Rattle.std.proofs.lemmas.Result.{IfOk-weaker, on_ok_weaker}
use Rattle.warg_folder.specs.Files.{Files}
use Rattle.warg_store.specs.Log.{LogOf, Keeps, HasLog, said_of}
use Rattle.warg_store.proofs.OptionLemmas.{one_value, no_value}
use Rattle.warg_store.proofs.WholeLemmas.{err_same}
use Rattle.warg_folder.proofs.ForCallers.{begins, leaves_then, then_reads, read_twice, leaves_weaker}
use Rattle.warg_store.proofs.OpenLemmas.{kept_said}
use Rattle.warg_store.proofs.opening.kept_text.Goals.{In-Some}
use Rattle.warg_store.proofs.opening.kept_text.Goals as goal

-- where the state is there, the log is kept, and this is what it says
kept : (g : _) (c : In-Some g) → g.F.Folder.IsFaithful → (served log : LogOf)
    → HasLog served log (g.F.Folder.seen c.args.folder.now)
    → (c.in-Some.state ≡ said_of log) × Keeps served log (g.F.Folder.seen c.args.folder.now)
kept g c faithful served log has = elim has [
  | inl keeps ↦ (
    one_value c.in-Some.is
        (c.in_ok-state.ensures.text faithful _ None (kept_said log keeps.can) keeps.state),
    keeps,
  )
  | inr without ↦ absurd (no_value ((c.in_ok-state.ensures.none faithful).1 without.1) c.in-Some.is)
]

pub returns-in_default-clause-text : goal.returns-in_default-clause-text
returns-in_default-clause-text g c = λ faithful.
    IfOk-weaker c.take_over.result _ _
    (λ text taken served log has. elim has [
      | inl keeps ↦ absurd (no_value c.in_default.is
          (c.in_ok-state.ensures.text faithful _ None (kept_said log keeps.can) keeps.state))
      | inr without ↦ let found = taken log (rw (c.read_text.ensures.seen faithful) without.2) in
          (found.0, rw without.0 found.1)
    ])
    (c.take_over.ensures.text faithful)

pub returns-clause-text : goal.returns-clause-text
returns-clause-text g c = λ faithful served log has.
    let is = kept g (goal.at.returns-clause-text g c).In-Some faithful served log has in (
      is.0,
      rw (c.compare.ensures.seen faithful, c.read_served.ensures.seen faithful, c.read_text.ensures.seen faithful)
          is.1,
    )

pub returns-in_err-state-clause-whole : goal.returns-in_err-state-clause-whole
returns-in_err-state-clause-whole g c = λ faithful served log has. err_same _ _ _ c.from_residual.ensures.1
    (⊎_elim (λ keeps. c.in_err-state.ensures.whole faithful _ None (kept_said log keeps.can) keeps.state)
    (λ without. c.in_err-state.ensures.absent faithful without.1) has)

pub returns-in_err-compare-clause-whole : goal.returns-in_err-compare-clause-whole
returns-in_err-compare-clause-whole g c = λ faithful served log has.
    let first = c.read_text.ensures.seen faithful in
    let is = kept g (goal.at.returns-in_err-compare-clause-whole g c).In-Some faithful served log has in
    err_same _ _ _ c.from_residual-in_err-compare.ensures.1
    (c.in_err-compare.ensures.whole faithful served log (rw (c.read_served.ensures.seen faithful, first) is.1) is.0
    (c.in_ok-served.ensures.text faithful served (rw first is.1.serves)))

pub returns-clause-any_moment : goal.returns-clause-any_moment
returns-clause-any_moment g c = λ faithful only.
    let served = read_twice _ _ _ _ _ _ _ (g.met.F.Folder.only_now c.args.folder.now)
    (c.read_text.ensures.time faithful) (c.read_served.ensures.time faithful) (c.read_text.ensures.crash faithful)
    (c.read_served.ensures.crash faithful) only in
    leaves_weaker _ _ _ _ _ _
    (then_reads _ _ _ g.met.F.Folder.counts_now _ _ _ _ served.0 (c.in_ok-compare.ensures.any_moment faithful))
    (λ f same. inl same)

pub returns-in_default-clause-any_moment : goal.returns-in_default-clause-any_moment
returns-in_default-clause-any_moment g c = λ faithful only.
    let seen = c.read_text.ensures.seen faithful in
    let left_same : (f : Files) → g.F.Folder.may_leave c.read_text.new.folder f → f ≡ g.F.Folder.seen c.args.folder.now
    = λ f left. only f (c.read_text.ensures.crash faithful f left) in
    on_ok_weaker c.take_over.result
    (λ run. leaves_then _ _ _ _ _ _ _ _
    (begins _ _ _ _ _ _ (g.met.F.Folder.only_now c.args.folder.now) (c.read_text.ensures.time faithful) only left_same)
    (rw seen at run) (λ f same. inl same) (λ f was. was))
    (c.take_over.ensures.any_moment faithful (rw seen left_same)
    (rw seen ((c.in_ok-state.ensures.none faithful).0 c.in_default.is)))

pub returns-clause-ready : goal.returns-clause-ready
returns-clause-ready g c = λ faithful staging.
    c.in_ok-compare.ensures.ready faithful
    (c.in_ok-served.ensures.ready faithful (c.in_ok-state.ensures.ready faithful staging))

pub returns-in_default-clause-ready : goal.returns-in_default-clause-ready
returns-in_default-clause-ready g c = λ faithful staging.
    c.take_over.ensures.ready faithful (c.in_ok-state.ensures.ready faithful staging)

pub returns-clause-beside : goal.returns-clause-beside
returns-clause-beside g c = λ faithful n isnt.
    rw (c.compare.ensures.seen faithful, c.read_served.ensures.seen faithful, c.read_text.ensures.seen faithful)

pub returns-in_default-clause-beside : goal.returns-in_default-clause-beside
returns-in_default-clause-beside g c = λ faithful.
    rw (c.read_text.ensures.seen faithful) at (c.take_over.ensures.beside faithful)

pub returns-clause-agrees : goal.returns-clause-agrees
returns-clause-agrees g c = λ faithful served behind can there.
    rw (c.in_ok-served.ensures.said faithful served behind can (rw (c.read_text.ensures.seen faithful) there)) at
    c.in_ok-compare.ensures.agrees

pub returns-in_default-clause-agrees : goal.returns-in_default-clause-agrees
returns-in_default-clause-agrees g c = λ faithful.
    rw (c.read_text.ensures.seen faithful) at (c.take_over.ensures.agrees faithful)
