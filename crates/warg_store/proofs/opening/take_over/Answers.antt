use Rattle.std.proofs.Common.{◌≡◌, inl, inr, ⊎_elim, ℕ, List, Option, Some, ap, ◌∙◌}
use Rattle.warg_tiles.specs.CheckpointText.{Said, text_of, text_before}
use Rattle.warg_folder.specs.Files.{put}
use Rattle.warg_folder.specs.Names.{checkpoint, state}
use Rattle.warg_store.specs.Log.{LogOf, Serves, said_of, checkpoint_of}
use Rattle.warg_store.proofs.OptionLemmas.{one_value, no_value}
use Rattle.warg_store.proofs.OpenLemmas.{kept_said, agrees_self, taken_over}
use Rattle.warg_store.proofs.WholeLemmas.{err_same, same_said}
use Rattle.warg_store.specs.Opening.{CanBeServed}
use Rattle.warg_folder.proofs.ForCallers.{begins, goes_on, leaves_weaker, then_reads, read_leaves, in_end, put_apart}
use Rattle.warg_store.proofs.ReadyRuns.{state_staging, staging_kept}
use Rattle.warg_store.proofs.opening.take_over.Goals.{In-Some}
use Rattle.warg_store.proofs.opening.take_over.Goals as goal

-- what is read is what a log that is served says
log_said : (g : _) (c : In-Some g) → g.F.Folder.IsFaithful → (log : LogOf)
    → Serves log (g.F.Folder.seen c.args.folder.now) → c.in-Some.served ≡ said_of log
log_said g c faithful log serves = one_value c.in-Some.is
    (c.in_ok-served.ensures.text faithful _ serves.checkpoint.0 (kept_said log serves.can) serves.checkpoint.1)

pub returns-clause-text : goal.returns-clause-text
returns-clause-text g c = λ faithful log serves.
    let said = log_said g (goal.at.returns-clause-text g c).In-Some faithful log serves in
    let bytes : c.as_slice.result.now ≡ checkpoint_of log = c.as_slice.ensures.value ∙ c.in_ok-bytes.ensures
    ∙ ap text_of said in (
      said,
      rw (
        c.in_ok-replace.ensures.replaced faithful,
        bytes,
        (c.read_end.ensures.read faithful).found,
        c.read_text.ensures.seen faithful,
      ) (taken_over log _ serves),
    )

pub returns-in_err-read_end-clause-whole : goal.returns-in_err-read_end-clause-whole
returns-in_err-read_end-clause-whole g c = λ faithful log serves.
    let said = log_said g (goal.at.returns-in_err-read_end-clause-whole g c).In-Some faithful log serves in
    err_same _ _ _ c.from_residual-in_err-read_end.ensures.1
    (c.in_err-read_end.ensures.whole faithful log serves.can
    (same_said _ (said_of log) (rw said at c.checkpoint-checkpoint.ensures.root)
    (rw said at c.checkpoint-checkpoint.ensures.length))
    (rw (c.read_text.ensures.seen faithful) serves.holds))

pub returns-in_err-served-clause-whole : goal.returns-in_err-served-clause-whole
returns-in_err-served-clause-whole g c = λ faithful log serves. err_same _ _ _ c.from_residual.ensures.1
    (c.in_err-served.ensures.whole faithful _ serves.checkpoint.0 (kept_said log serves.can) serves.checkpoint.1)

pub returns-in_default-clause-whole : goal.returns-in_default-clause-whole
returns-in_default-clause-whole g c = λ faithful log serves. absurd (no_value c.in_default.is
    (c.in_ok-served.ensures.text faithful _ serves.checkpoint.0 (kept_said log serves.can) serves.checkpoint.1))

pub returns-clause-agrees : goal.returns-clause-agrees
returns-clause-agrees g c = λ faithful served behind can there.
    rw (← one_value c.in-Some.is (c.in_ok-served.ensures.text faithful served behind can there))
    (agrees_self c.in-Some.served)

pub returns-clause-any_moment : goal.returns-clause-any_moment
returns-clause-any_moment g c = λ faithful only none.
    let first = g.F.Folder.seen c.args.folder.now in
    let text : List ℕ = c.as_slice.result.now in
    let says : (said : Said) (behind : Option (List ℕ)) → CanBeServed said
    → first checkpoint ≡ Some (text_before said behind) → text ≡ text_of said = λ said behind can there.
    c.as_slice.ensures.value ∙ c.in_ok-bytes.ensures
    ∙ ap text_of (one_value c.in-Some.is (c.in_ok-served.ensures.text faithful said behind can there)) in
    let end = then_reads _ _ _ g.met.F.Folder.counts_now _ _ c.read_end.new.folder _
    (begins _ _ _ _ _ _ (g.met.F.Folder.only_now c.args.folder.now) (c.read_text.ensures.time faithful) only
    (λ f left. only f (c.read_text.ensures.crash faithful f left)))
    (read_leaves _ _ _ _ _ _ (g.F.Folder.may_leave c.read_text.new.folder)
    (g.met.F.Folder.only_now c.read_text.new.folder) (λ f left. left) (c.read_end.ensures.read faithful)) in
    goes_on _ _ _ _ _ _ _ (leaves_weaker _ _ _ _ _ _ end (λ f same. inl same)) (c.replace.ensures.time faithful)
    (λ f left.
    let from = c.replace.ensures.crash faithful f left in
    let was : from.0 ≡ first = in_end _ _ _ g.met.F.Folder.counts_now _ _ _ end from.0 from.1 in
    ⊎_elim (λ same. inl (same ∙ was))
    (λ changed. inr (record { none = none; text = text; says = says; put = changed ∙ ap (put (state, text)) was }))
    from.2)

pub returns-clause-ready : goal.returns-clause-ready
returns-clause-ready g c = λ faithful staging.
    state_staging c.as_slice.result.now _ _ _ _ (c.in_ok-replace.ensures.replaced faithful)
    (c.in_ok-replace.ensures.durable faithful)
    (staging_kept _ _ _ _ (c.read_end.ensures.read faithful).found (c.read_end.ensures.read faithful).crash
    (c.in_ok-served.ensures.ready faithful staging))

pub returns-clause-beside : goal.returns-clause-beside
returns-clause-beside g c = λ faithful n differ.
    rw (
      c.in_ok-replace.ensures.replaced faithful,
      ← c.read_text.ensures.seen faithful,
      ← (c.read_end.ensures.read faithful).found,
    )
    (put_apart (state, c.as_slice.result.now) (g.F.Folder.seen c.read_end.new.folder) n differ)
