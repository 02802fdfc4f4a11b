use Rattle.std.proofs.Common.{◌⊎◌, inl, inr, ⊎_elim, Err, ap, ◌∙◌, arith}
use Rattle.warg_tiles.specs.CheckpointText.{Said}
use Rattle.warg_folder.specs.Files.{Files}
use Rattle.warg_store.specs.Opening.{IsOpening}
use Rattle.warg_folder.proofs.ForCallers.{in_end, leaves_weaker, leaves_then, then_reads, read_leaves}
use Rattle.warg_store.proofs.OpenLemmas.{opened_has, beside_state}
use Rattle.warg_store.proofs.ReadyRuns.{staging_kept}
use Rattle.warg_store.proofs.WholeLemmas.{mark_fits}
use Rattle.warg_store.proofs.log_folder.LogFolder.open.Goals as goal

pub returns-clause-has : goal.returns-clause-has
returns-clause-has g c = λ faithful served kept has.
    let found = c.in_ok-text.ensures.text faithful served kept (rw (c.in_default.ensures.opened faithful) has) in
    let long = c.checkpoint-checkpoint.ensures.length in
    let read = c.read_end.ensures.read faithful in
    let end = c.in_ok-log.ensures.end faithful kept found.1.can (long ∙ ap (λ (s : Said). s.length) found.0)
    found.1.holds in
    let nothing = beside_state (g.F.Folder.seen c.recover.new.folder) (g.F.Folder.seen c.kept_text.new.folder)
    (c.in_ok-text.ensures.beside faithful) (c.in_default.ensures.empty faithful) in
    rw c.with.ensures
    (opened_has _ _ served kept _ _ _ _ _ found.0 (rw read.found found.1) (rw read.found nothing)
    (staging_kept _ _ _ _ read.found read.crash
    (c.in_ok-text.ensures.ready faithful (c.in_default.ensures.ready faithful)))
    (c.in_ok-log.ensures.length.0 ∙ long) (c.in_ok-log.ensures.length.1 ∙ long) end.0 end.1
    (omega (arith, c.length-held.ensures, long)))

pub returns-in-Err-clause-opens : goal.returns-in-Err-clause-opens
returns-in-Err-clause-opens g c = λ faithful served kept has.
    c.of_recovery.ensures.whole (λ long. let stands = c.in-Err.ensures.too_long faithful (ap (λ e. Err e) long) in
    omega (arith, mark_fits served kept (g.F.Folder.seen c.args.folder) stands.0 stands.1 has, stands.2))

pub returns-clause-any_moment : goal.returns-clause-any_moment
returns-clause-any_moment g c = λ faithful.
    let settled = g.F.Folder.seen c.recover.new.folder in
    let R : Files → Type 0 = λ f.
    g.F.Folder.may_leave c.args.folder f ⊎ IsOpening (g.F.Folder.seen c.args.folder) f in
    let recovered = leaves_weaker _ _ _ _ _ R (c.recover.ensures.any_moment faithful)
    (λ f. ⊎_elim (λ was. inl was) (λ between. inr (inl between))) in
    let here : R settled = in_end _ _ _ g.met.F.Folder.counts_now _ _ R recovered settled
    (g.met.F.Folder.seen_may_stay c.recover.new.folder) in
    let kept = leaves_then _ _ _ _ _ R _ R recovered
    (c.in_ok-text.ensures.any_moment faithful (c.in_default.ensures.durable faithful)) (λ f was. was)
    (λ f now. elim now [
      | inl same ↦ rw same here
      | inr taken ↦ inr (inr (rw (c.in_default.ensures.opened faithful) at taken))
    ]) in
    rw c.with.ensures (then_reads _ _ _ g.met.F.Folder.counts_now _ _ _ R kept
    (read_leaves _ _ _ _ _ _ (g.F.Folder.may_leave c.kept_text.new.folder)
    (g.met.F.Folder.only_now c.kept_text.new.folder) (λ f left. left) (c.read_end.ensures.read faithful)))

pub returns-clause-ready : goal.returns-clause-ready
returns-clause-ready g c = λ faithful.
    let read = c.read_end.ensures.read faithful in
    rw c.with.ensures (λ is. staging_kept _ _ _ _ read.found read.crash
    (c.in_ok-text.ensures.ready faithful (c.in_default.ensures.ready faithful)))

pub returns-clause-agrees : goal.returns-clause-agrees
returns-clause-agrees g c = λ faithful served behind can there.
    rw c.with.ensures
    (c.in_ok-text.ensures.agrees faithful served behind can (rw (c.in_default.ensures.opened faithful) there))
