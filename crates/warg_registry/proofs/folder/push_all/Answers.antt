use Rattle.std.proofs.Common.{◌≡◌, ◌<◌, ◌+◌, ◌^◌, ◌∷◌, ◌++◌, List, ℕ, Err, true≢false, length, map, take, sym, ap, ◌∙◌, arith}
use Rattle.std.specs.declared.alloc.Global.{Global}
use Rattle.std.specs.declared.vec.Vec.{Vec}
use Rattle.std.proofs.lemmas.List.{take_all, length-append, length-map, length-take-le}
use Rattle.warg_crypto.specs.Digests.{sha256}
use Rattle.warg_store.specs.Log.{AreShort}
use Rattle.warg_registry.specs.Folder.{with_entries}
use Rattle.warg_registry.proofs.RegistryGrowth.{pushed_more, no_entries_more}
use Rattle.warg_registry.proofs.FolderMoments.{stages_none, beside_then}
use Rattle.warg_registry.proofs.Listed.{items_of}
use Rattle.warg_registry.proofs.Refused.{told_as, push_refused, none_long}
use Rattle.warg_registry.proofs.folder.push_all.Goals as goal

pub entries-init : goal.entries-init
entries-init g c =
    let dev = g.F.Folder in record {
      pushed = λ faithful served old next has.
          rw (no_entries_more next) at has;
      ready = λ faithful. c.requires faithful;
      moments = λ faithful served old next has.
          stages_none g.F.Folder (g.met.F.Folder.only_now c.args.log.now.folder) has.staging;
      faults = omega arith;
    }

pub push-requires : goal.push-requires
push-requires g c = c.entries.invariant.ready

pub returns-in_err-push-clause-any_moment : goal.returns-in_err-push-clause-any_moment
returns-in_err-push-clause-any_moment g c = λ faithful served old next has.
    let now = c.entries.invariant.pushed faithful served old next has in
    beside_then g.F.Folder g.met.F.Folder.counts_now g.met.F.Folder.seen_may_stay
    (c.entries.invariant.moments faithful served old next has) (c.push.ensures.any_moment faithful now.is_open)

pub entries-preserved : goal.entries-preserved
entries-preserved g c =
    let dev = g.F.Folder in record {
      pushed = λ faithful served old next has.
          let taken = items_of (take c.entries.entry-index c.args.entries.now) in
          let more = pushed_more (λ (e : Vec ℕ Global). e.items) next c.args.entries.now c.entries.entry-index
          c.entry-item.result c.as_slice.result.now (omega arith) c.entry-item.is c.as_slice.ensures.value in
          rw more
          (c.in_ok-push.ensures.pushed faithful served old (with_entries next taken)
          (c.entries.invariant.pushed faithful served old next has));
      ready = λ faithful. c.push.ensures.ready faithful;
      moments = λ faithful served old next has.
          let now = c.entries.invariant.pushed faithful served old next has in
          beside_then dev g.met.F.Folder.counts_now g.met.F.Folder.seen_may_stay
          (c.entries.invariant.moments faithful served old next has) (c.push.ensures.any_moment faithful now.is_open);
      faults = omega (arith, c.entries.invariant.faults, c.push.ensures.cause.later);
    }

pub returns-clause-pushed : goal.returns-clause-pushed
returns-clause-pushed g c = λ faithful served old next has.
    let dev = g.F.Folder in
    let all : take c.entries.entry-index c.args.entries.now ≡ c.args.entries.now =
    take_all c.entries.entry-index c.args.entries.now (omega arith) in
    rw all at
    (c.entries.invariant.pushed faithful served old next has)

pub returns-clause-ready : goal.returns-clause-ready
returns-clause-ready g c = c.entries.invariant.ready

pub returns-clause-any_moment : goal.returns-clause-any_moment
returns-clause-any_moment g c = c.entries.invariant.moments

pub returns-in_err-push-clause-refused : goal.returns-in_err-push-clause-refused
returns-in_err-push-clause-refused g c = λ faithful served old next has.
    let entries = c.args.entries.now in
    let i = c.entries.entry-index in
    let items : Vec ℕ Global → List ℕ = λ e. e.items in
    let now = c.entries.invariant.pushed faithful served old next has in
    let long : Type 0 = AreShort (map items entries) → ⊥ in
    let full : Type 0 = 2 ^ 63 < length next.entries + length entries in
    let e = c.in_err-push.field-0.0 in
    let was : c.push.result ≡ Err e = c.in_err-push.was in
    let taken = map items (take i entries) in
    let size : length (next.entries ++ taken) ≡ c.entries.log.edge.len =
    sym (length-map (next.entries ++ taken) (λ (e : List ℕ). sha256 (0 ∷ e))) ∙ now.edge.count in
    told_as _ _ _ c.from_residual.ensures.1
    (push_refused long full e
    (λ same. none_long items entries i c.entry-item.result (omega arith) c.entry-item.is (omega (
      arith,
      ap length c.as_slice.ensures.value,
      c.push.ensures.too_long.0 (was ∙ ap Err same),
    )))
    (λ same. omega (
      arith,
      size,
      length-append next.entries taken,
      length-map (take i entries) items,
      length-take-le i entries (omega arith),
      (c.push.ensures.full.0 (was ∙ ap Err same)).1,
    ))
    (λ same. true≢false (sym now.is_open ∙ (c.push.ensures.closed.0 (was ∙ ap Err same)).2)))
