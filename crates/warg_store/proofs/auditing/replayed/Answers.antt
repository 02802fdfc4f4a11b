use Rattle.std.proofs.Common.{◌≡◌, ◌+◌, ◌*◌, List, [], ◌∷◌, ℕ, length, min, sym, ap, ◌∙◌, arith}
use Rattle.std.proofs.lemmas.List.{length-map, take_all}
use Rattle.warg_crypto.specs.Digests.{sha256}
use Rattle.warg_log.specs.Tree.{leaves_of}
use Rattle.warg_tiles.specs.TileLog.{RightEdge, StandsFor}
use Rattle.warg_folder.proofs.ForCallers.{read_is}
use Rattle.warg_store.specs.Log.{LogOf}
use Rattle.warg_store.specs.Private.Used.{IsEnough, IsUsed}
use Rattle.warg_store.proofs.OlderLemmas.{own_parts}
use Rattle.warg_store.proofs.WholeLemmas.{err_same}
use Rattle.warg_store.proofs.UsedLemmas.{none_used, bundle_next, all_used}
use Rattle.warg_store.proofs.UsedRuns.{used_read, used_then, used_ready, used_enough}
use Rattle.warg_store.proofs.auditing.replayed.Goals.{After-use_tiles, In_ok-partial}
use Rattle.warg_store.proofs.auditing.replayed.Goals as goal

-- the tiles of the right edge were used behind the bundles
tiles_used : (g : _) (c : After-use_tiles g) → g.F.Folder.IsFaithful → IsUsed c.args.use_as g.F.Folder.seen
    g.F.Folder.may_leave g.F.Folder.moment g.F.Folder.left_since c.args.folder.now c.use_tiles.new.folder
tiles_used g c faithful = used_then _ _ _ _ g.met.F.Folder.counts_now g.met.F.Folder.only_now
    g.met.F.Folder.seen_may_stay c.args.use_as _ _ _
    (c.bundles.invariant.used faithful) (c.use_tiles.ensures.used faithful)

-- once all bundles were replayed, the log stands for the entries that are kept
all_stand : (g : _) (c : In_ok-partial g) → g.F.Folder.IsFaithful → (kept : LogOf)
    → IsEnough c.args.use_as kept (g.F.Folder.seen c.args.folder.now) → length kept.entries ≡ c.args.log_length
    → StandsFor sha256 c.bundles.log (leaves_of sha256 kept.entries)
all_stand g c faithful kept enough count =
    rw (take_all (256 * c.bundles.number) kept.entries (omega (arith, count))) at
    (c.bundles.invariant.own faithful kept enough count)

pub bundles-init : goal.bundles-init
bundles-init g c = record {
  has = ([], c.new-log.ensures.stands);
  ready = c.requires.ready;
  files = λ faithful.
      let none : min 0 c.args.log_length ≡ 0 = omega arith in
      rw none (none_used c.args.use_as (g.F.Folder.seen c.args.folder.now) c.new-log.result
      (ap (λ (e : RightEdge). e.taken) c.new-log.ensures.value
      ∙ sym (ap (λ (e : RightEdge). e.len) c.new-log.ensures.value)) c.new-log.ensures.stands);
  used = λ faithful. used_read _ _ _ _ g.met.F.Folder.counts_now g.met.F.Folder.only_now
      g.met.F.Folder.seen_may_stay c.args.use_as _ _ (c.requires.ready faithful)
      (read_is _ _ _ _ c.args.folder.now);
  own = λ faithful kept enough count. c.new-log.ensures.stands;
  faults = omega arith;
}

pub bundles-preserved : goal.bundles-preserved
bundles-preserved g c = record {
  has = c.in_ok-replay_bundle.ensures.has;
  ready = λ faithful. used_ready _ _ _ _ g.met.F.Folder.counts_now g.met.F.Folder.only_now
      g.met.F.Folder.seen_may_stay c.args.use_as _ _
      (c.replay_bundle.ensures.used faithful);
  files = λ faithful. bundle_next c.args.use_as _ _ _ c.bundles.number c.args.log_length c.bundles.log
      c.replay_bundle.new.log (omega arith)
      (c.in_ok-replay_bundle.ensures.files faithful (g.F.Folder.seen c.args.folder.now))
      (c.bundles.invariant.files faithful);
  used = λ faithful. used_then _ _ _ _ g.met.F.Folder.counts_now g.met.F.Folder.only_now
      g.met.F.Folder.seen_may_stay c.args.use_as _ _ _
      (c.bundles.invariant.used faithful) (c.replay_bundle.ensures.used faithful);
  own = λ faithful kept enough count.
      let next : 256 * (c.bundles.number + 1) ≡ 256 * c.bundles.number + 256 = omega arith in
      rw next (c.in_ok-replay_bundle.ensures.own faithful kept
      (used_enough _ _ _ _ g.met.F.Folder.counts_now g.met.F.Folder.only_now g.met.F.Folder.seen_may_stay
      c.args.use_as kept _ _ (c.bundles.invariant.used faithful) enough) count
      (c.bundles.invariant.own faithful kept enough count));
  faults = omega (arith, c.bundles.invariant.faults, c.replay_bundle.ensures.cause.later);
}

pub returns-clause-files : goal.returns-clause-files
returns-clause-files g c = λ faithful.
    all_used c.args.use_as _ _ _ (min (256 * c.bundles.number) c.args.log_length) c.bundles.log _
    (omega (arith, c.requires.fits))
    (λ ds stands. rw c.as_slice.ensures.value (c.in_ok-partial.ensures.tiles ds stands))
    (c.in_ok-use_tiles.ensures.tiles faithful) (c.bundles.invariant.files faithful)

pub returns-in_err-replay_bundle-clause-used : goal.returns-in_err-replay_bundle-clause-used
returns-in_err-replay_bundle-clause-used g c = λ faithful.
    used_then _ _ _ _ g.met.F.Folder.counts_now g.met.F.Folder.only_now g.met.F.Folder.seen_may_stay c.args.use_as _ _ _
    (c.bundles.invariant.used faithful)
    (c.replay_bundle.ensures.used faithful)

pub returns-in_err-use_tiles-clause-used : goal.returns-in_err-use_tiles-clause-used
returns-in_err-use_tiles-clause-used g c =
    tiles_used g (goal.at.returns-in_err-use_tiles-clause-used g c).After-use_tiles

pub returns-clause-used : goal.returns-clause-used
returns-clause-used g c = tiles_used g (goal.at.returns-clause-used g c).After-use_tiles

pub returns-clause-own : goal.returns-clause-own
returns-clause-own g c = all_stand g (goal.at.returns-clause-own g c).In_ok-partial

pub returns-in_err-replay_bundle-clause-whole : goal.returns-in_err-replay_bundle-clause-whole
returns-in_err-replay_bundle-clause-whole g c = λ faithful kept enough count.
    err_same _ _ _ c.from_residual.ensures.1
    (c.in_err-replay_bundle.ensures.whole faithful kept
    (used_enough _ _ _ _ g.met.F.Folder.counts_now g.met.F.Folder.only_now g.met.F.Folder.seen_may_stay
    c.args.use_as kept _ _ (c.bundles.invariant.used faithful) enough) count
    (c.bundles.invariant.own faithful kept enough count))

pub returns-in_err-use_tiles-clause-whole : goal.returns-in_err-use_tiles-clause-whole
returns-in_err-use_tiles-clause-whole g c = λ faithful kept enough count.
    let at = goal.at.returns-in_err-use_tiles-clause-whole g c in
    let stands = all_stand g at.In_ok-partial faithful kept enough count in
    let len : c.bundles.log.len ≡ length kept.entries = sym stands.count
    ∙ length-map kept.entries (λ (e : List ℕ). sha256 (0 ∷ e)) in
    err_same _ _ _ c.from_residual-in_err-use_tiles.ensures.1
    (c.in_err-use_tiles.ensures.whole faithful kept
    (used_enough _ _ _ _ g.met.F.Folder.counts_now g.met.F.Folder.only_now g.met.F.Folder.seen_may_stay
    c.args.use_as kept _ _ (c.bundles.invariant.used faithful) enough)
    (own_parts kept c.bundles.log.len _ enough.most len
    (rw c.as_slice.ensures.value (c.in_ok-partial.ensures.tiles _ stands))))
