use Rattle.std.proofs.Common.{◌≡◌, ◌+◌, ◌*◌, ◌∷◌, take, length, List, ℕ, Vec, map, sym, ◌∙◌}
use Rattle.std.specs.declared.alloc.Global.{Global}
use Rattle.std.proofs.lemmas.List.{length-map}
use Rattle.std.proofs.lemmas.Result.{on_ok_weaker}
use Rattle.warg_crypto.specs.Digests.{sha256}
use Rattle.warg_log.specs.Tree.{leaves_of}
use Rattle.warg_tiles.specs.TileLog.{StandsFor}
use Rattle.warg_folder.proofs.ForCallers.{read_then}
use Rattle.warg_store.specs.Private.Used.{IsEnough, IsUsed}
use Rattle.warg_store.specs.Log.{LogOf}
use Rattle.warg_store.proofs.AuditLemmas.{ok_holds}
use Rattle.warg_store.proofs.OlderLemmas.{bundle_stands, own_full}
use Rattle.warg_store.proofs.WholeLemmas.{err_same}
use Rattle.warg_store.proofs.UsedLemmas.{bundle_more}
use Rattle.warg_store.proofs.UsedRuns.{used_read, used_ready, used_then}
use Rattle.warg_store.proofs.auditing.replay_bundle.Goals.{After-read_entries, In_ok-push_all, After-use_bundle, After-take_full}
use Rattle.warg_store.proofs.auditing.replay_bundle.Goals as goal

-- the folder that was read for the entries was used
entries_used : (g : _) (c : After-read_entries g) → g.F.Folder.IsFaithful → IsUsed c.args.use_as g.F.Folder.seen
    g.F.Folder.may_leave g.F.Folder.moment g.F.Folder.left_since c.args.folder.now c.read_entries.new.folder
entries_used g c faithful = used_read _ _ _ _ g.met.F.Folder.counts_now g.met.F.Folder.only_now
    g.met.F.Folder.seen_may_stay c.args.use_as _ _
    (c.requires.ready faithful) (c.read_entries.ensures.read faithful)

-- and so was the one that was read for the older bundles, too
bundle_used : (g : _) (c : After-use_bundle g) → g.F.Folder.IsFaithful → IsUsed c.args.use_as g.F.Folder.seen
    g.F.Folder.may_leave g.F.Folder.moment g.F.Folder.left_since c.args.folder.now c.use_bundle.new.folder
bundle_used g c faithful = used_read _ _ _ _ g.met.F.Folder.counts_now g.met.F.Folder.only_now
    g.met.F.Folder.seen_may_stay c.args.use_as _ _
    (c.requires.ready faithful) (read_then _ _ _ _ _ _ _ (g.met.F.Folder.counts_now c.args.folder.now)
    (c.read_entries.ensures.read faithful) (c.use_bundle.ensures.read faithful))

-- with the log's own entries so far, it has them with those of the bundle
bundle_stood : (g : _) (c : In_ok-push_all g) → g.F.Folder.IsFaithful → (kept : LogOf)
    → IsEnough c.args.use_as kept (g.F.Folder.seen c.args.folder.now) → length kept.entries ≡ c.args.log_length
    → StandsFor sha256 c.args.log.now (leaves_of sha256 (take (256 * c.args.number) kept.entries))
    → StandsFor sha256 c.push_all.new.log (leaves_of sha256 (take (256 * c.args.number + 256) kept.entries))
bundle_stood g c faithful kept enough count was =
    bundle_stands kept c.args.number c.args.log.now c.push_all.new.log _
    (rw c.as_slice.ensures.value (c.in_ok-entries.ensures.own faithful kept enough.bundle enough.short count))
    c.in_ok-push_all.ensures.pushed was

pub returns-clause-files : goal.returns-clause-files
returns-clause-files g c = λ faithful.
    let seen = g.F.Folder.seen in
    let here : seen c.use_bundle.new.folder ≡ seen c.args.folder.now = (c.use_bundle.ensures.read faithful).found
    ∙ (c.read_entries.ensures.read faithful).found in
    on_ok_weaker c.use_tiles.result
    (λ used first was. bundle_more c.args.use_as first (seen c.use_bundle.new.folder) (seen c.use_tiles.new.folder)
    c.args.number c.args.log_length c.args.log.now c.push_all.new.log c.take_full.new.self
    (map (λ (e : Vec ℕ Global). e.items) c.in_ok-entries.entries.items) _ c.requires.inside c.requires.fits
    (length-map c.in_ok-entries.entries.items (λ (e : Vec ℕ Global). e.items) ∙ c.in_ok-entries.ensures.count)
    c.in_ok-entries.ensures.short (rw here (c.in_ok-entries.ensures.file faithful))
    (rw c.as_slice.ensures.value at c.in_ok-push_all.ensures.pushed) c.push_all.ensures.taken
    (λ ds stands. rw c.as_slice-3.ensures.value (c.take_full.ensures.tiles ds stands)) c.take_full.ensures.rest
    c.take_full.ensures.stands
    (λ compared. rw ((c.use_bundle.ensures.read faithful).found, ← c.as_slice-2.ensures.value)
    (c.in_ok-use_bundle.ensures.older faithful compared)) used (rw here was))
    (c.use_tiles.ensures.tiles faithful)

pub use_tiles-requires : goal.use_tiles-requires
use_tiles-requires g c = λ faithful.
    used_ready _ _ _ _ g.met.F.Folder.counts_now g.met.F.Folder.only_now g.met.F.Folder.seen_may_stay c.args.use_as _ _
    (bundle_used g (goal.at.use_tiles-requires g c).After-use_bundle faithful)

pub returns-in_err-entries-clause-used : goal.returns-in_err-entries-clause-used
returns-in_err-entries-clause-used g c =
    entries_used g (goal.at.returns-in_err-entries-clause-used g c).After-read_entries

pub returns-in_err-push_all-clause-used : goal.returns-in_err-push_all-clause-used
returns-in_err-push_all-clause-used g c =
    entries_used g (goal.at.returns-in_err-push_all-clause-used g c).After-read_entries

pub returns-in_err-use_bundle-clause-used : goal.returns-in_err-use_bundle-clause-used
returns-in_err-use_bundle-clause-used g c =
    bundle_used g (goal.at.returns-in_err-use_bundle-clause-used g c).After-use_bundle

pub returns-clause-used : goal.returns-clause-used
returns-clause-used g c = λ faithful.
    used_then _ _ _ _ g.met.F.Folder.counts_now g.met.F.Folder.only_now g.met.F.Folder.seen_may_stay c.args.use_as _ _ _
    (bundle_used g (goal.at.returns-clause-used g c).After-use_bundle faithful) (c.use_tiles.ensures.used faithful)

pub returns-clause-own : goal.returns-clause-own
returns-clause-own g c = λ faithful. ok_holds c.use_tiles.result _
    (λ kept enough count was. c.take_full.ensures.stands _
    (bundle_stood g (goal.at.returns-clause-own g c).In_ok-push_all faithful kept enough count was))

pub returns-in_err-entries-clause-whole : goal.returns-in_err-entries-clause-whole
returns-in_err-entries-clause-whole g c = λ faithful kept enough count was.
    err_same _ _ _ c.from_residual.ensures.1
    (c.in_err-entries.ensures.whole faithful kept enough.bundle enough.short count)

pub returns-in_err-use_bundle-clause-whole : goal.returns-in_err-use_bundle-clause-whole
returns-in_err-use_bundle-clause-whole g c = λ faithful kept enough count was.
    err_same _ _ _ c.from_residual-in_err-use_bundle.ensures.1
    (c.in_err-use_bundle.ensures.whole faithful kept (rw (c.read_entries.ensures.read faithful).found enough)
    (rw c.as_slice-2.ensures.value (c.in_ok-entries.ensures.own faithful kept enough.bundle enough.short count)))

pub returns-clause-whole : goal.returns-clause-whole
returns-clause-whole g c = λ faithful kept enough count was.
    let mid = c.push_all.new.log in
    let m = 256 * c.args.number + 256 in
    let stands = bundle_stood g (goal.at.returns-clause-whole g c).In_ok-push_all faithful kept enough count was in
    c.use_tiles.ensures.whole faithful kept
    (rw ((c.use_bundle.ensures.read faithful).found ∙ (c.read_entries.ensures.read faithful).found) enough)
    (own_full kept m mid.taken mid.len _ enough.most
    (sym stands.count ∙ length-map (take m kept.entries) (λ (e : List ℕ). sha256 (0 ∷ e)))
    (rw c.as_slice-3.ensures.value (c.take_full.ensures.tiles _ stands)))
