use Rattle.std.proofs.Common.{◌≡◌, ℕ, length}
use Rattle.warg_store.specs.Log.{LogOf, Serves}
use Rattle.warg_store.specs.Pruned.{IsSpare}
use Rattle.warg_store.specs.Private.Steps.{PrunesOn}
use Rattle.warg_store.proofs.PruneLemmas.{begun, spare_gone, spare_name, prunes_none, prunes_read, prunes_then, prunes_behind, prunes_begun}
use Rattle.warg_store.proofs.pruning.prune_all.Goals.{After-list, After-prune_each, After-sync}
use Rattle.warg_store.proofs.pruning.prune_all.Goals as goal

-- the length that the folder serves
served_length : (g : _) (c : After-prune_each g) → g.F.Folder.IsFaithful → (log : LogOf)
    → Serves log (g.F.Folder.seen c.args.folder.now) → c.length-served.result ≡ length log.entries
served_length g c faithful log serves = rw (
  c.length-served.ensures,
  c.checkpoint-2.ensures.length,
  c.in_ok-read_served.ensures.text faithful log serves,
)

-- the run up to the list of the files
listed : (g : _) (c : After-list g) (most : ℕ) → g.F.Folder.IsFaithful → PrunesOn g.F.Folder.moment
    g.F.Folder.left_since g.F.Folder.may_leave c.args.kept most c.args.folder.now c.list.new.self
listed g c most faithful = prunes_behind _ _ _ g.met.F.Folder.only_now _ _ _ _ _ _
    (c.read_served.ensures.crash faithful) (c.read_served.ensures.time faithful) (c.list.ensures.crash faithful)
    (c.list.ensures.time faithful) (prunes_none _ _ _ g.met.F.Folder.only_now _ _ _)

-- up to their removal
removed : (g : _) (c : After-prune_each g) → g.F.Folder.IsFaithful → (log : LogOf)
    → Serves log (g.F.Folder.seen c.args.folder.now) → PrunesOn g.F.Folder.moment g.F.Folder.left_since
    g.F.Folder.may_leave c.args.kept (length log.entries) c.args.folder.now c.prune_each.new.folder
removed g c faithful log serves = prunes_behind _ _ _ g.met.F.Folder.only_now _ _ _ _ _ _
    (c.read_served.ensures.crash faithful) (c.read_served.ensures.time faithful) (c.list.ensures.crash faithful)
    (c.list.ensures.time faithful)
    (rw (served_length g c faithful log serves) at (c.prune_each.ensures.run faithful))

-- and up to the end, where the folder is synced
synced : (g : _) (c : After-sync g) (most : ℕ) → g.F.Folder.IsFaithful
    → PrunesOn g.F.Folder.moment g.F.Folder.left_since g.F.Folder.may_leave c.args.kept most c.args.folder.now
    c.prune_each.new.folder → PrunesOn g.F.Folder.moment g.F.Folder.left_since g.F.Folder.may_leave c.args.kept most
    c.args.folder.now c.sync.new.self
synced g c most faithful run = prunes_then _ _ _ g.met.F.Folder.only_now _ _ _ _ _ run
    (prunes_read _ _ _ g.met.F.Folder.only_now _ _ _ _
    (c.sync.ensures.crash faithful) (c.sync.ensures.time faithful))

pub returns-in_err-read_served-clause-any_moment : goal.returns-in_err-read_served-clause-any_moment
returns-in_err-read_served-clause-any_moment g c = λ faithful served log keeps staging.
    prunes_begun _ _ _ g.met.F.Folder.only_now _ (length served.entries) _ _ _
    (prunes_read _ _ _ g.met.F.Folder.only_now _ _ _ _ (c.read_served.ensures.crash faithful)
    (c.read_served.ensures.time faithful)) staging

pub returns-in_err-names-clause-any_moment : goal.returns-in_err-names-clause-any_moment
returns-in_err-names-clause-any_moment g c = λ faithful served log keeps staging.
    prunes_begun _ _ _ g.met.F.Folder.only_now _ _ _ _ _
    (listed g (goal.at.returns-in_err-names-clause-any_moment g c).After-list (length served.entries) faithful) staging

pub returns-in_err-removed-clause-any_moment : goal.returns-in_err-removed-clause-any_moment
returns-in_err-removed-clause-any_moment g c = λ faithful served log keeps staging.
    prunes_begun _ _ _ g.met.F.Folder.only_now _ _ _ _ _
    (removed g (goal.at.returns-in_err-removed-clause-any_moment g c).After-prune_each faithful served keeps.serves)
    staging

pub returns-in_err-sync-clause-any_moment : goal.returns-in_err-sync-clause-any_moment
returns-in_err-sync-clause-any_moment g c = λ faithful served log keeps staging.
    let at = goal.at.returns-in_err-sync-clause-any_moment g c in
    prunes_begun _ _ _ g.met.F.Folder.only_now _ _ _ _ _
    (synced g at.After-sync (length served.entries) faithful
    (removed g at.After-prune_each faithful served keeps.serves)) staging

pub returns-clause-any_moment : goal.returns-clause-any_moment
returns-clause-any_moment g c = λ faithful served log keeps staging.
    let at = goal.at.returns-clause-any_moment g c in
    prunes_begun _ _ _ g.met.F.Folder.only_now _ _ _ _ _
    (synced g at.After-sync (length served.entries) faithful
    (removed g at.After-prune_each faithful served keeps.serves)) staging

pub returns-clause-gone : goal.returns-clause-gone
returns-clause-gone g c = λ faithful.
    rw (c.sync.ensures.seen faithful, ← c.read_served.ensures.seen faithful, ← c.list.ensures.seen faithful)
    (c.in_ok-removed.ensures.gone faithful (rw c.as_slice.ensures.value (c.in_ok-names.ensures.once faithful))
    (rw (c.as_slice.ensures.value, c.list.ensures.seen faithful)
    (λ k d inside. (c.in_ok-names.ensures.there faithful k d inside).0)))

pub returns-clause-all : goal.returns-clause-all
returns-clause-all g c = λ faithful served log keeps staging n spare.
    let s = g.F.Folder.seen c.args.folder.now in
    let most = c.length-served.result in
    let at = goal.at.returns-clause-all g c in
    let is : IsSpare c.args.kept most s n =
    rw (served_length g at.After-prune_each faithful served keeps.serves) spare in
    let before = (listed g at.After-list most faithful).crash s
    (λ d left. begun c.args.kept most s d (staging d left)) in
    let last = (c.prune_each.ensures.run faithful).crash s before _
    (g.met.F.Folder.seen_may_stay c.prune_each.new.folder) in
    let name = spare_name n is in
    rw (c.sync.ensures.seen faithful)
    (spare_gone c.args.kept most s _ n c.as_slice.result.now last is
    (λ some. rw c.as_slice.ensures.value
    (c.in_ok-names.ensures.all faithful n (rw (c.read_served.ensures.seen faithful) some) (rw name.2 at name.1)))
    (c.in_ok-removed.ensures.all faithful s before))
