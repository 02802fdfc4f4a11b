use Rattle.std.proofs.Common.{◌≡◌, ◌≤◌, ◌+◌, ◌*◌, ◌++◌, [], ◌∷◌, ℕ, List, Vec, Global, length, refl, sym, ap, subst, ◌∙◌, arith, append_assoc}
use Rattle.std.proofs.lemmas.List.{map-append, append-nil, length-map, take_all}
use Rattle.warg_folder.specs.Moments.{IsRead}
use Rattle.warg_store.specs.Reading.{Reads, bundle_in}
use Rattle.warg_tiles.specs.CheckpointText.{Said}
use Rattle.warg_registry.specs.Auditing.{AreReplayed}
use Rattle.warg_registry.specs.Folder.{registry_of}
use Rattle.warg_registry.specs.Insertions.{entry_of}
use Rattle.warg_registry.specs.Reading.{RegistryRead}
use Rattle.warg_registry.proofs.FolderMoments.{reads_then}
use Rattle.warg_registry.proofs.Listed.{items_of}
use Rattle.warg_registry.proofs.Refused.{told_as}
use Rattle.warg_registry.proofs.RegistryAudits.{visited_read, entry_in_bundle, next_made, made_at}
use Rattle.warg_registry.proofs.Replaying.{replayed_at}
use Rattle.warg_registry.proofs.reader.RegistryReader.replay_bundle.Goals as goal

pub entries-init : goal.entries-init
entries-init g c =
    let dev = g.F.Folder in
    let first = c.args.self.now in
    let replay = c.args.replay.now in record {
      few = c.requires;
      count = omega arith;
      same = (
        ap (λ (r : RegistryRead g.row.F.Denot). r.root) c.self.view_is,
        rw c.in_ok-entries.ensures.same (ap (λ (r : RegistryRead g.row.F.Denot). r.log.text) c.self.view_is),
      );
      read = λ faithful.
          (let P : RegistryRead g.row.F.Denot → Type 0 = λ r. IsRead dev.seen dev.may_leave dev.moment dev.left_since
          r.log.folder c.entries-2.new.self.folder in
          subst P c.self.view_is (c.in_ok-entries.ensures.read faithful));
      faults = (let P : RegistryRead g.row.F.Denot → Type 0 = λ r. dev.faults r.log.folder
          ≤ dev.faults c.entries-2.new.self.folder in
          subst P c.self.view_is c.in_ok-entries.ensures.cause.later);
      replayed = λ before was.
          (let P : List (List ℕ × List ℕ) → Type 0 = λ es. AreReplayed dev.IsFaithful (dev.seen first.log.folder)
          first.log.text.length replay.log replay.last es in
          ([], subst P (sym (append-nil before)) was, refl));
    }

pub entries-preserved : goal.entries-preserved
entries-preserved g c =
    let dev = g.F.Folder in
    let first = c.args.self.now in
    let mid = c.entries.self in
    let was = c.entries.invariant in
    let done = c.in_ok-replay_entry.ensures in
    let files : dev.IsFaithful → dev.seen mid.log.folder ≡ dev.seen first.log.folder = λ faithful.
    (was.read faithful).found in
    let length = ap (λ (t : Said). t.length) was.same.1 in record {
      few = done.few;
      count = (let one = done.count in omega (arith, was.count));
      same = (done.same.0 ∙ was.same.0, done.same.1 ∙ was.same.1);
      read = λ faithful. reads_then dev g.met.F.Folder.counts_now (was.read faithful) (done.read faithful);
      faults = omega (arith, was.faults, done.cause.later);
      replayed = λ before old.
          (let prior = was.replayed before old in
          let one = done.replayed (before ++ prior.0)
          (replayed_at (λ faithful. sym (files faithful)) (sym length) prior.1) in
          let after = c.replay_entry.new.replay in
          let P : List (List ℕ × List ℕ) → Type 0 = λ es. AreReplayed dev.IsFaithful (dev.seen first.log.folder)
          first.log.text.length after.log after.last es in (
            prior.0 ++ one.0 ∷ [],
            subst P (append_assoc before prior.0 (one.0 ∷ [])) (replayed_at files length one.2),
            map-append entry_of prior.0 (one.0 ∷ []) ∙ (λ i. prior.2 i ++ sym one.1 i ∷ [])
                ∙ sym (next_made (λ (e : Vec ℕ Global). e.items) c.deref-entry-items.result.now c.entries.entry-index
                c.entry-item.result c.entries-test.true c.entry-item.is),
          ));
    }

pub returns-clause-replayed : goal.returns-clause-replayed
returns-clause-replayed g c = λ before was.
    let more = c.entries.invariant.replayed before was in
    let items = c.deref-entry-items.result.now in
    let all : length (items_of items) ≡ length items = length-map items (λ (e : Vec ℕ Global). e.items) in (
      more.0,
      more.1,
      λ faithful log reads.
          (let Read : RegistryRead g.row.F.Denot → Type 0 = λ r. Reads g.F.Folder.seen log r.log in
          more.2
          ∙ take_all c.entries.entry-index (items_of items) (let past = c.entries-test.false in omega (arith, all))
          ∙ ap items_of c.deref-entry-items.ensures.value
          ∙ c.in_ok-entries.ensures.own faithful log (subst Read (sym c.self.view_is) reads)),
    )

pub returns-in_err-replay_entry-clause-whole : goal.returns-in_err-replay_entry-clause-whole
returns-in_err-replay_entry-clause-whole g c = λ faithful insertions all has inside starts.
    let dev = g.F.Folder in
    let was = c.entries.invariant in
    let log = registry_of has.origin insertions in
    let items = c.deref-entry-items.result.now in
    let first = 256 * c.args.bundle in
    let Read : RegistryRead g.row.F.Denot → Type 0 = λ r. Reads dev.seen log r.log in
    let own : items_of items ≡ bundle_in log c.args.bundle = rw c.deref-entry-items.ensures.value
    (c.in_ok-entries.ensures.own faithful log (subst Read (sym c.self.view_is) has.reads.reads)) in
    let found = entry_in_bundle insertions (items_of items) first c.entries.entry-index c.entry-item.result.items own
    (made_at (λ (e : Vec ℕ Global). e.items) items c.entries.entry-index c.entry-item.result c.entries-test.true
    c.entry-item.is) in
    let place : c.entries.replay.log.len ≡ first + c.entries.entry-index = omega (arith, was.count, starts) in
    let visited = visited_read dev was.same (was.read faithful) insertions all has in
    told_as _ _ _ c.from_residual-in_err-replay_entry.ensures.1
    (c.in_err-replay_entry.ensures.whole faithful insertions all visited found.0
    (rw place found.1) found.2)
