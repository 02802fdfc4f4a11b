use Rattle.std.proofs.Common.{◌≡◌, ◌+◌, ◌*◌, ◌<◌, ◌++◌, [], length, take, refl, sym, ap, ◌∙◌, arith}
use Rattle.std.proofs.Math.Seq.{take-add}
use Rattle.std.proofs.lemmas.List.{map-append, length-map, take_all}
use Rattle.warg_log.specs.Claims.{RootAndLength}
use Rattle.warg_tiles.specs.CheckpointText.{Said}
use Rattle.warg_registry.specs.Folder.{registry_of}
use Rattle.warg_registry.specs.Insertions.{entry_of, entries_of}
use Rattle.warg_registry.proofs.FolderMoments.{reads_none, reads_then}
use Rattle.warg_registry.proofs.Refused.{told_as}
use Rattle.warg_registry.proofs.RegistryAudits.{log_read, visited_read}
use Rattle.warg_registry.proofs.Replaying.{none_replayed, replayed_at, replayed_length}
use Rattle.warg_registry.proofs.reader.RegistryReader.replay.Goals as goal

pub bundles-init : goal.bundles-init
bundles-init g c =
    record {
      few = omega arith;
      same = (refl, refl);
      read = λ faithful. reads_none g.F.Folder c.args.self.now.log.folder;
      faults = omega arith;
      replayed = ([], none_replayed c.default.ensures.stands, λ faithful log reads. refl);
    }

pub bundles-preserved : goal.bundles-preserved
bundles-preserved g c =
    let dev = g.F.Folder in
    let first = c.args.self.now in
    let mid = c.bundles.self in
    let was = c.bundles.invariant in
    let done = c.in_ok-replay_bundle.ensures in
    let files : dev.IsFaithful → dev.seen mid.log.folder ≡ dev.seen first.log.folder = λ faithful.
    (was.read faithful).found in
    let length = ap (λ (t : Said). t.length) was.same.1 in
    let all = was.replayed.0 in
    let more = done.replayed all (replayed_at (λ faithful. sym (files faithful)) (sym length) was.replayed.1) in
    record {
      few = done.few;
      same = (done.same.0 ∙ was.same.0, done.same.1 ∙ was.same.1);
      read = λ faithful. reads_then dev g.met.F.Folder.counts_now (was.read faithful) (done.read faithful);
      faults = omega (arith, was.faults, done.cause.later);
      replayed = (
        all ++ more.0,
        replayed_at files length more.1,
        λ faithful log reads.
            let next : 256 * (c.bundles.bundle + 1) ≡ 256 * c.bundles.bundle + 256 = omega arith in
            let both = more.2 faithful log (log_read dev.seen log first.log mid.log was.same.1 (files faithful)
            reads) in
            map-append entry_of all more.0 ∙ (λ i. was.replayed.2 faithful log reads i ++ both i)
            ∙ sym (take-add (256 * c.bundles.bundle) 256 log.entries) ∙ ap (λ n. take n log.entries) (sym next),
      );
    }

pub returns-in_err-replay_bundle-clause-whole : goal.returns-in_err-replay_bundle-clause-whole
returns-in_err-replay_bundle-clause-whole g c = λ faithful insertions all has.
    let dev = g.F.Folder in
    let first = c.args.self.now in
    let was = c.bundles.invariant in
    let log = registry_of has.origin insertions in
    let size : first.log.text.length ≡ length insertions = rw has.reads.reads.text (length-map insertions entry_of) in
    let long : c.length-2.result ≡ first.log.text.length =
    c.length-2.ensures ∙ ap (λ (k : RootAndLength). k.length) c.checkpoint.ensures in
    let inside : 256 * c.bundles.bundle < length insertions =
    omega (arith, size, long, c.div_ceil-bundle-end.ensures, c.bundles-test.true) in
    let all_entries : length (entries_of insertions) ≡ length insertions = length-map insertions entry_of in
    let starts = replayed_length (entries_of insertions) (256 * c.bundles.bundle) was.replayed.1
    (was.replayed.2 faithful log has.reads.reads) (omega (arith, all_entries, inside)) in
    let visited = visited_read dev was.same (was.read faithful) insertions all has in
    told_as _ _ _ c.from_residual.ensures.1
    (c.in_err-replay_bundle.ensures.whole faithful insertions all visited inside starts)

pub returns-clause-replayed : goal.returns-clause-replayed
returns-clause-replayed g c =
    let was = c.bundles.invariant.replayed in (
      was.0,
      was.1,
      λ faithful log reads.
          (let size : c.args.self.now.log.text.length ≡ length log.entries = ap (λ (t : Said). t.length) reads.text in
          let long : c.length-2.result ≡ c.args.self.now.log.text.length =
          c.length-2.ensures ∙ ap (λ (k : RootAndLength). k.length) c.checkpoint.ensures in
          was.2 faithful log reads ∙ take_all (256 * c.bundles.bundle) log.entries
          (omega (arith, size, long, c.div_ceil-bundle-end.ensures, c.bundles-test.false))),
    )
