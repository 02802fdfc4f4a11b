use Rattle.std.proofs.Common.{ℕ, List, sym, ap, subst, ◌∙◌}
use Rattle.warg_crypto.specs.Digests.{sha256}
use Rattle.warg_folder.specs.Files.{Files}
use Rattle.warg_pages.specs.Audits.{AreInPages}
use Rattle.warg_store.specs.Reading.{checkpoint_said}
use Rattle.warg_tiles.specs.CheckpointText.{Said}
use Rattle.warg_registry.specs.Auditing.{AreAllInFiles}
use Rattle.warg_registry.specs.Folder.{registry_of}
use Rattle.warg_registry.proofs.Entries.{one_list}
use Rattle.warg_registry.proofs.FolderMoments.{reads_then}
use Rattle.warg_registry.proofs.Refused.{told_as}
use Rattle.warg_registry.proofs.RegistryAudits.{registry_read, visited_read, counted_last, short_insertions}
use Rattle.warg_registry.proofs.Replaying.{same_checkpoints, other_checkpoints, of_entries, of_insertions, own_checkpoint}
use Rattle.warg_registry.proofs.reader.RegistryReader.audited_map.Goals as goal

pub returns-clause-entries : goal.returns-clause-entries
returns-clause-entries g c =
    of_entries c.checkpoint.result c.checkpoint-checkpoint.result c.in_ok-replay.ensures.replayed.1
    c.checkpoint.ensures.root c.checkpoint.ensures.length (same_checkpoints _ _ c.if-ne.ensures)

pub returns-clause-insertions : goal.returns-clause-insertions
returns-clause-insertions g c = λ faithful.
    let first = c.args.self.now in
    let read = c.count_keys.new.self in
    let was = c.in_ok-keys.ensures in
    let keys = was.keys faithful in
    let files = (was.read faithful).found in
    let length = ap (λ (t : Said). t.length) was.same.1 in
    let replayed = c.in_ok-replay.ensures.replayed in
    let all = subst (λ (was : Files × ℕ). AreAllInFiles was.0 first.root was.1 keys.0)
    (λ i. (sym files i, sym length i)) keys.1 in (
      replayed.0,
      of_insertions c.checkpoint.result c.checkpoint-checkpoint.result replayed.1 c.checkpoint.ensures.root
          c.checkpoint.ensures.length (same_checkpoints _ _ c.if-ne.ensures) keys.0 faithful all keys.2
          c.if-replay-keys.false,
    )

pub returns-in_err-keys-clause-whole : goal.returns-in_err-keys-clause-whole
returns-in_err-keys-clause-whole g c = λ faithful origin insertions has.
    told_as _ _ _ c.from_residual.ensures.1
    (c.in_err-keys.ensures.whole faithful origin insertions has)

pub returns-clause-reads : goal.returns-clause-reads
returns-clause-reads g c = λ faithful origin insertions has.
    let keys = c.in_ok-keys.ensures in
    let replay = c.in_ok-replay.ensures in
    registry_read g.F.Folder replay.same (replay.read faithful) origin insertions
    (registry_read g.F.Folder keys.same (keys.read faithful) origin insertions has)

pub returns-clause-read : goal.returns-clause-read
returns-clause-read g c = λ faithful.
    reads_then g.F.Folder g.met.F.Folder.counts_now (c.in_ok-keys.ensures.read faithful)
    (c.in_ok-replay.ensures.read faithful)

pub returns-in_err-replay-clause-whole : goal.returns-in_err-replay-clause-whole
returns-in_err-replay-clause-whole g c = λ faithful origin insertions has.
    let was = c.in_ok-keys.ensures in
    let keys = was.keys faithful in
    let visited = visited_read g.F.Folder was.same (was.read faithful) insertions keys.0
    (record { origin = origin; reads = has; are_all = keys.1 }) in
    told_as _ _ _ c.from_residual-in_err-replay.ensures.1
    (c.in_err-replay.ensures.whole faithful insertions keys.0 visited)

pub returns-then-ne-clause-whole : goal.returns-then-ne-clause-whole
returns-then-ne-clause-whole g c = λ faithful origin insertions has.
    let dev = g.F.Folder in
    let was = c.in_ok-keys.ensures in
    let done = c.in_ok-replay.ensures in
    let has_mid = registry_read dev was.same (was.read faithful) origin insertions has in
    let same = own_checkpoint c.checkpoint.result c.checkpoint-checkpoint.result done.replayed.1
    c.checkpoint.ensures.root c.checkpoint.ensures.length origin insertions
    (done.replayed.2 faithful (registry_of origin insertions) has_mid.reads)
    (c.checkpoint-checkpoint.ensures ∙ ap checkpoint_said (done.same.1 ∙ has_mid.reads.text)) in
    absurd (other_checkpoints _ _ c.if-ne.ensures same.0 same.1)

pub returns-then-replay-keys-clause-whole : goal.returns-then-replay-keys-clause-whole
returns-then-replay-keys-clause-whole g c = λ faithful origin insertions has.
    let dev = g.F.Folder in
    let mid = c.count_keys.new.self in
    let was = c.in_ok-keys.ensures in
    let keys = was.keys faithful in
    let replayed = c.in_ok-replay.ensures.replayed in
    let visited = visited_read dev was.same (was.read faithful) insertions keys.0
    (record { origin = origin; reads = has; are_all = keys.1 }) in
    let in_pages = replayed.1.in_pages faithful mid.root keys.0 visited.are_all in
    let has_mid = registry_read dev was.same (was.read faithful) origin insertions has in
    let same = one_list insertions replayed.0 (short_insertions insertions has_mid.reads.can.short)
    (sym (replayed.2 faithful (registry_of origin insertions) has_mid.reads)) in
    let P : List (List ℕ × List ℕ) → Type 0 = λ es. AreInPages sha256 keys.0 0 es in_pages.0 in
    let counted = counted_last dev.seen insertions keys.0 mid visited in_pages.0 (subst P (sym same) in_pages.1) in
    absurd (c.if-replay-keys.true (in_pages.2 ∙ counted ∙ sym keys.2))
