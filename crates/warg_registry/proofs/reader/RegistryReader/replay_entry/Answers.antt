use Rattle.std.proofs.Common.{◌≡◌, ◌+◌, ◌++◌, [], ◌∷◌, ℕ, List, Some, cond, sym, ap, ◌∙◌, arith}
use Rattle.warg_crypto.specs.Digests.{sha256}
use Rattle.warg_crypto.specs.Tree.{leaf_digest}
use Rattle.warg_log.specs.Blocks.{StandsFor}
use Rattle.warg_registry.specs.Insertions.{entry_of}
use Rattle.std.specs.Prelude.{slice_get}
use Rattle.warg_registry.proofs.Entries.{one_insertion}
use Rattle.warg_registry.proofs.Refused.{told_as}
use Rattle.warg_registry.proofs.Replaying.{one_replayed, IsLastBy}
use Rattle.warg_registry.proofs.reader.RegistryReader.replay_entry.Goals.{then-is_last, else-is_last}
use Rattle.warg_registry.proofs.reader.RegistryReader.replay_entry.Goals as goal

pub returns-clause-replayed : goal.returns-clause-replayed
returns-clause-replayed g c before was =
    let dev = g.F.Folder in
    let log = c.args.replay.now.log in
    let new = c.push.new.self in
    let files = dev.seen c.args.self.now.log.folder in
    let version = c.args.self.now.log.text.length in
    let e : List ℕ × List ℕ = (c.in-Ok.insertion.key.now, c.in-Ok.insertion.value.now) in
    let entry : c.args.entry.now.items ≡ entry_of e = sym c.as_slice.ensures.value ∙ c.in-Ok.ensures.ok.1 in
    let stands : (ds : List (List ℕ)) → StandsFor sha256 log ds
    → StandsFor sha256 new (ds ++ leaf_digest sha256 (entry_of e) ∷ []) = λ ds old.
    rw entry at (c.in_ok-push.ensures.stands ds old) in
    let by : IsLastBy dev.IsFaithful files version log.len e c.in_ok-is_last.is_last =
    rw c.length-index.ensures.value at c.in_ok-is_last.ensures.in_pages in
    let last = c.args.replay.now.last in (
      e,
      entry,
      elim c.if-is_last.branch [
        | then-is_last w ↦ rw w.replay-is (one_replayed c.in_ok-is_last.is_last stands by
            (ap (λ b. last + cond b 1 0) (sym w.if-is_last.true)) was)
        | else-is_last w ↦ rw w.replay-is (one_replayed c.in_ok-is_last.is_last stands by
            (omega (arith, ap (λ b. last + cond b 1 0) (sym w.if-is_last.false))) was)
      ],
    )

pub returns-in_err-is_last-clause-whole : goal.returns-in_err-is_last-clause-whole
returns-in_err-is_last-clause-whole g c = λ faithful insertions all has e at is.
    let read : List ℕ × List ℕ = (c.in-Ok.insertion.key.now, c.in-Ok.insertion.value.now) in
    let entry : c.args.entry.now.items ≡ entry_of read = sym c.as_slice.ensures.value ∙ c.in-Ok.ensures.ok.1 in
    let one : read ≡ e = one_insertion read e c.in-Ok.ensures.ok.0 (sym entry ∙ is) in
    let here : slice_get insertions c.length-index.result ≡ Some read =
    rw c.length-index.ensures.value (at ∙ ap (λ x. Some x) (sym one)) in
    told_as _ _ _ c.from_residual.ensures.1
    (c.in_err-is_last.ensures.whole faithful insertions all has here)
