use Rattle.std.proofs.Common.{◌≡◌, ℕ, ◌<◌, ◌≤◌, ◌^◌, List, length, Some, sym, ap, subst, ◌∙◌, arith}
use Rattle.std.specs.Prelude.{slice_get}
use Rattle.std.specs.declared.alloc.Global.{Global}
use Rattle.std.specs.declared.vec.Vec.{Vec}
use Rattle.warg_crypto.specs.Digests.{sha256}
use Rattle.warg_store.specs.Reading.{IsShown, checkpoint_said}
use Rattle.warg_registry.specs.Insertions.{entries_of}
use Rattle.warg_registry.specs.Reading.{IsOfEntry, IsLogged}
use Rattle.warg_registry.proofs.FoundKeys as found
use Rattle.warg_registry.proofs.HeldEntries.{entry_of_key, held_within}
use Rattle.warg_registry.proofs.Refused.{ok_then, not_beyond, told_as}
use Rattle.warg_registry.proofs.reader.RegistryReader.value.Goals as goal

-- the entry that was read, as it is passed on
passed : (insertions : List (List ℕ × List ℕ)) (index : ℕ) (entry : Vec ℕ Global) {slice : List ℕ} → slice ≡ entry.items
    → slice_get (entries_of insertions) index ≡ Some entry.items
    → (length slice < 2 ^ 64) × (slice_get (entries_of insertions) index ≡ Some slice)
passed insertions index entry same there = (
  omega (arith, ap (λ (e : List ℕ). length e) same, entry.small),
  there ∙ ap (λ (e : List ℕ). Some e) (sym same),
)

pub returns-clause-shown : goal.returns-clause-shown
returns-clause-shown g c =
    let key = c.args.key.now in
    let entry = c.as_slice.result.now in
    let peers = c.args.peers.items in
    let root = c.args.self.now.root in
    ok_then (IsOfEntry key c.args.index c.args.leaf.now entry peers) _ c.held.result
    (λ at is leads. found.shown key c.args.leaf.now entry c.args.index peers root at leads is) c.held.ensures.of_entry

pub returns-clause-own : goal.returns-clause-own
returns-clause-own g c = λ faithful.
    let key = c.args.key.now in
    let entry = c.as_slice.result.now in
    let peers = c.args.peers.items in
    ok_then (IsOfEntry key c.args.index c.args.leaf.now entry peers) _ c.held.result
    (λ at is origin insertions has held.
    let read = passed insertions c.args.index c.in_ok-entry.entry c.as_slice.ensures.value
    (c.in_ok-entry.ensures.own faithful origin insertions has) in
    found.own key c.args.leaf.now entry c.args.index peers insertions at read.0 read.1 held is) c.held.ensures.of_entry

pub returns-clause-whole : goal.returns-clause-whole
returns-clause-whole g c = λ faithful origin insertions has own held.
    let key = c.args.key.now in
    let entry = c.as_slice.result.now in
    let read = passed insertions c.args.index c.in_ok-entry.entry c.as_slice.ensures.value
    (c.in_ok-entry.ensures.own faithful origin insertions has) in
    let is = entry_of_key sha256 insertions key c.args.leaf.now c.args.index held.place held.held entry
    read.0 read.1 own in
    c.held.ensures.whole is.0 is.1 is.2 is.3

pub returns-in_err-entry-clause-whole : goal.returns-in_err-entry-clause-whole
returns-in_err-entry-clause-whole g c = λ faithful origin insertions has own held.
    let within = held_within sha256 insertions c.args.key.now c.args.leaf.now c.args.index held.place held.held in
    told_as _ _ _ c.from_residual.ensures.1
    (not_beyond (length (entries_of insertions) ≤ c.args.index) c.in_err-entry.field-0.0 (λ past. omega arith)
    (c.in_err-entry.ensures.whole faithful origin insertions has))

pub returns-clause-logged : goal.returns-clause-logged
returns-clause-logged g c = λ from.
    let key = c.args.key.now in
    let entry = c.as_slice.result.now in
    let peers = c.args.peers.items in
    let checkpoint = checkpoint_said c.args.self.now.log.text in
    let included = subst (IsShown checkpoint c.args.index) (sym c.as_slice.ensures.value)
    (c.in_ok-entry.ensures.shown from) in
    ok_then (IsOfEntry key c.args.index c.args.leaf.now entry peers) (IsLogged checkpoint key) c.held.result
    (λ at is. found.logged key c.args.leaf.now entry c.args.index peers checkpoint at included is)
    c.held.ensures.of_entry
