use Rattle.std.proofs.Common.{◌≡◌, Vec, ◌++◌, ◌∷◌, [], ap, ◌∙◌, arith, string_bytes}
use Rattle.std.specs.declared.string.String.{String}
use Rattle.std.specs.declared.alloc.Global.{Global}
use Rattle.warg_folder.specs.declared.memory.Call.TheVariants.{Synced}
use Rattle.warg_folder.proofs.ListedLemmas.{there_more, all_more, all_same, all_put, apart_more}
use Rattle.warg_folder.proofs.memory.MemoryFolderFolder.list.Goals as goal
use Rattle.warg_folder.proofs.memory.MemoryFolderFolder.list.Goals.{in-Some+in_ok-copied-in-Some+in_ok-push-in-Some, in-None}

pub each-preserved : goal.each-preserved
each-preserved c =
    let calls = c.as_slice-calls.result.now in
    let prefix = c.args.prefix.now in
    elim c.match-listed.branch [
      | in-Some+in_ok-copied-in-Some+in_ok-push-in-Some w ↦
          let one = w.in_ok-copied-in-Some.field-0 in
          let named : string_bytes one ≡ w.in-Some.name.now = w.in_ok-copied-in-Some.ensures in
          let more : c.match-listed.names.items ≡ c.each.names.items ++ one ∷ [] =
          ap (λ (v : Vec (String Global) Global). v.items) w.names-is ∙ w.in_ok-push-in-Some.ensures.items in
          let some = w.in-Some.ensures.some in
          record {
            there = there_more calls prefix c.each.names.items c.match-listed.names.items one more
                c.each.invariant.there (rw named some.1) (rw named some.2);
            once = apart_more c.each.names.items c.match-listed.names.items one more c.each.invariant.once
                (rw (named, ← c.as_slice.ensures.value) w.in-Some.ensures.other);
            all = all_more calls prefix c.each.call-index c.call-item.result c.each.names.items
                c.match-listed.names.items one (omega arith) c.call-item.is more c.each.invariant.all
                (rw named some.0);
          }
      | in-None w ↦
          let same : c.match-listed.names.items ≡ c.each.names.items =
          ap (λ (v : Vec (String Global) Global). v.items) w.names-is in
          record {
            there = rw same c.each.invariant.there;
            once = rw same c.each.invariant.once;
            all = rw same (all_same calls prefix c.each.call-index c.call-item.result c.each.names.items
                (omega arith) c.call-item.is c.each.invariant.all
                (rw (← c.as_slice.ensures.value) w.in-None.ensures.none));
          }
    ]

pub returns-clause-all : goal.returns-clause-all
returns-clause-all c = λ faithful n some begins.
    let calls = c.as_slice-calls.result.now in
    all_put calls c.args.prefix.now c.each.names.items Synced
    (λ k d m lt by is front. c.each.invariant.all k d m (omega arith) by is front) n
    (rw c.as_slice-calls.ensures.value some) begins
