use Rattle.std.proofs.Common.{◌∙◌, refl, ap}
use Rattle.warg_protobuf.specs.HashEntry.{entry_view}
use Rattle.warg_bundle.specs.LogBundles.{pair_of}
use Rattle.warg_protobuf.proofs.ForCallers.{mapped_twice_more}
use Rattle.warg_bundle.proofs.BundleLemmas.{pairs_push, entry_passed}
use Rattle.warg_bundle.proofs.log.proof_bundle.read_hashes.Goals as goal

pub entries-preserved : goal.entries-preserved
entries-preserved g c =
    let pushed = pairs_push c.entries.least c.entries.hashes.items c.push.new.self.items _ c.in_ok-push.ensures.items
    c.if-index-least.false c.entries.invariant.ascending c.entries.invariant.below in
    record {
      read = mapped_twice_more entry_view pair_of c.args.entries.now c.entries.entry-index c.entry-item.result
          c.entries.hashes.items c.push.new.self.items _ c.entries-test.true c.entry-item.is c.entries.invariant.read
          c.in_ok-push.ensures.items
          (ap (λ h. (record { 0 = c.entry-item.result.index }, h))
          (c.in_ok-hash.ensures.ok ∙ c.as_slice.ensures.value));
      fault = entry_passed entry_view c.args.entries.now c.entries.entry-index c.entry-item.result c.entries.least _
          c.as_slice.result.now c.entries-test.true c.entry-item.is c.as_slice.ensures.value
          (c.in_ok-hash.ensures.exactly.0 refl) c.if-index-least.false c.entries.invariant.fault;
      ascending = pushed.0;
      below = pushed.1;
    }
