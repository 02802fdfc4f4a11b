use Rattle.std.proofs.Common.{◌≤◌, refl}
use Rattle.warg_protobuf.proofs.ForCallers.{all_weaken}
use Rattle.warg_log.specs.Nodes.{ExistsAt}
use Rattle.warg_bundle.proofs.NeededLemmas.{length_good, consistencies_good, inclusions_good, ascending_pairs, keys_are, digests_are}
use Rattle.warg_bundle.proofs.log.needed.needed_digests.Goals as goal

pub collect-requires-clause-consistencies : goal.collect-requires-clause-consistencies
collect-requires-clause-consistencies g c =
    all_weaken _ (λ p. p.old_length ≤ p.new_length) (λ p q. q.0) c.args.consistencies.now
    (consistencies_good c.requires.0 c.args.consistencies.now
    (length_good c.args.consistencies.now c.args.inclusions.now c.requires.0 c.requires.1).0)

pub collect-requires-clause-inclusions : goal.collect-requires-clause-inclusions
collect-requires-clause-inclusions g c =
    all_weaken _ (λ p. ExistsAt p.leaf.0 p.log_length) (λ p q. q.0) c.args.inclusions.now
    (inclusions_good c.requires.0 c.args.inclusions.now
    (length_good c.args.consistencies.now c.args.inclusions.now c.requires.0 c.requires.1).1)

pub digests_of-requires : goal.digests_of-requires
digests_of-requires g c =
    let all = c.in_ok-collect.ensures in
    rw c.as_slice.ensures.keys (ascending_pairs (g.L.LogData.digest_at c.args.hashes.now) _ all.sorted all.once)

pub returns : goal.returns
returns g c n is =
    let F = g.L.LogData.digest_at c.args.hashes.now in
    let all = c.in_ok-collect.ensures in
    let keys = keys_are c.args.consistencies.now c.args.inclusions.now n _ is all.sorted all.once all.needed in
    rw (digests_are F c.args.consistencies.now c.args.inclusions.now n _ _ keys refl, ← c.as_slice.ensures.keys)
    c.digests_of.ensures
