use Rattle.std.proofs.Common.{◌≡◌, [], ◌+◌, ◌-◌, ◌<◌, Some, sym, ◌∙◌, arith, rules}
use Rattle.std.proofs.lemmas.Result.{on_ok_weaker}
use Rattle.std.specs.FinMap.{get, insert, empty}
use Rattle.warg_map.specs.Bits.{last_bits, bits_from}
use Rattle.warg_map.specs.Private.Lone.{held_alone}
use Rattle.warg_map.proofs.FoundInNode.{IsApart, lone_run, found_lone, run_apart, found_apart}
use Rattle.warg_map.proofs.CollectedPeers.{collects_at_lone, collects_beside, lone_far}
use Rattle.warg_map.proofs.walk.collect_lone.Goals as goal
use Rattle.warg_map.proofs.walk.collect_lone.Goals.{After-is_of_absence, After-is_of_leaf}

-- the bits part from those of the lone key
apart : (g : _) (c : After-is_of_absence g) → IsApart (held_alone c.args.lone.now) c.args.lone.now.height
    c.key.result.now c.args.key.now c.args.depth c.height.result 0 c.shared_bits-shared.result (insert empty []
    c.args.lone.now.value)
apart g c =
    let less : c.shared_bits-shared.result < c.height.result = omega arith in
    run_apart (lone_run c.args.lone.now c.key.ensures c.height.ensures.value c.requires.height) less
    c.shared_bits-shared.ensures.same (c.shared_bits-shared.ensures.apart less)

-- the bits are those of the lone key
own : (g : _) (c : After-is_of_leaf g) → (last_bits c.args.key.now (256 - c.args.depth) ≡ bits_from c.key.result.now
    c.args.depth c.height.result) × (Some c.value.result.now ≡ get (held_alone c.args.lone.now)
    (last_bits c.args.key.now (256 - c.args.depth)))
own g c = rw c.value.ensures (found_lone c.args.key.now _ _
    (lone_run c.args.lone.now c.key.ensures c.height.ensures.value c.requires.height)
    c.shared_bits-shared.ensures.at_most (omega arith) c.shared_bits-shared.ensures.same)

pub returns-then-not-is_of_absence-clause-answer : goal.returns-then-not-is_of_absence-clause-answer
returns-then-not-is_of_absence-clause-answer g c =
    rw (found_apart (apart g (goal.at.returns-then-not-is_of_absence-clause-answer g c).After-is_of_absence))
    (search rules)

pub returns-then-shared-height-clause-answer : goal.returns-then-shared-height-clause-answer
returns-then-shared-height-clause-answer g c =
    rw (found_apart (apart g (goal.at.returns-then-shared-height-clause-answer g c).After-is_of_absence)) (search rules)

pub returns-then-shared-height-clause-peers : goal.returns-then-shared-height-clause-peers
returns-then-shared-height-clause-peers g c =
    let parts = apart g (goal.at.returns-then-shared-height-clause-peers g c).After-is_of_absence in
    let low : c.height-then-shared-height.result - c.shared_bits-shared.result - 1
    ≡ c.height.result - (c.shared_bits-shared.result + 1) = omega arith in
    let hash = rw (
      c.with_height-far.ensures.height,
      c.with_height-far.ensures.key ∙ sym c.key.ensures,
      c.with_height-far.ensures.value,
    ) at c.hash.ensures in
    let far = lone_far g.D.SupportedDigest.digest c.key.result.now c.args.lone.now.value c.args.depth _ _
    (omega (arith, parts.run.whole)) parts.less low hash in
    on_ok_weaker _ (λ added. collects_beside parts far (rw c.requires.none at added)) c.push_beside.ensures

pub returns-then-not-is_of_leaf-clause-answer : goal.returns-then-not-is_of_leaf-clause-answer
returns-then-not-is_of_leaf-clause-answer g c =
    rw (← (own g (goal.at.returns-then-not-is_of_leaf-clause-answer g c).After-is_of_leaf).1) (search rules)

pub returns-clause-answer : goal.returns-clause-answer
returns-clause-answer g c = rw (← (own g (goal.at.returns-clause-answer g c).After-is_of_leaf).1) (search rules)

pub returns-clause-peers : goal.returns-clause-peers
returns-clause-peers g c =
    on_ok_weaker _ (λ _. collects_at_lone c.args.key.now _
    (lone_run c.args.lone.now c.key.ensures c.height.ensures.value c.requires.height)
    c.requires.low
    (own g (goal.at.returns-clause-peers g c).After-is_of_leaf).0 (c.reserve_exact.ensures.items ∙ c.requires.none))
    c.reserve_exact.ensures.ok
