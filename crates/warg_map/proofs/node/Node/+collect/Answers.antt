use Rattle.std.proofs.Common.{◌≡◌, ◌+◌, ◌-◌, cond, ap, sym, ◌∙◌, arith, rules}
use Rattle.std.proofs.lemmas.Result.{on_ok_weaker}
use Rattle.std.specs.FinMap.{get, get-empty}
use Rattle.warg_map.specs.Bits.{last_bits}
use Rattle.warg_map.specs.Private.Seen.{held_by}
use Rattle.warg_map.specs.Private.Walk.{is_of_absence}
use Rattle.warg_map.specs.declared.node.Node.TheVariants.{Fork, Stem}
use Rattle.warg_map.proofs.TreeForm.{of_content}
use Rattle.warg_map.proofs.FoundInNode.{finds_in_fork, run_of_stem, found_below, run_apart, found_apart}
use Rattle.warg_map.proofs.CollectedPeers.{collects_fork, collects_none, collects_run, collects_apart}
use Rattle.warg_map.proofs.node.Node.+collect.Goals as goal
use Rattle.warg_map.proofs.node.Node.+collect.Goals.{After-node, After-node-in-Stem}

-- the child holds what the fork does
child : (g : _) (t : _) (c : After-node g t) → get (held_by c.args.self.now)
    (last_bits c.args.key.now (256 - c.args.depth)) ≡ get (held_by c.node.result.now)
    (last_bits c.args.key.now (256 - (c.args.depth + 1)))
child g t c =
    let is = of_content Fork c.in-Fork.is c.as_ref-fork.ensures in
    sym (finds_in_fork c.node.result.now c.args.key.now c.args.depth is
    (omega (arith, rw is at c.requires.height)) c.side_at-side.ensures (c.node.ensures.seen ∙ c.index.ensures))

-- the bits are those of the stem, and what stands below it holds what it does
below : (g : _) (t : _) (c : After-node-in-Stem g t) → get (held_by c.args.self.now)
    (last_bits c.args.key.now (256 - c.args.depth)) ≡ get (held_by c.node-in-Stem.result.now)
    (last_bits c.args.key.now (256 - (c.args.depth + c.as_ref-stem.result.now.len)))
below g t c =
    let run = run_of_stem c.args.depth (of_content Stem c.in-Stem.is c.as_ref-stem.ensures)
    c.requires.well_formed c.requires.height in
    let found = found_below c.args.key.now _ run.1 c.shared_bits-shared.ensures.at_most
    c.if-shared-stem.false c.shared_bits-shared.ensures.same in
    sym (ap (λ d. get d.1 (last_bits c.args.key.now (256 - (c.args.depth + c.as_ref-stem.result.now.len))))
    c.node-in-Stem.ensures.seen ∙ found.1)

pub returns-in-Empty-clause-answer : goal.returns-in-Empty-clause-answer
returns-in-Empty-clause-answer g t c = rw (c.in-Empty.is, get-empty) (search rules)

pub returns-in-Empty-clause-peers : goal.returns-in-Empty-clause-peers
returns-in-Empty-clause-peers g t c = rw (c.in-Empty.is, c.then_some-to.ensures)
    (collects_none _ _ _ _ c.requires.none)

pub returns-in_err-collect-in-Fork-clause-answer : goal.returns-in_err-collect-in-Fork-clause-answer
returns-in_err-collect-in-Fork-clause-answer g t c =
    rw (child g t (goal.at.returns-in_err-collect-in-Fork-clause-answer g t c).After-node) c.collect.ensures.answer

pub returns-then-shared-stem-clause-answer : goal.returns-then-shared-stem-clause-answer
returns-then-shared-stem-clause-answer g t c =
    let run = run_of_stem c.args.depth (of_content Stem c.in-Stem.is c.as_ref-stem.ensures) c.requires.well_formed
    c.requires.height in
    let less = c.if-shared-stem.true in
    let shared = c.shared_bits-shared.ensures in
    rw (found_apart (run_apart run.1 less shared.same (shared.apart less))) c.collect_beside.ensures.answer

pub returns-then-shared-stem-clause-peers : goal.returns-then-shared-stem-clause-peers
returns-then-shared-stem-clause-peers g t c =
    let run = run_of_stem c.args.depth (of_content Stem c.in-Stem.is c.as_ref-stem.ensures) c.requires.well_formed
    c.requires.height in
    let less = c.if-shared-stem.true in
    let shared = c.shared_bits-shared.ensures in
    on_ok_weaker c.collect_beside.result (λ added. collects_apart g.D.SupportedDigest.digest
    (is_of_absence c.args.to.now.asked) _
    (run_apart run.1 less shared.same (shared.apart less)) c.collect_beside.ensures.answer (rw run.0 at added))
    c.collect_beside.ensures.peers

pub returns-in_err-collect-in-Stem-clause-answer : goal.returns-in_err-collect-in-Stem-clause-answer
returns-in_err-collect-in-Stem-clause-answer g t c =
    rw (below g t (goal.at.returns-in_err-collect-in-Stem-clause-answer g t c).After-node-in-Stem)
    c.collect-in-Stem.ensures.answer

pub returns-in_ok-collect-in-Fork-clause-answer : goal.returns-in_ok-collect-in-Fork-clause-answer
returns-in_ok-collect-in-Fork-clause-answer g t c =
    rw (c.push_half.ensures.held, child g t (goal.at.returns-in_ok-collect-in-Fork-clause-answer g t c).After-node)
    c.collect.ensures.answer

pub returns-in_ok-collect-in-Fork-clause-peers : goal.returns-in_ok-collect-in-Fork-clause-peers
returns-in_ok-collect-in-Fork-clause-peers g t c = rw c.push_half.ensures.held (on_ok_weaker c.push_half.result
    (λ added. collects_fork g.D.SupportedDigest.digest _ c.node.result.now c.args.key.now c.args.depth _ _
    (of_content Fork c.in-Fork.is c.as_ref-fork.ensures) c.requires.well_formed c.requires.height
    c.side_at-side.ensures (c.node.ensures.seen ∙ c.index.ensures)
    (c.index-in-Fork.ensures ∙ ap (λ b. cond b c.as_ref-fork.result.now.right c.as_ref-fork.result.now.left)
    c.opposite.ensures) c.hash.ensures c.in_ok-collect-in-Fork.ensures.peers added) c.push_half.ensures.peers)

pub returns-in_ok-collect-in-Stem-clause-answer : goal.returns-in_ok-collect-in-Stem-clause-answer
returns-in_ok-collect-in-Stem-clause-answer g t c = rw (
  c.push_empty.ensures.held,
  below g t (goal.at.returns-in_ok-collect-in-Stem-clause-answer g t c).After-node-in-Stem,
) c.collect-in-Stem.ensures.answer

pub returns-in_ok-collect-in-Stem-clause-peers : goal.returns-in_ok-collect-in-Stem-clause-peers
returns-in_ok-collect-in-Stem-clause-peers g t c =
    let is = of_content Stem c.in-Stem.is c.as_ref-stem.ensures in
    let run = run_of_stem c.args.depth is c.requires.well_formed c.requires.height in
    let same = (found_below c.args.key.now _ run.1 c.shared_bits-shared.ensures.at_most c.if-shared-stem.false
    c.shared_bits-shared.ensures.same).0 in
    rw c.push_empty.ensures.held (on_ok_weaker c.push_empty.result (λ added. collects_run g.D.SupportedDigest.digest
    c.args.to.now.asked _ c.args.key.now _ _ run.1 (rw is at c.requires.well_formed).formed.1
    c.node-in-Stem.ensures.seen same c.collect-in-Stem.ensures.answer c.in_ok-collect-in-Stem.ensures.peers added)
    c.push_empty.ensures.peers)
