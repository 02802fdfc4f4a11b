use Rattle.std.proofs.Common.{length, ap, ◌∙◌, arith}
use Rattle.std.proofs.lemmas.List.{length_push, length-map}
use Rattle.warg_log.proofs.StackLemmas.{grows_over, popped, join_step, join_done}
use Rattle.warg_log.proofs.stack_log.join_blocks.Goals as goal

pub unreachable-requires : goal.unreachable-requires
unreachable-requires g c =
    let from = c.up.invariant.joined _
    (grows_over g.D.SupportedDigest.digest (record { len = c.args.count; digests = c.args.blocks.now.items })
    c.args.digest c.requires.count) in
    omega (
      arith,
      ap length (popped c.args.count _ c.up.rest c.up.blocks.items c.up.digest c.up-test.true from),
      length_push,
      c.in-None.ensures.cases.0,
      c.up.blocks.ok.0,
    )

pub up-preserved : goal.up-preserved
up-preserved g c = record {
  room = omega (arith, c.up.invariant.room, c.in-Some.ensures.cases, c.in-Some.ensures.capacity);
  joined = λ G grows. rw c.hash_branch-digest.ensures
      (join_step g.D.SupportedDigest.digest c.args.count c.args.digest c.args.blocks.now.items G c.up.rest
      c.up.blocks.items c.pop.new.self.items c.up.digest c.in-Some.left
      c.up-test.true c.in-Some.ensures.items grows (c.up.invariant.joined G grows));
}

pub returns-clause-blocks : goal.returns-clause-blocks
returns-clause-blocks g c = λ G grows. c.push_reserved.ensures.items
    ∙ join_done c.args.count G c.up.rest c.up.blocks.items c.up.digest c.up-test.false (c.up.invariant.joined G grows)

pub returns-clause-count : goal.returns-clause-count
returns-clause-count g c =
    ap length (returns-clause-blocks g c _
    (grows_over g.D.SupportedDigest.digest (record { len = c.args.count; digests = c.args.blocks.now.items })
    c.args.digest c.requires.count)) ∙ length-map _ _
