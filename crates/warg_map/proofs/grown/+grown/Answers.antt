use Rattle.std.proofs.Common.{◌+◌, ◌<◌, length, arith, rules, ◌∙◌, inr}
use Rattle.std.specs.FinMap.{empty}
use Rattle.std.proofs.lemmas.Result.{IfOk-weaker}
use Rattle.warg_map.specs.Private.Under.{join_at}
use Rattle.warg_crypto.specs.Sides.{side_bit}
use Rattle.warg_map.proofs.ManyLeaves.{near_some, empty_parted}
use Rattle.warg_map.proofs.LeavesBelowNodes.{IsPutBeside, put_parted, put_below_bits}
use Rattle.warg_map.proofs.grown.+grown.Goals as goal
use Rattle.warg_map.proofs.grown.+grown.Goals.{In-Behind, In_ok-far-in-Behind}

-- a leaf goes to each side
near : (g : _) (t : _) (c : In-Behind g t) → 0 < length c.in-Behind.near.items
near g t c =
    let a = rw c.in-Behind.is at c.in_ok-leaves.ensures in
    near_some c.args.leaves.items
    (c.args.depth + c.in-Behind.shared) (c.len.ensures ∙ c.args.leaves.ok.0) c.requires.some c.index.ensures
    (c.copied-key.ensures ∙ c.key.ensures) a.bit a.near_is

pub grown-requires : goal.grown-requires
grown-requires g t c κs within =
    let a = rw c.in-Behind.is at c.in_ok-leaves.ensures in (
      omega (arith, a.less),
      (
        within.0,
        (within.1, (omega (arith, a.less), near g t (goal.at.grown-requires g t c).In-Behind)),
      ),
    )

-- the fork and its leaves
both : (g : _) (t : _) (c : In_ok-far-in-Behind g t) → 0 < length c.in-Behind.near.items
    → IsPutBeside (side_bit c.in-Behind.side) (c.args.depth + c.in-Behind.shared)
    (join_at (side_bit c.in-Behind.side) empty empty) c.args.leaves.items c.in-Behind.near.items c.in-Behind.far.items
    c.in_ok-near-in-Behind.near c.in_ok-far-in-Behind.far
both g t c some = put_parted (rw c.in-Behind.is at c.in_ok-leaves.ensures) (omega (arith, c.requires.depth))
    c.in_ok-near-in-Behind.ensures c.in_ok-far-in-Behind.ensures (inr some)

pub forked-requires : goal.forked-requires
forked-requires g t c =
    let p = both g t (goal.at.forked-requires g t c).In_ok-far-in-Behind
    (near g t (goal.at.forked-requires g t c).In-Behind) in
    record { heights = (p.same, p.height); hold = p.hold; fits = search (rules, p.few.0, p.few.1) }

pub returns : goal.returns
returns g t c =
    let a = rw c.in-Behind.is at c.in_ok-leaves.ensures in
    let p = both g t (goal.at.returns g t c).In_ok-far-in-Behind (near g t (goal.at.returns g t c).In-Behind) in
    IfOk-weaker c.forked.result _ _ (λ all e. put_below_bits _ c.args.depth _ (omega (arith, a.less, c.requires.depth))
    a.same (empty_parted _ _ _ _) p.put e) c.forked.ensures
