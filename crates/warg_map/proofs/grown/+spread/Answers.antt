use Rattle.std.proofs.Common.{◌+◌, ◌-◌, arith, rules, refl, false, inl}
use Rattle.std.proofs.lemmas.List.{nil_from_length}
use Rattle.std.proofs.lemmas.Result.{IfOk-weaker}
use Rattle.warg_map.specs.Private.Grown.{IsPut}
use Rattle.warg_map.specs.Private.Under.{join}
use Rattle.warg_map.proofs.BitsInFront.{holds-under}
use Rattle.warg_map.proofs.LeavesBelowNodes.{put_holds, put_below_bits, put_beside_leaves, put_none, IsPutBeside, put_in_fork, cut_stem, carries_holds, carries_more}
use Rattle.warg_map.proofs.grown.+spread.Goals as goal
use Rattle.warg_map.proofs.grown.+spread.Goals.{spread_fork-In_ok-right}

pub spread-returns-then-is_empty : goal.spread-returns-then-is_empty
spread-returns-then-is_empty g t c =
    let none = nil_from_length c.args.leaves.items (search rules) in
    IfOk-weaker c.unchanged.result _ _ (λ p e. rw e (put_none none (omega (arith, c.requires))))
    c.unchanged.ensures

-- the sides of a fork
sides : (g : _) (t : _) (c : spread_fork-In_ok-right g t) → IsPutBeside false c.args.depth (join c.args.fork.now.left.1
    c.args.fork.now.right.1) c.args.leaves.items c.in_ok-near.near.items c.in_ok-near.far.items c.in_ok-left.left
    c.in_ok-right.right
sides g t c = put_in_fork c.requires c.in_ok-near.ensures
    c.in_ok-left.ensures c.in_ok-right.ensures

pub spread_fork-beside-requires : goal.spread_fork-beside-requires
spread_fork-beside-requires g t c =
    let p = sides g t (goal.at.spread_fork-beside-requires g t c).In_ok-right in
    record { heights = (p.same, omega (arith, p.height)); hold = p.hold; fits = search (rules, p.few.0, p.few.1) }

pub spread_fork-returns : goal.spread_fork-returns
spread_fork-returns g t c = IfOk-weaker c.beside.result _ _
    (λ all e. rw e (sides g t (goal.at.spread_fork-returns g t c).In_ok-right).put) c.beside.ensures

-- the whole stem
pub spread_stem-with_stem-requires-clause-below : goal.spread_stem-with_stem-requires-clause-below
spread_stem-with_stem-requires-clause-below g t c = λ _. carries_more c.args.stem.now.key
    (c.args.from + (c.args.stem.now.from + c.args.stem.now.len - c.args.from)) c.args.stem.now.below
    (omega (arith, c.requires.level, c.requires.place.1)) c.requires.carries c.in_ok-below-in-Nowhere.ensures

pub spread_stem-returns-in_ok-below-in-Nowhere : goal.spread_stem-returns-in_ok-below-in-Nowhere
spread_stem-returns-in_ok-below-in-Nowhere g t c =
    let s = c.args.stem.now in
    let whole = rw c.in-Nowhere.is at c.in_ok-leaves.ensures in
    let below : IsPut (256 - (c.args.from + (c.args.stem.now.from + c.args.stem.now.len - c.args.from)))
    c.args.stem.now.below.1 c.args.leaves.items c.in_ok-below-in-Nowhere.below.link
    c.in_ok-below-in-Nowhere.below.fresh = rw whole.0 at c.in_ok-below-in-Nowhere.ensures in
    IfOk-weaker c.with_stem.result _ _
    (λ all e. put_below_bits s.key c.args.from (s.from + s.len - c.args.from)
    (omega (arith, c.requires.level, c.requires.place.1)) whole.1 refl below e)
    c.with_stem.ensures

-- where the first leaf parts from it
pub spread_stem-beside_leaves-requires : goal.spread_stem-beside_leaves-requires
spread_stem-beside_leaves-requires g t c =
    let s = c.args.stem.now in
    let a = rw c.in-Behind.is at c.in_ok-leaves.ensures in
    let p = put_holds c.in_ok-near-in-Behind.ensures
    (inl (holds-under _ s.below.1 (carries_holds s.key s.below c.requires.carries))) in
    record {
      height = omega (arith, p.0, a.less, c.requires.level);
      hold = p.1;
      some = a.some;
      fits = search (rules, p.2);
    }

pub spread_stem-returns-in_ok-near-in-Behind : goal.spread_stem-returns-in_ok-near-in-Behind
spread_stem-returns-in_ok-near-in-Behind g t c =
    let s = c.args.stem.now in
    let n = c.in-Behind.shared in
    let at = c.args.from + n in
    let a = rw c.in-Behind.is at c.in_ok-leaves.ensures in
    let cut = cut_stem s.key c.args.from n (s.from + s.len - (at + 1)) s.below.1 a.less refl
    (omega (arith, a.less)) a.bit in
    let near = holds-under _ s.below.1 (carries_holds s.key s.below c.requires.carries) in
    IfOk-weaker c.beside_leaves.result _ _
    (λ r w. put_beside_leaves a
    (omega (arith, c.requires.level, c.requires.place.1)) cut c.in_ok-near-in-Behind.ensures near w)
    c.beside_leaves.ensures
