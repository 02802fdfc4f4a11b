use Rattle.std.proofs.Common.{◌≡◌, ◌∙◌, ap, arith}
use Rattle.warg_map.specs.Last.{last_with}
use Rattle.warg_witness.specs.MapClaims.{value_in}
use Rattle.warg_witness.proofs.InsertionLemmas.{last_among}
use Rattle.warg_witness.proofs.map.last.last_value.Goals as goal

pub returns-then-branch : goal.returns-then-branch
returns-then-branch g c =
    let last = last_among g.K.VisitBytes.bytes g.V.VisitBytes.bytes c.args.insertions.now _ _ _ _
    c.in_ok-have_same_bytes.ensures (omega arith) (omega arith) c.index-insertions-place.is in
    ap value_in (c.loop-place.invariant ∙ rw c.if-branch.true at last)

pub loop-place-preserved : goal.loop-place-preserved
loop-place-preserved g c =
    let last = last_among g.K.VisitBytes.bytes g.V.VisitBytes.bytes c.args.insertions.now _ _ _ _
    c.in_ok-have_same_bytes.ensures (omega arith) (omega arith) c.index-insertions-place.is in
    c.loop-place.invariant ∙ rw c.if-branch.false at last

pub returns : goal.returns
unfolding last_with
returns g c = let none : c.loop-place.place ≡ 0 = omega arith in ap value_in (rw none at c.loop-place.invariant)
