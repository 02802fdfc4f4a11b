use Rattle.std.proofs.Common.{ℕ, [], List, below_more, subst, sym, arith}
use Rattle.std.proofs.lemmas.Bool.{iff_false}
use Rattle.std.proofs.lemmas.List.Elements.{All-from_get_or}
use Rattle.warg_map.specs.Sparse.{pair_bytes}
use Rattle.warg_witness.specs.MapsPlaced.{HaveOneValue}
use Rattle.warg_witness.proofs.ChangeLemmas.{key_at, key_is}
use Rattle.warg_witness.proofs.InsertionLemmas.{length-pair_bytes}
use Rattle.warg_witness.proofs.map.maps.first_apart.Goals as goal

pub returns-then-not-branch : goal.returns-then-not-branch
returns-then-not-branch g c = (
  key_at g.K.VisitBytes.bytes g.V.VisitBytes.bytes c.args.of.now c.loop-key.key-index c.loop-key-item.result
      c.loop-key-test.true c.loop-key-item.is,
  iff_false c.in_ok-have_one_value.ensures c.if-not-branch.true,
)

pub loop-key-preserved : goal.loop-key-preserved
loop-key-preserved g c =
    let xs = c.args.first.now in
    let ys = c.args.second.now in
    let is = key_is g.K.VisitBytes.bytes g.V.VisitBytes.bytes c.args.of.now c.loop-key.key-index c.loop-key-item.result
    c.loop-key-test.true c.loop-key-item.is in
    let Holds : List ℕ → Type 0 = λ key. HaveOneValue xs ys key in
    below_more _ _ c.loop-key.invariant (subst Holds (sym is) (c.in_ok-have_one_value.ensures.0 c.if-not-branch.false))

pub returns : goal.returns
returns g c =
    let xs = c.args.first.now in
    let ys = c.args.second.now in
    let of = pair_bytes g.K.VisitBytes.bytes g.V.VisitBytes.bytes c.args.of.now in
    All-from_get_or (λ e. HaveOneValue xs ys e.0) of ([], [])
    (λ i less. c.loop-key.invariant i
    (omega (
      arith,
      length-pair_bytes g.K.VisitBytes.bytes g.V.VisitBytes.bytes c.args.of.now,
      c.loop-key-test.false,
    )))
