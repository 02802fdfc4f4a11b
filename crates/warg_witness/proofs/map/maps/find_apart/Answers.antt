use Rattle.std.proofs.Common.{List, ℕ, None, Some, subst, sym}
use Rattle.std.proofs.lemmas.Bool.{iff_false}
use Rattle.std.proofs.lemmas.Result.{IfOk-weaker}
use Rattle.warg_map.specs.Sparse.{map_of, pair_bytes}
use Rattle.warg_map.proofs.ForCallers.{key_beside}
use Rattle.warg_witness.specs.MapsPlaced.{IsPlacedInMaps}
use Rattle.warg_witness.proofs.ChangeLemmas.{found_apart, keys_apart}
use Rattle.warg_witness.proofs.map.maps.find_apart.Goals as goal

pub returns-in_default : goal.returns-in_default
returns-in_default g c =
    let H = g.D.SupportedDigest.digest in
    let xs = pair_bytes g.K.VisitBytes.bytes g.V.VisitBytes.bytes c.args.first.now in
    let ys = pair_bytes g.K.VisitBytes.bytes g.V.VisitBytes.bytes c.args.second.now in
    let key = g.K.VisitBytes.bytes c.args.key.now in
    let beside = key_beside H (map_of H xs) key _ c.in_ok-own.ensures in
    IfOk-weaker c.find.result _ _ (found_apart H xs ys key c.requires.inserted c.requires.root c.requires.apart _ beside
    None (c.in_default.ensures _ c.of.ensures) tt)
    (rw c.peers.ensures.value at c.find.ensures)

pub of-requires-then-not-branch : goal.of-requires-then-not-branch
of-requires-then-not-branch g c =
    let H = g.D.SupportedDigest.digest in
    let xs = pair_bytes g.K.VisitBytes.bytes g.V.VisitBytes.bytes c.args.first.now in
    let ys = pair_bytes g.K.VisitBytes.bytes g.V.VisitBytes.bytes c.args.second.now in
    let key = g.K.VisitBytes.bytes c.args.key.now in
    let e : List ℕ × List ℕ = (
      g.K.VisitBytes.bytes c.in-Some.field-0.now.0,
      g.V.VisitBytes.bytes c.in-Some.field-0.now.1,
    ) in
    (keys_apart H xs ys key c.requires.inserted g.met.D.SupportedDigest.is_digest e (c.in-Some.ensures _ c.of.ensures)
    (iff_false c.in_ok-have_same_bytes.ensures c.if-not-branch.true)).collides

pub returns-then-not-branch : goal.returns-then-not-branch
returns-then-not-branch g c =
    let H = g.D.SupportedDigest.digest in
    let xs = pair_bytes g.K.VisitBytes.bytes g.V.VisitBytes.bytes c.args.first.now in
    let ys = pair_bytes g.K.VisitBytes.bytes g.V.VisitBytes.bytes c.args.second.now in
    let key = g.K.VisitBytes.bytes c.args.key.now in
    let e : List ℕ × List ℕ = (
      g.K.VisitBytes.bytes c.in-Some.field-0.now.0,
      g.V.VisitBytes.bytes c.in-Some.field-0.now.1,
    ) in
    let shown = keys_apart H xs ys key c.requires.inserted g.met.D.SupportedDigest.is_digest e
    (c.in-Some.ensures _ c.of.ensures) (iff_false c.in_ok-have_same_bytes.ensures c.if-not-branch.true) in
    let Placed : List ℕ × List ℕ → Type 0 = λ two. IsPlacedInMaps H xs ys two.0 two.1 in
    (tt, λ no. no, subst Placed (sym c.in_ok-of.ensures) shown.placed)

pub returns : goal.returns
returns g c =
    let H = g.D.SupportedDigest.digest in
    let xs = pair_bytes g.K.VisitBytes.bytes g.V.VisitBytes.bytes c.args.first.now in
    let ys = pair_bytes g.K.VisitBytes.bytes g.V.VisitBytes.bytes c.args.second.now in
    let key = g.K.VisitBytes.bytes c.args.key.now in
    let e : List ℕ × List ℕ = (
      g.K.VisitBytes.bytes c.in-Some.field-0.now.0,
      g.V.VisitBytes.bytes c.in-Some.field-0.now.1,
    ) in
    let beside = key_beside H (map_of H xs) key _ c.in_ok-own-2.ensures in
    IfOk-weaker c.find-2.result _ _
    (found_apart H xs ys key c.requires.inserted c.requires.root c.requires.apart _ beside (Some e)
    (c.in-Some.ensures _ c.of.ensures)
    (c.in_ok-have_same_bytes.ensures.0 c.if-not-branch.false))
    (rw c.peers-2.ensures.value at c.find-2.ensures)
