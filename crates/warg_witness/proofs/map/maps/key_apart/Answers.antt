use Rattle.std.proofs.lemmas.Result.{IfOk-weaker}
use Rattle.warg_map.specs.Sparse.{pair_bytes}
use Rattle.warg_witness.proofs.ChangeLemmas.{of_both}
use Rattle.warg_witness.proofs.map.maps.key_apart.Goals as goal

pub returns : goal.returns
returns g c =
    let xs = pair_bytes g.K.VisitBytes.bytes g.V.VisitBytes.bytes c.args.first.now in
    let ys = pair_bytes g.K.VisitBytes.bytes g.V.VisitBytes.bytes c.args.second.now in
    let none = rw (c.in-None.is, c.in_ok-by_first.ensures, c.in_ok-by_second.ensures) at c.in_ok-key.ensures in
    IfOk-weaker c.first_apart-in-None.result _ _ (λ apart. of_both (λ k. g.K.VisitBytes.bytes k.now) xs ys apart none)
    (rw (c.in_ok-by_first.ensures, c.in_ok-by_second.ensures) at c.first_apart-in-None.ensures)
