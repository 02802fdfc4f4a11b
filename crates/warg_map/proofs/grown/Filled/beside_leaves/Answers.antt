use Rattle.std.proofs.Common.{ap, arith, inr}
use Rattle.warg_map.proofs.LeavesBelowNodes.{put_holds}
use Rattle.std.proofs.lemmas.Result.{IfOk-weaker}
use Rattle.warg_map.proofs.grown.Filled.beside_leaves.Goals as goal

pub forked-requires : goal.forked-requires
forked-requires g c =
    let p = put_holds c.in_ok-far.ensures (inr c.requires.some) in
    record {
      heights = (omega (arith, p.0, c.requires.height), c.requires.height);
      hold = (c.requires.hold, p.1);
      fits = omega (arith, p.2, c.requires.fits);
    }

pub returns : goal.returns
returns g c = IfOk-weaker c.forked.result _ _
    (λ r e. record {
      link = c.in_ok-far.far.link;
      fresh = c.in_ok-far.far.fresh;
      put = c.in_ok-far.ensures;
      link_is = ap (λ x. x.link) e;
      fresh_is = ap (λ x. x.fresh) e;
    }) c.forked.ensures
