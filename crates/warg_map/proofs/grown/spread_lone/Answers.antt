use Rattle.std.proofs.Common.{◌≡◌, ◌-◌, ◌<◌, ◌∙◌, arith}
use Rattle.warg_map.specs.Private.Grown.{IsPut}
use Rattle.warg_map.specs.Private.Lone.{held_alone}
use Rattle.warg_map.proofs.LeavesBelowNodes.{put_behind_lone}
use Rattle.warg_map.proofs.grown.spread_lone.Goals as goal
use Rattle.warg_map.proofs.grown.spread_lone.Goals.{In_ok-link}

put : (g : _) (c : In_ok-link g) → let grown = c.in_ok-link.field-0 in (0 < grown.fresh)
    × IsPut (256 - c.args.depth) (held_alone c.args.lone.now) c.args.leaves.items grown.link (grown.fresh - 1)
put g c =
    let height : 256 - c.args.depth ≡ c.args.lone.now.height = omega (arith, c.requires) in
    let same : c.with_height.result ≡ c.args.lone.now =
    λ i. record {
      key = c.with_height.ensures.key i;
      value = c.with_height.ensures.value i;
      height = (c.with_height.ensures.height ∙ height) i;
    } in
    put_behind_lone c.args.depth c.requires
    (rw same at c.in_ok-insert.ensures.items) c.in_ok-link.ensures

pub overflow_sub-result : goal.overflow_sub-result
overflow_sub-result g c = (put g (goal.at.overflow_sub-result g c).In_ok-link).0

pub returns : goal.returns
returns g c = (put g (goal.at.returns g c).In_ok-link).1
