use Rattle.std.proofs.Common.{◌+◌, ◌∙◌, true, false}
use Rattle.warg_crypto.specs.Sides.{side_bit}
use Rattle.warg_map.specs.declared.node.Node.TheVariants.{Fork}
use Rattle.warg_map.specs.Private.Under.{join_at}
use Rattle.warg_map.specs.Private.Seen.{IsSeen}
use Rattle.warg_map.proofs.TreeForm.{with_fork}
use Rattle.warg_map.proofs.grown.Filled.beside.Goals as goal
use Rattle.warg_map.proofs.grown.Filled.beside.Goals.{In_ok-new, in-Left, in-Right}

-- the new fork
node : (g : _) (c : In_ok-new g) → IsSeen (Fork c.in_ok-new.field-0) (c.args.near.link.0 + 1)
    (join_at (side_bit c.args.side) c.args.near.link.1 c.args.far.link.1)
node g c =
    let is = c.in_ok-new.ensures.ok in
    elim c.match-side.branch [
      | in-Left w ↦ rw w.in-Left.is (with_fork false c.args.near.link c.args.far.link
          (is ∙ w.fork-is) c.requires.heights c.requires.hold)
      | in-Right w ↦ rw w.in-Right.is (with_fork true c.args.near.link c.args.far.link
          (is ∙ w.fork-is) c.requires.heights c.requires.hold)
    ]

pub new-link-requires : goal.new-link-requires
new-link-requires g c = (node g (goal.at.new-link-requires g c).In_ok-new).well_formed

pub returns : goal.returns
returns g c =
    let is = c.new-link.ensures ∙ (node g (goal.at.returns g c).In_ok-new).seen_as in
    λ i. record { link = is i; fresh = c.args.near.fresh + c.args.far.fresh }
