use Rattle.std.proofs.Common.{arith}
use Rattle.warg_witness.proofs.RangeLemmas.{front_side, rest_side}
use Rattle.warg_witness.proofs.ranges.sides_around.Goals as goal

pub returns-then-target-rest-clause-around : goal.returns-then-target-rest-clause-around
returns-then-target-rest-clause-around c = rw c.split-front.ensures.front
    (front_side c.requires.node c.requires.aligned c.requires.above (grind arith)).2

pub returns-else-target-rest-clause-aligned : goal.returns-else-target-rest-clause-aligned
returns-else-target-rest-clause-aligned c = rw c.split-front.ensures.rest
    (rest_side c.requires.node c.requires.aligned c.requires.above (grind arith)).1
