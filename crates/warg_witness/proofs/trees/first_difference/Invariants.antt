use Rattle.std.proofs.Common.{◌≡◌, map, take}
use Rattle.warg_witness.proofs.trees.first_difference.Given as goal

abbrev pub invariant-loop-place : goal.invariant-loop-place
invariant-loop-place g l = take l.place (map g.V.VisitBytes.bytes l.old) ≡ take l.place (map g.V.VisitBytes.bytes l.new)
