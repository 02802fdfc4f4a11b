use Rattle.std.proofs.Common.{ℕ, List, ◌++◌, map, take}
use Rattle.warg_crypto.specs.Framed.{framed}
use Rattle.warg_crypto.proofs.framed.FramedVisitBytes.visit.Given as goal

abbrev pub invariant-loop-part : goal.invariant-loop-part
invariant-loop-part g l = (m : List ℕ) → g.W.ByteVisitor.stands_for l.initial.to m
    → g.W.ByteVisitor.stands_for l.to (m ++ framed (map (λ part. part.now) (take l.part-index l.part-items)))
