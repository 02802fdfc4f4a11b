use Rattle.std.proofs.Common.{arith}
use Rattle.warg_witness.proofs.CutLemmas.{have_range}
use Rattle.warg_witness.proofs.trees.divergence_below.Goals as goal

pub unreachable-requires : goal.unreachable-requires
unreachable-requires g c = (rw (c.plain_digest-old.ensures, c.plain_digest-new.ensures) at c.in-None.ensures)
    (have_range _ _ _ _ _ c.requires.aligned (omega arith) c.requires.in_old c.requires.in_new c.requires.same)
