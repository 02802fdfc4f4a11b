use Rattle.std.proofs.Common.{List, ℕ, ap, arith}
use Rattle.warg_pages.proofs.LoneEnds.{other_prefix}
use Rattle.warg_pages.proofs.lone.end_at.Goals as goal

pub returns-then-shared-depth-clause-err : goal.returns-then-shared-depth-clause-err
returns-then-shared-depth-clause-err g c =
    let apart = rw (ap (λ (l : List ℕ × List ℕ). l.0) c.lone.view_is) at (c.shared_bits-shared.ensures.apart
    (omega arith)) in
    other_prefix _ c.args.key.now c.args.depth _ c.args.slot.now c.args.lone.now c.requires
    c.if-shared-depth.true apart
