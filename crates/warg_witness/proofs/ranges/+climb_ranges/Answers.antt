use Rattle.std.proofs.Common.{sym, ◌∙◌}
use Rattle.warg_log.proofs.ForCallers.{target_decides}
use Rattle.warg_witness.proofs.HashLemmas.{none_some}
use Rattle.warg_witness.proofs.RangeLemmas.{above}
use Rattle.warg_witness.proofs.CutLemmas.{ranges_start, sides_lack, ranges_up}
use Rattle.warg_witness.proofs.ranges.+climb_ranges.Goals as goal

pub returns : goal.returns
returns g t c =
    let sides = c.sides_around-held.ensures in
    ranges_up _ _ _ _ _ _ _ c.requires.node (above c.requires.around _ c.eq.ensures c.if-eq.false) _
    (rw sides.side at c.in_ok-climb.ensures) (sym (rw sides.beside at c.in_ok-first_beside.ensures))
    (sym (rw sides.beside at c.in_ok-second_beside.ensures)) c.up.ensures

pub returns-then-eq : goal.returns-then-eq
returns-then-eq g t c =
    let here = (target_decides c.args.target.now c.args.range.now).0 (sym c.eq.ensures ∙ c.if-eq.true) in
    ranges_start _ _ _ _ _ _ _ here (rw (c.copied.ensures, c.copied-then-eq.ensures) at c.new.ensures)

pub returns-in_err-climb : goal.returns-in_err-climb
returns-in_err-climb g t c =
    rw c.from_residual.ensures
    (sides_lack _ _ _ _ _ _ _ c.requires.node (above c.requires.around _ c.eq.ensures c.if-eq.false) _
    (λ t u z v near _ other _. (rw c.sides_around-held.ensures.side at c.in_err-climb.ensures) t z near other))

pub returns-in_err-first_beside : goal.returns-in_err-first_beside
returns-in_err-first_beside g t c =
    rw c.from_residual-in_err-first_beside.ensures
    (sides_lack _ _ _ _ _ _ _ c.requires.node (above c.requires.around _ c.eq.ensures c.if-eq.false) _
    (λ t u z v _ far _ _. none_some (rw c.sides_around-held.ensures.beside at c.in_err-first_beside.ensures) far))

pub returns-in_err-second_beside : goal.returns-in_err-second_beside
returns-in_err-second_beside g t c =
    rw c.from_residual-in_err-second_beside.ensures
    (sides_lack _ _ _ _ _ _ _ c.requires.node (above c.requires.around _ c.eq.ensures c.if-eq.false) _
    (λ t u z v _ _ _ far. none_some (rw c.sides_around-held.ensures.beside at c.in_err-second_beside.ensures) far))
