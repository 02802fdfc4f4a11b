use Rattle.std.proofs.Common.{None, Some, []}
use Rattle.warg_tiles.proofs.PremiseLemmas.{two_lines, lines_can_be_said}
use Rattle.warg_tiles.proofs.premises.one_text_is_needed.Goals as goal

pub returns : goal.returns
returns c = λ law. let same = (law two_lines two_lines None (Some []) lines_can_be_said lines_can_be_said).1 in
    absurd cc
