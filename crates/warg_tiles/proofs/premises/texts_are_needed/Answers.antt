use Rattle.std.proofs.Common.{None, refl, ap, length, arith}
use Rattle.warg_tiles.proofs.PremiseLemmas.{two_lines_at_once, two_lines, lines_can_be_said}
use Rattle.warg_tiles.specs.CheckpointText.{Said, lines}
use Rattle.warg_tiles.proofs.premises.texts_are_needed.Goals as goal

pub returns : goal.returns
unfolding lines
returns c = λ law. let same = (law two_lines_at_once two_lines None None lines_can_be_said refl).0 in
    omega (arith, ap (λ (s : Said). length s.extensions) same)
