use Rattle.std.proofs.Common.{[], ◌∷◌}
use Rattle.warg_tiles.proofs.premises.named_tiles_are_needed.Goals as goal

pub returns : goal.returns
returns c = λ H law. let known = (law 0 [] (0 ∷ [])).0 in absurd cc
