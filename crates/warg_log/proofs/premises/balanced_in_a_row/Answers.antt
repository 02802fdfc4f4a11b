use Rattle.std.proofs.Common.{[], ◌∷◌, refl}
use Rattle.warg_log.specs.Nodes.{height_of, height_within, place_of, balanced_within}
use Rattle.warg_log.proofs.premises.balanced_in_a_row.Goals as goal

pub returns : goal.returns
unfolding balanced_within height_of height_within place_of
returns c = record {
  follow = λ law. cc (law 1 0 [] tt);
  fall = λ law. cc (law 2 (0 ∷ 2 ∷ []) (refl, (refl, refl)));
}
