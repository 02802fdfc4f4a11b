use Rattle.std.proofs.Common.{[], ◌∷◌, refl}
use Rattle.warg_crypto.proofs.ForCallers.{zeros}
use Rattle.warg_tiles.proofs.PremiseLemmas.{leaf_tile}
use Rattle.warg_log.specs.Tree.{root_within, front_of, front_within}
use Rattle.warg_log.specs.Nodes.{height_of, height_within, place_of}
use Rattle.warg_tiles.proofs.premises.own_tiles_are_needed.Goals as goal

pub returns : goal.returns
unfolding root_within front_of front_within height_of height_within place_of
returns c = λ H law. let none = law [] ((leaf_tile 1, zeros ∷ []) ∷ []) 0 zeros refl in absurd cc
