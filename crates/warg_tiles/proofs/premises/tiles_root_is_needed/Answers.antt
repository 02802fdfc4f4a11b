use Rattle.std.proofs.Common.{inl, inr, [], ◌∷◌, refl, arith}
use Rattle.warg_crypto.proofs.ForCallers.{zeros}
use Rattle.warg_tiles.proofs.PremiseLemmas.{nothing_taken}
use Rattle.warg_log.specs.Tree.{root_within, front_of, front_within}
use Rattle.warg_log.specs.Nodes.{height_of, height_within, place_of}
use Rattle.warg_log.specs.Cut.{way_within, top_of}
use Rattle.warg_log.specs.Walks.{read_on}
use Rattle.warg_tiles.proofs.premises.tiles_root_is_needed.Goals as goal

pub returns : goal.returns
unfolding root_within front_of front_within height_of height_within place_of way_within top_of read_on
returns c = λ H law. elim (law (zeros ∷ zeros ∷ []) [] 0 zeros (refl, (refl, tt)) tt (omega arith)) [
  | inl same ↦ let second = same.0 in absurd cc
  | inr c ↦ nothing_taken H _ _ c.placed
]
