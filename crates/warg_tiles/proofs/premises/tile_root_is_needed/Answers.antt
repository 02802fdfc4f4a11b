use Rattle.std.proofs.Common.{inl, inr, [], ◌∷◌, refl, arith}
use Rattle.warg_crypto.proofs.ForCallers.{zeros, ones}
use Rattle.warg_tiles.proofs.PremiseLemmas.{no_row, leaf_tile}
use Rattle.warg_log.specs.Tree.{root_within, front_of, front_within}
use Rattle.warg_log.specs.Nodes.{height_of, height_within, place_of}
use Rattle.warg_tiles.proofs.premises.tile_root_is_needed.Goals as goal

pub returns : goal.returns
unfolding root_within front_of front_within height_of height_within place_of
returns c = λ H law. elim (law (zeros ∷ []) (leaf_tile 1) (ones ∷ []) 0 (refl, tt) (refl, tt) refl refl) [
  | inl same ↦ let first = same 0 (omega arith) in absurd cc
  | inr c ↦ no_row c.placed
]
