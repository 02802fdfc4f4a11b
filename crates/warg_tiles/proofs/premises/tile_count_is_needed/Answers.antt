use Rattle.std.proofs.Common.{inl, inr, [], ◌∷◌, ◌++◌, refl, arith}
use Rattle.warg_crypto.proofs.ForCallers.{zeros}
use Rattle.warg_tiles.proofs.PremiseLemmas.{no_row, leaf_tile}
use Rattle.warg_log.specs.Tree.{root_within, front_of, front_within}
use Rattle.warg_log.specs.Nodes.{height_of, height_within, place_of}
use Rattle.warg_tiles.proofs.premises.tile_count_is_needed.Goals as goal

pub returns : goal.returns
unfolding root_within front_of front_within height_of height_within place_of
returns c =
    λ H gives law. elim (law (zeros ∷ zeros ∷ []) (leaf_tile 2) (H (1 ∷ zeros ++ zeros) ∷ []) 1 (refl, (refl, tt))
    ((gives (1 ∷ zeros ++ zeros)).has_32, tt) refl refl) [
      | inl same ↦ let second = same 1 (omega arith) in absurd cc
      | inr c ↦ no_row c.placed
    ]
