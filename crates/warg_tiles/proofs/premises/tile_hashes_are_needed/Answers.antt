use Rattle.std.proofs.Common.{inl, inr, [], ◌∷◌, refl, arith}
use Rattle.warg_crypto.proofs.ForCallers.{zeros, ones}
use Rattle.warg_tiles.proofs.PremiseLemmas.{tell, tile_apart, leaf_tile}
use Rattle.warg_log.specs.Tree.{root_within, front_of, front_within}
use Rattle.warg_log.specs.Nodes.{height_of, height_within, place_of}
use Rattle.warg_tiles.proofs.premises.tile_hashes_are_needed.Goals as goal

pub returns : goal.returns
unfolding root_within front_of front_within height_of height_within place_of
returns c =
    λ law. elim (law tell (zeros ∷ zeros ∷ ones ∷ zeros ∷ []) (leaf_tile 4)
    (ones ∷ zeros ∷ zeros ∷ zeros ∷ []) 3 (refl, (refl, (refl, (refl, tt))))
    (refl, (refl, (refl, (refl, tt)))) refl refl refl) [
      | inl same ↦ let first = same 0 (omega arith) in absurd cc
      | inr c ↦ tile_apart _ _ c.placed c.collide
    ]
