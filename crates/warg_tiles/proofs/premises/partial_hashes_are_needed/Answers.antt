use Rattle.std.proofs.Common.{inl, inr, refl, arith}
use Rattle.warg_tiles.proofs.PremiseLemmas.{tell, four, other_four, tile_apart, edge_of_one}
use Rattle.warg_log.specs.Tree.{root_within, front_of, front_within}
use Rattle.warg_log.specs.Nodes.{height_of, height_within, place_of}
use Rattle.warg_tiles.proofs.premises.partial_hashes_are_needed.Goals as goal

pub returns : goal.returns
unfolding root_within front_of front_within height_of height_within place_of
returns c =
    λ law. elim (law tell four other_four (refl, (refl, (refl, (refl, tt)))) (omega arith)
    (record { places = refl; counts = (refl, tt); hashes = ((refl, (refl, (refl, (refl, tt)))), tt) }) refl) [
      | inl same ↦ let first = same.0.digest 0 (omega arith) in absurd cc
      | inr c ↦ tile_apart _ _ (edge_of_one _ _ _ _ _ c.placed) c.collide
    ]
