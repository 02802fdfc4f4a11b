use Rattle.std.proofs.Common.{inl, inr, [], ◌∷◌, refl, arith}
use Rattle.warg_crypto.proofs.ForCallers.{zeros, ones}
use Rattle.warg_tiles.proofs.PremiseLemmas.{no_row, edge_of_one, leaf_tile}
use Rattle.warg_log.specs.Tree.{root_within, front_of, front_within}
use Rattle.warg_log.specs.Nodes.{height_of, height_within, place_of}
use Rattle.warg_tiles.proofs.premises.partial_root_is_needed.Goals as goal

pub returns : goal.returns
unfolding root_within front_of front_within height_of height_within place_of
returns c =
    λ H law. elim (law (zeros ∷ []) ((leaf_tile 1, ones ∷ []) ∷ []) (refl, tt) (omega arith)
    (record { places = refl; counts = (refl, tt); hashes = ((refl, tt), tt) })) [
      | inl same ↦ let first = same.0.digest 0 (omega arith) in absurd cc
      | inr c ↦ no_row (edge_of_one _ _ _ _ _ c.placed)
    ]
