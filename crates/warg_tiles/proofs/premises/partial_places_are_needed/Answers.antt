use Rattle.std.proofs.Common.{inl, inr, [], ◌∷◌, refl, arith}
use Rattle.warg_crypto.proofs.ForCallers.{zeros}
use Rattle.warg_tiles.proofs.PremiseLemmas.{no_row, edge_of_one}
use Rattle.warg_log.specs.Tree.{root_within, front_of, front_within}
use Rattle.warg_log.specs.Nodes.{height_of, height_within, place_of}
use Rattle.warg_tiles.proofs.premises.partial_places_are_needed.Goals as goal

pub returns : goal.returns
unfolding root_within front_of front_within height_of height_within place_of
returns c =
    λ H law. elim (law (zeros ∷ []) ((record { level = 0; number = 1; width = 1 }, zeros ∷ []) ∷ []) (refl, tt)
    (omega arith) (refl, tt) ((refl, tt), tt) refl) [
      | inl same ↦ let first = same.0.digest 0 (omega arith) in absurd cc
      | inr c ↦ no_row (edge_of_one _ _ _ _ _ c.placed)
    ]
