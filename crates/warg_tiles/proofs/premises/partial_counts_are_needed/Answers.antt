use Rattle.std.proofs.Common.{inl, inr, [], ◌∷◌, ◌++◌, refl, arith}
use Rattle.warg_crypto.proofs.ForCallers.{zeros}
use Rattle.warg_tiles.proofs.PremiseLemmas.{no_row, edge_of_one, leaf_tile}
use Rattle.warg_log.specs.Tree.{root_within, front_of, front_within}
use Rattle.warg_log.specs.Nodes.{height_of, height_within, place_of}
use Rattle.warg_tiles.proofs.premises.partial_counts_are_needed.Goals as goal

pub returns : goal.returns
unfolding root_within front_of front_within height_of height_within place_of
returns c =
    λ H gives law. elim (law (zeros ∷ zeros ∷ []) ((leaf_tile 2, H (1 ∷ zeros ++ zeros) ∷ []) ∷ []) (refl, (refl, tt))
    (omega arith) refl (((gives (1 ∷ zeros ++ zeros)).has_32, tt), tt) refl) [
      | inl same ↦ let count = same.0.count in omega arith
      | inr c ↦ no_row (edge_of_one _ _ _ _ _ c.placed)
    ]
