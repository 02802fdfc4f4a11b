use Rattle.std.proofs.Common.{inl, inr, [], ◌∷◌, refl, arith}
use Rattle.warg_crypto.proofs.ForCallers.{zeros}
use Rattle.warg_tiles.proofs.PremiseLemmas.{own, bytes, none_collide, leaf_tile, some_length}
use Rattle.warg_log.specs.Tree.{root_within, front_of, front_within}
use Rattle.warg_log.specs.Nodes.{height_of, height_within, place_of}
use Rattle.warg_tiles.proofs.premises.partial_sizes_are_needed.Goals as goal

pub returns : goal.returns
unfolding root_within front_of front_within height_of height_within place_of
returns c =
    λ law. elim (law own (zeros ∷ zeros ∷ []) ((leaf_tile 2, bytes 31 ∷ bytes 33 ∷ []) ∷ []) (refl, (refl, tt))
    (omega arith) refl (refl, tt) refl) [
      | inl same ↦ let first = same.0.digest 0 (omega arith) in omega (arith, some_length _ _ first)
      | inr c ↦ none_collide _ c
    ]
