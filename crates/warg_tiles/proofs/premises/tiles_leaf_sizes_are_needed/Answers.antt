use Rattle.std.proofs.Common.{inl, inr, [], ◌∷◌, refl, arith}
use Rattle.warg_crypto.proofs.ForCallers.{zeros}
use Rattle.warg_tiles.proofs.PremiseLemmas.{own, bytes, none_collide, leaf_tile, some_length}
use Rattle.warg_log.specs.Tree.{root_within, front_of, front_within}
use Rattle.warg_log.specs.Nodes.{height_of, height_within, place_of}
use Rattle.warg_log.specs.Cut.{way_within, top_of}
use Rattle.warg_log.specs.Walks.{read_on}
use Rattle.warg_tiles.proofs.premises.tiles_leaf_sizes_are_needed.Goals as goal

pub returns : goal.returns
unfolding root_within front_of front_within height_of height_within place_of way_within top_of read_on
returns c =
    λ law. elim (law own (bytes 31 ∷ bytes 33 ∷ [])
    ((leaf_tile 2, zeros ∷ zeros ∷ []) ∷ []) 0 zeros ((refl, (refl, tt)), tt) (omega arith) refl) [
      | inl same ↦ let second = same.0 in omega (arith, some_length _ _ second)
      | inr c ↦ none_collide _ c
    ]
