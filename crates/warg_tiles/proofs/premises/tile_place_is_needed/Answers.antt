use Rattle.std.proofs.Common.{inl, inr, [], ◌∷◌, refl, arith}
use Rattle.warg_crypto.proofs.ForCallers.{zeros}
use Rattle.warg_tiles.proofs.PremiseLemmas.{no_row}
use Rattle.warg_log.specs.Tree.{root_within, front_of, front_within}
use Rattle.warg_log.specs.Nodes.{height_of, height_within, place_of}
use Rattle.warg_tiles.proofs.premises.tile_place_is_needed.Goals as goal

pub returns : goal.returns
unfolding root_within front_of front_within height_of height_within place_of
returns c =
    λ H law. elim (law (zeros ∷ []) (record { level = 0; number = 1; width = 1 }) (zeros ∷ []) 0 (refl, tt)
    (refl, tt) refl refl) [
      | inl same ↦ let first = same 0 (omega arith) in absurd cc
      | inr c ↦ no_row c.placed
    ]
