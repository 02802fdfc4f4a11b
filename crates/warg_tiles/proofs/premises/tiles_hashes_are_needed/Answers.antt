use Rattle.std.proofs.Common.{inl, inr, refl, arith}
use Rattle.warg_crypto.proofs.ForCallers.{ones}
use Rattle.warg_tiles.proofs.PremiseLemmas.{tell, four, other_four, evaluation_apart}
use Rattle.warg_log.specs.Tree.{root_within, front_of, front_within}
use Rattle.warg_log.specs.Nodes.{height_of, height_within, place_of}
use Rattle.warg_log.specs.Cut.{way_within, top_of}
use Rattle.warg_log.specs.Walks.{read_on}
use Rattle.warg_tiles.proofs.premises.tiles_hashes_are_needed.Goals as goal

pub returns : goal.returns
unfolding root_within front_of front_within height_of height_within place_of way_within top_of read_on
returns c =
    λ law. elim (law tell four other_four 0 ones (refl, (refl, (refl, (refl, tt))))
    ((refl, (refl, (refl, (refl, tt)))), tt) (omega arith) refl) [
      | inl same ↦ let fifth = same.1.0 in absurd cc
      | inr c ↦ evaluation_apart _ _ c.placed c.collide
    ]
