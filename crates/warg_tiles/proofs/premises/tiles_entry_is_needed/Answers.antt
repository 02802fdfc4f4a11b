use Rattle.std.proofs.Common.{inl, inr, [], ◌∷◌, refl, arith}
use Rattle.warg_crypto.proofs.ForCallers.{zeros}
use Rattle.warg_tiles.proofs.PremiseLemmas.{leaf_tile, part_of_none}
use Rattle.warg_log.specs.Tree.{root_within, front_of, front_within}
use Rattle.warg_log.specs.Nodes.{height_of, height_within, place_of}
use Rattle.warg_log.specs.Cut.{way_within, top_of}
use Rattle.warg_log.specs.Walks.{read_on}
use Rattle.warg_tiles.proofs.premises.tiles_entry_is_needed.Goals as goal

pub returns : goal.returns
unfolding root_within front_of front_within height_of height_within place_of way_within top_of read_on
returns c = λ H gives law. elim (law [] ((leaf_tile 1, H [] ∷ []) ∷ []) 0 zeros tt (((gives []).has_32, tt), tt) refl) [
  | inl same ↦ let first = same.0 in absurd cc
  | inr c ↦ let none = part_of_none c.placed.part in let more = c.placed.more in omega arith
]
