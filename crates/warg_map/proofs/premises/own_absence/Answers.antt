use Rattle.std.proofs.Common.{true, [], sym, ◌∙◌}
use Rattle.std.specs.FinMap.{insert, empty}
use Rattle.warg_crypto.specs.EmptyTrees.{empty_root}
use Rattle.warg_map.proofs.PremiseLemmas.{own, below, all_bits, bits_256, with_top, lone_empty, nothing_empty, no_level, peers_matter, leaf_matters, own_root}
use Rattle.warg_map.proofs.premises.own_absence.Goals as goal

pub returns-clause-bits : goal.returns-clause-bits
returns-clause-bits c = λ law. no_level (law own empty [] [] [] (nothing_empty own [])).1

pub returns-clause-proof : goal.returns-clause-proof
returns-clause-proof c = λ law. peers_matter [] ((law own empty all_bits (with_top 5) [] bits_256).1
    ∙ sym (law own empty all_bits (with_top 6) [] bits_256).1)

pub returns-clause-empty : goal.returns-clause-empty
unfolding empty_root
returns-clause-empty c = λ law. let m = insert empty all_bits [] in cc
    (leaf_matters _ _ _ all_bits (law own m all_bits _ [] bits_256 (lone_empty own true below [])
    ∙ sym (own_root own true below [] bits_256)))
