use Rattle.std.proofs.Common.{true, [], ◌∷◌, sym, ◌∙◌}
use Rattle.std.specs.FinMap.{insert, empty}
use Rattle.warg_map.proofs.PremiseLemmas.{own, one_bit, lone, below, all_bits, bits_256, with_top, lone_proof, one_level, peers_matter, leaf_matters}
use Rattle.warg_map.proofs.premises.own_proof.Goals as goal

pub returns-clause-bits : goal.returns-clause-bits
returns-clause-bits c = λ law. one_level [] (law own (lone []) one_bit _ [] (lone_proof own true [] [])).1

pub returns-clause-proof : goal.returns-clause-proof
returns-clause-proof c = λ law. peers_matter [] ((law own empty all_bits (with_top 5) [] bits_256).1
    ∙ sym (law own empty all_bits (with_top 6) [] bits_256).1)

pub returns-clause-held : goal.returns-clause-held
returns-clause-held c = λ law. let m = insert empty all_bits [] in let p = lone_proof own true below [] in
    cc (leaf_matters _ _ _ all_bits ((law own m all_bits _ [] bits_256 p).0
    ∙ sym (law own m all_bits _ (0 ∷ []) bits_256 p).0))
