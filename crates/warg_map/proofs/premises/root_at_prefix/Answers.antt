use Rattle.std.proofs.Common.{true, [], ◌∷◌, Some, sym, ◌∙◌}
use Rattle.std.specs.FinMap.{insert, empty}
use Rattle.warg_crypto.specs.EmptyTrees.{empty_root}
use Rattle.warg_map.specs.ProofValue.{proof_value}
use Rattle.warg_map.proofs.SparseTree.{get-insert_same}
use Rattle.warg_map.proofs.PremiseLemmas.{own, one_bit, below, all_bits, with_top, lone_proof, seven, prefix_256, both, both_proof, both_root, peers_matter, leaf_matters}
use Rattle.warg_map.proofs.premises.root_at_prefix.Goals as goal

pub returns-clause-bits : goal.returns-clause-bits
unfolding proof_value empty_root
returns-clause-bits c = λ law. cc (law own both [] one_bit
    (Some (7 ∷ []) ∷ []) [] (both_proof own) (get-insert_same seven one_bit []) ∙ both_root)

pub returns-clause-proof : goal.returns-clause-proof
returns-clause-proof c = λ law. let m = insert empty all_bits [] in let held = get-insert_same empty all_bits [] in
    peers_matter [] (law own m [] all_bits (with_top 5) [] prefix_256 held
    ∙ sym (law own m [] all_bits (with_top 6) [] prefix_256 held))

pub returns-clause-held : goal.returns-clause-held
returns-clause-held c = λ law. let m = insert empty all_bits [] in let p = lone_proof own true below [] in
    cc (leaf_matters _ _ _ all_bits (law own m [] all_bits _ [] prefix_256 p
    ∙ sym (law own m [] all_bits _ (0 ∷ []) prefix_256 p)))
