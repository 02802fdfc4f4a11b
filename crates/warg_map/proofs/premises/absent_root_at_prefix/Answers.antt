use Rattle.std.proofs.Common.{[], ◌∷◌, Some, sym, ◌∙◌}
use Rattle.std.specs.FinMap.{empty}
use Rattle.warg_crypto.specs.EmptyTrees.{empty_root}
use Rattle.warg_map.specs.ProofValue.{proof_value}
use Rattle.warg_map.specs.Sparse.{root_of_levels}
use Rattle.warg_map.proofs.PremiseLemmas.{own, one_bit, all_bits, with_top, beside_proof, beside_root, seven, prefix_256, peers_matter}
use Rattle.warg_map.proofs.premises.absent_root_at_prefix.Goals as goal

pub returns-clause-bits : goal.returns-clause-bits
unfolding proof_value empty_root root_of_levels
returns-clause-bits c = λ law. cc (law own seven [] one_bit
    (Some (7 ∷ []) ∷ []) (beside_proof own (7 ∷ [])) ∙ beside_root)

pub returns-clause-proof : goal.returns-clause-proof
returns-clause-proof c = λ law. peers_matter (empty_root own 0) (law own empty [] all_bits (with_top 5) prefix_256
    ∙ sym (law own empty [] all_bits (with_top 6) prefix_256))
