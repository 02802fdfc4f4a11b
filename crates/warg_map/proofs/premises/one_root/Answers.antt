use Rattle.std.proofs.Common.{true, [], ◌∷◌, sym, ◌∙◌}
use Rattle.std.specs.FinMap.{insert, empty}
use Rattle.warg_map.proofs.PremiseLemmas.{own, below, all_bits, bits_256, leaf_matters, own_root}
use Rattle.warg_map.proofs.premises.one_root.Goals as goal

pub returns : goal.returns
returns c = λ law. cc (leaf_matters _ _ _ all_bits (own_root own true below [] bits_256
    ∙ law own (insert empty all_bits []) (insert empty all_bits (0 ∷ []))
    ∙ sym (own_root own true below (0 ∷ []) bits_256)))
