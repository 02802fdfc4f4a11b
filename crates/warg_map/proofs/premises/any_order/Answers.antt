use Rattle.std.proofs.Common.{[], ◌∷◌, Some, refl, sym, ap, ◌∙◌, arith}
use Rattle.std.specs.FinMap.{get, insert, empty, get-empty}
use Rattle.warg_map.specs.Bits.{key_bits}
use Rattle.warg_map.specs.Sparse.{bits_cmp, inserted}
use Rattle.warg_map.proofs.SparseTree.{get-insert_same}
use Rattle.warg_map.proofs.PremiseLemmas.{own, SameDigest}
use Rattle.warg_map.proofs.premises.any_order.Goals as goal

pub returns-clause-permutation : goal.returns-clause-permutation
unfolding inserted
returns-clause-permutation c = λ law. cc (sym (get-empty bits_cmp (key_bits own [])) ∙ ap (λ m. get m (key_bits own []))
    (law own empty [] (([], []) ∷ []) (λ i j d below within. absurd (omega arith)))
    ∙ get-insert_same empty (key_bits own []) (0 ∷ []))

pub returns-clause-distinct : goal.returns-clause-distinct
unfolding inserted
returns-clause-distinct c = λ law. let bits = key_bits own [] in let first = insert empty bits (0 ∷ []) in
    let second = insert empty bits (0 ∷ 0 ∷ []) in let held : SameDigest (Some (0 ∷ 0 ∷ [])) (Some (0 ∷ [])) =
    sym (get-insert_same first bits (0 ∷ 0 ∷ []))
    ∙ ap (λ m. get m bits) (law own empty (([], []) ∷ ([], 0 ∷ []) ∷ []) (([], 0 ∷ []) ∷ ([], []) ∷ [])
    (record { moves = (0, 1) ∷ []; below = (omega arith, omega arith, tt); is = refl }))
    ∙ get-insert_same second bits (0 ∷ []) in cc
