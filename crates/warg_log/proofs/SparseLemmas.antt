-- Looking up a node's digest.
use Rattle.std.proofs.Common.{◌≡◌, ℕ, suc, zero, ◌<◌, List, [], ◌∷◌, length, get_or, Ok, Err, Some, None, refl, arith}
use Rattle.std.specs.Ordering.{nat_cmp, ordering_index}
use Rattle.std.specs.List.Sorted.{IsBinarySearchResult, IsNonDecreasingBy}
use Rattle.std.proofs.lemmas.List.Elements.{All-from_recursion}
use Rattle.std.proofs.lemmas.Bool.Decides.{nat_tests}
use Rattle.std.proofs.lemmas.Bool.{eq-eqb, ne_eqb}
use Rattle.warg_protobuf.proofs.ForCallers.{all_weaken}
use Rattle.warg_log.specs.declared.node.Node.{Node}
use Rattle.warg_log.specs.Sparse.{Pairs, IsAscending, held_digest}

-- the numbers ascend by index
pub ascends : (ps : Pairs) (i j : ℕ) (d : Node × List ℕ) → IsAscending ps → i < j → j < length ps
    → (get_or ps i d).0.0 < (get_or ps j d).0.0
ascends [] i j d up lt in_range = absurd (omega arith)
ascends (p ∷ ps) i zero d up lt in_range = absurd (omega arith)
ascends (p ∷ ps) zero (suc j) d up lt in_range = All-from_recursion (λ (q : Node × List ℕ). p.0.0 < q.0.0) ps up.0 j d
    (omega arith)
ascends (p ∷ ps) (suc i) (suc j) d up lt in_range = omega (arith, ascends ps i j d up.1)

-- so comparisons with a number rise
comparisons_rise : (ps : Pairs) (x : ℕ) → IsAscending ps
    → IsNonDecreasingBy (λ (p : Node × List ℕ). ordering_index (nat_cmp p.0.0 x)) ps
comparisons_rise ps x up = grind (arith, ascends, nat_tests)

-- a number that stands at a place, and one that stands at none
found_at : (ps : Pairs) (x i : ℕ) (d : Node × List ℕ) → IsAscending ps → i < length ps → (get_or ps i d).0.0 ≡ x
    → held_digest ps x ≡ Some (get_or ps i d).1
found_at [] x i d up lt is = absurd (omega arith)
found_at (p ∷ ps) x zero d up lt is = rw (eq-eqb p.0.0 x is) refl
found_at (p ∷ ps) x (suc i) d up lt is =
    let less = All-from_recursion (λ (q : Node × List ℕ). p.0.0 < q.0.0) ps up.0 i d (omega arith) in
    grind (arith, found_at ps x i d up.1)

absent : (ps : Pairs) (x : ℕ) → ((i : ℕ) (d : Node × List ℕ) → i < length ps → (get_or ps i d).0.0 ≡ x → ⊥)
    → held_digest ps x ≡ None
absent [] x none = refl
absent (p ∷ ps) x none = rw (ne_eqb p.0.0 x (none 0 p (omega arith)))
    (absent ps x (λ i d lt. none (suc i) d (omega arith)))

pub searched_ok : (ps : Pairs) (x i : ℕ) (d : Node × List ℕ) → IsAscending ps → i < length ps
    → IsBinarySearchResult (λ (p : Node × List ℕ). nat_cmp p.0.0 x) ps (Ok i)
    → held_digest ps x ≡ Some (get_or ps i d).1
searched_ok ps x i d up lt equal = grind (arith, found_at)

pub searched_err : (ps : Pairs) (x i : ℕ) → IsAscending ps
    → IsBinarySearchResult (λ (p : Node × List ℕ). nat_cmp p.0.0 x) ps (Err i) → held_digest ps x ≡ None
searched_err ps x i up parted = grind (arith, comparisons_rise, absent)

-- numbers of which each lies below the next one ascend
pub ascends_by_steps : (ps : Pairs)
    → ((k : ℕ) (d : Node × List ℕ) → suc k < length ps → (get_or ps k d).0.0 < (get_or ps (suc k) d).0.0)
    → IsAscending ps
ascends_by_steps [] up = tt
ascends_by_steps (p ∷ []) up = (tt, tt)
ascends_by_steps (p ∷ q ∷ ps) up =
    let rest = ascends_by_steps (q ∷ ps) (λ k d lt. up (suc k) d (omega arith)) in
    let first : p.0.0 < q.0.0 = up 0 p (omega arith) in
    grind (arith, all_weaken)
