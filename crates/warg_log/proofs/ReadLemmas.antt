-- The nodes that an evaluation reads: whether it has a root, and where two data have one.
use Rattle.std.proofs.Common.{◌↔◌, ℕ, Bool, true, false, List, [], ◌∷◌, ◌++◌, Option, Some, None, refl, IsSome, ◌≡◌, ◌<◌, arith, ⊎_elim}
use Rattle.warg_log.specs.Cut.{joined, Way, at_target, at_node, at_parts, top_of, old_root}
use Rattle.warg_log.specs.Walks.{read_on, IsKnown, needed, needed_between}
use Rattle.std.specs.List.{AllByRecursion}
use Rattle.std.proofs.lemmas.Bool.{eq-eqb, cases_eq}
use Rattle.warg_log.specs.Nodes.{balanced_roots}
use Rattle.warg_log.specs.Consistency.{root_to, agreed_root, new_root_of, consistency}
use Rattle.warg_protobuf.proofs.ForCallers.{all_parts, all_flat}
use Rattle.warg_log.proofs.BalancedLemmas.{map_same}
use Rattle.warg_log.proofs.ClimbLemmas.{old_root-joined}

-- the cut root is there exactly where each needed node's digest is
pub known_append : (F : ℕ → Option (List ℕ)) (xs ys : List ℕ) → IsKnown F (xs ++ ys) ↔ (IsKnown F xs × IsKnown F ys)
known_append F [] ys = ((λ h. (tt, h)), (λ h. h.1))
known_append F (x ∷ xs) ys = grind (arith, known_append F xs ys)

known_at : (F : ℕ → Option (List ℕ)) (misses : Bool) (l r : Way) → IsKnown F (read_on (at_parts misses l r)) ↔
    (IsKnown F (read_on l) × IsKnown F (read_on r))
unfolding read_on
known_at F true l r = grind (arith, known_append F (read_on r) (read_on l))
known_at F false l r = known_append F (read_on l) (read_on r)

pub joined_known : (H : List ℕ → List ℕ) (p q : Option (List ℕ)) → IsSome (joined H p q) ↔ (IsSome p × IsSome q)
joined_known H (Some l) (Some m) = ((λ _. (refl, refl)), (λ _. refl))
joined_known H (Some l) None = ((λ i. (refl, i)), (λ i. i.1))
joined_known H None q = ((λ i. absurd (cc)), (λ i. i.0))

pub needed_exactly : (H : List ℕ → List ℕ) (F : ℕ → Option (List ℕ)) (x : List ℕ) (way : Way)
    → (IsKnown F (read_on way) → IsSome (top_of H F x way)) × (IsSome (top_of H F x way) → IsKnown F (read_on way))
unfolding read_on top_of
needed_exactly H F x at_target = ((λ _. refl), (λ _. tt))
needed_exactly H F x (at_node t) = ((λ h. h.0), (λ h. (h, tt)))
needed_exactly H F x (at_parts misses left right) = grind
    (arith, needed_exactly H F x left, needed_exactly H F x right, known_at F misses left right)

-- F and G agree on all that is read
module _ (H : List ℕ → List ℕ) (F G : ℕ → Option (List ℕ)) where
  abbrev AllSame : List ℕ → Type 0
  AllSame = AllByRecursion (λ y. F y ≡ G y)

  pub same_on : (x : List ℕ) (way : Way) → AllSame (read_on way) → top_of H F x way ≡ top_of H G x way
  unfolding read_on top_of
  same_on x at_target all = refl
  same_on x (at_node t) all = all.0
  same_on x (at_parts true left right) all = let p = all_parts _ (read_on right) _ all in
      rw (same_on x left p.1, same_on x right p.0) refl
  same_on x (at_parts false left right) all = let p = all_parts _ (read_on left) _ all in
      rw (same_on x left p.0, same_on x right p.1) refl

  -- an old root reads the balanced roots
  same_old : (m : ℕ) → 0 < m → AllSame (balanced_roots m) → old_root H F m ≡ old_root H G m
  same_old m some all = grind (arith, old_root-joined, map_same)

  -- the nodes lead to the same roots
  abbrev LeadAlike : ℕ → List ℕ → Type 0
  LeadAlike n = AllByRecursion (λ t. root_to H F n t ≡ root_to H G n t)

  same_to : (n t : ℕ) → AllSame (t ∷ needed t n) → root_to H F n t ≡ root_to H G n t
  same_to n t all = grind (arith, same_on)

  same_agreed : (n : ℕ) (agreed : List ℕ) (ts : List ℕ) → LeadAlike n ts → agreed_root H F n agreed ts
      ≡ agreed_root H G n agreed ts
  same_agreed n agreed [] all = refl
  same_agreed n agreed (t ∷ ts) all = rw (all.0, same_agreed n agreed ts all.1) refl

  same_new : (n : ℕ) (ts : List ℕ) → LeadAlike n ts → new_root_of H F n ts ≡ new_root_of H G n ts
  same_new n [] all = refl
  same_new n (t ∷ ts) all = grind (arith, same_agreed)

  pub same_consistency : (m n : ℕ) → AllSame (needed_between m n) → consistency H F m n ≡ consistency H G m n
  same_consistency m n all = ⊎_elim
      (λ none. rw (eq-eqb m 0 none) refl)
      (λ some. rw (
        same_new n (balanced_roots m)
            (all_flat (λ y. F y ≡ G y) (λ t. t ∷ needed t n) (λ t. root_to H F n t ≡ root_to H G n t) (same_to n)
            (balanced_roots m) all),
        same_old m (omega arith)
            (all_flat (λ y. F y ≡ G y) (λ t. t ∷ needed t n) (λ y. F y ≡ G y) (λ t h. h.0) (balanced_roots m) all),
      ) refl)
      (cases_eq m 0)

-- Data that hold more lead to the same digest.
joined_more : (H : List ℕ → List ℕ) (l m p q : Option (List ℕ)) → ((x : List ℕ) → l ≡ Some x → p ≡ Some x)
    → ((x : List ℕ) → m ≡ Some x → q ≡ Some x) → (d : List ℕ) → joined H l m ≡ Some d → joined H p q ≡ Some d
joined_more H (Some l) (Some m) p q left right d is = rw (left l refl, right m refl) is
joined_more H (Some l) None p q left right d is = absurd (cc)
joined_more H None m p q left right d is = absurd (cc)

pub top_more : (H : List ℕ → List ℕ) (F G : ℕ → Option (List ℕ)) (x : List ℕ)
    → ((y : ℕ) (d : List ℕ) → F y ≡ Some d → G y ≡ Some d) → (way : Way) (d : List ℕ) → top_of H F x way ≡ Some d
    → top_of H G x way ≡ Some d
unfolding top_of
top_more H F G x more at_target d is = is
top_more H F G x more (at_node t) d is = more t d is
top_more H F G x more (at_parts misses left right) d is = search
    (joined_more, top_more H F G x more left, top_more H F G x more right)
