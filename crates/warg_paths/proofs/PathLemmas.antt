-- How the roots by a path are reckoned, from the top down.
use Rattle.std.proofs.Common.{◌≡◌, ℕ, ◌-◌, ◌<◌, ◌≤◌, List, [], ◌∷◌, ◌++◌, length, reverse, Option, Some, None, refl, sym, ap, ◌∙◌, arith}
use Rattle.std.proofs.lemmas.Bool.{eq-eqb, ne_eqb}
use Rattle.std.proofs.lemmas.List.{reverse-append, length-reverse}
use Rattle.warg_log.specs.Tree.{front_of}
use Rattle.warg_log.specs.Cut.{joined}
use Rattle.warg_paths.specs.Paths.{root_down, roots_down, one_root, twice, grown, both_over}
use Rattle.warg_paths.proofs.TurnLemmas.{front_leads, rest_leads, front_turn, rest_turn}

-- of one leaf, no digests lead to its own
pub root_one : (H : List ℕ → List ℕ) (m : ℕ) (x : List ℕ) (path : List (List ℕ)) → length path ≡ 0
    → root_down H m 1 x (reverse path) ≡ Some x
unfolding root_down
root_one H m x [] none = refl
root_one H m x (top ∷ above) none = absurd (omega arith)

-- of one leaf, any digests lead nowhere
pub root_long : (H : List ℕ → List ℕ) (m : ℕ) (x : List ℕ) (path : List (List ℕ)) → (length path ≡ 0 → ⊥)
    → root_down H m 1 x (reverse path) ≡ None
unfolding root_down
root_long H m x path some = down (reverse path) (λ none. some (sym (length-reverse path) ∙ none))
  where
    down : (hs : List (List ℕ)) → (length hs ≡ 0 → ⊥) → root_down H m 1 x hs ≡ None
    down [] some = absurd (some refl)
    down (top ∷ below) some = refl

-- of more leaves, no digests lead nowhere
pub root_short : (H : List ℕ → List ℕ) (m n : ℕ) (x : List ℕ) (path : List (List ℕ)) → 1 < n → length path ≡ 0
    → root_down H m n x (reverse path) ≡ None
unfolding root_down
root_short H m n x [] more none = rw (ne_eqb n 1 (λ e. omega arith)) refl
root_short H m n x (top ∷ above) more none = absurd (omega arith)

-- the leaf is in the first part
pub root_front : (H : List ℕ → List ℕ) (m n : ℕ) (x top : List ℕ) (below : List (List ℕ)) → 1 < n → m < front_of n
    → root_down H m n x (reverse (below ++ top ∷ [])) ≡ joined H (root_down H m (front_of n) x (reverse below))
    (Some top)
root_front H m n x top below more front = rw (reverse-append below (top ∷ []))
    (front_leads H m n x top (reverse below) more front)

-- the leaf is in the rest
pub root_rest : (H : List ℕ → List ℕ) (m n : ℕ) (x top : List ℕ) (below : List (List ℕ)) → 1 < n → front_of n ≤ m
    → root_down H m n x (reverse (below ++ top ∷ [])) ≡ joined H (Some top)
    (root_down H (m - front_of n) (n - front_of n) x (reverse below))
root_rest H m n x top below more rest = rw (reverse-append below (top ∷ []))
    (rest_leads H m n x top (reverse below) more rest)

-- the one root is the same from below and from the top
pub one_turned : (old : Option (List ℕ)) (path : List (List ℕ)) → one_root old (reverse path) ≡ one_root old path
one_turned old [] = refl
one_turned old (h ∷ []) = refl
one_turned old (h ∷ k ∷ hs) = two_or_more old (reverse (h ∷ k ∷ hs)) (omega (arith, length-reverse (h ∷ k ∷ hs)))
    ∙ sym (two_or_more old (h ∷ k ∷ hs) (omega arith))
  where
    two_or_more : (old : Option (List ℕ)) (hs : List (List ℕ)) → 1 < length hs → one_root old hs ≡ None
    two_or_more old [] more = absurd (omega arith)
    two_or_more old (h ∷ []) more = absurd (omega arith)
    two_or_more (Some r) (h ∷ k ∷ hs) more = refl
    two_or_more None (h ∷ k ∷ hs) more = refl

-- both lengths are one, and the path is read
pub both_one : (H : List ℕ → List ℕ) (old : Option (List ℕ)) (n : ℕ) (path : List (List ℕ))
    → roots_down H old n n (reverse path) ≡ twice (one_root old path)
unfolding roots_down
both_one H old n path = down (reverse path) ∙ ap twice (one_turned old path)
  where
    down : (hs : List (List ℕ)) → roots_down H old n n hs ≡ twice (one_root old hs)
    down [] = rw (eq-eqb n n refl) refl
    down (h ∷ hs) = rw (eq-eqb n n refl) refl

-- lengths that differ need a digest
pub both_short : (H : List ℕ → List ℕ) (old : Option (List ℕ)) (m n : ℕ) (path : List (List ℕ)) → m < n
    → length path ≡ 0 → roots_down H old m n (reverse path) ≡ None
unfolding roots_down
both_short H old m n [] less none = rw (ne_eqb m n (λ e. omega arith)) refl
both_short H old m n (top ∷ above) less none = absurd (omega arith)

-- the old log ends in the first part
pub both_front : (H : List ℕ → List ℕ) (old : Option (List ℕ)) (m n : ℕ) (top : List ℕ) (below : List (List ℕ)) → m < n
    → m ≤ front_of n
    → roots_down H old m n (reverse (below ++ top ∷ [])) ≡ grown H (roots_down H old m (front_of n) (reverse below)) top
both_front H old m n top below less front = rw (reverse-append below (top ∷ []))
    (front_turn H old m n top (reverse below) less front)

-- the old log ends in the rest
pub both_rest : (H : List ℕ → List ℕ) (old : Option (List ℕ)) (m n : ℕ) (top : List ℕ) (below : List (List ℕ)) → m < n
    → front_of n < m
    → roots_down H old m n (reverse (below ++ top ∷ []))
    ≡ both_over H top (roots_down H None (m - front_of n) (n - front_of n) (reverse below))
both_rest H old m n top below less rest = rw (reverse-append below (top ∷ []))
    (rest_turn H old m n top (reverse below) less rest)
