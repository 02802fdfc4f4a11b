-- One turn on the way to a leaf, or to the end of the old leaves.
use Rattle.std.proofs.Common.{◌≡◌, ◌⊎◌, inl, inr, Bool, true, false, ℕ, ◌-◌, ◌<◌, ◌≤◌, List, [], ◌∷◌, length, reverse, Option, Some, None, refl, sym, ap, ◌∙◌, arith}
use Rattle.std.proofs.lemmas.Bool.{cases_lt, cases_Bool, lt-leb, le-leb, lt-ltb, le-ltb, eqb-true, ne_eqb}
use Rattle.std.proofs.lemmas.Bool.Decides.{nat_tests}
use Rattle.std.proofs.lemmas.List.{length-append}
use Rattle.warg_crypto.specs.Collisions.{SomeCollision}
use Rattle.warg_crypto.specs.Tree.{branch_input, input_beside}
use Rattle.warg_crypto.proofs.ForCallers.{same_or_not, branch_parts}
use Rattle.warg_log.specs.Tree.{front_of}
use Rattle.warg_log.specs.Cut.{joined}
use Rattle.warg_paths.specs.Paths.{inclusion_root, root_down, roots_down, grown, both_over}
use Rattle.warg_paths.specs.Ways.{IsOnWay, turn_input, new_turn_input, is_right, leaf_in, count_in, start_in}
use Rattle.warg_paths.specs.Ways.IsOnWay.{front, rest}

-- two digests, each beside one of the other length, of one digest at a branch are the same, and so are those beside
-- them, or they collide where they stand
pub turns_meet : (H : List ℕ → List ℕ) (P : List ℕ → List ℕ → Type 0) (right : Bool) {t x u y root : List ℕ}
    → length t ≡ length u → H (input_beside right t x) ≡ root → H (input_beside right u y) ≡ root
    → P (input_beside right t x) (input_beside right u y) → ((t ≡ u) × (x ≡ y)) ⊎ SomeCollision H P
turns_meet H P right {t} {x} {u} {y} size first second placed =
    elim (same_or_not (input_beside right t x) (input_beside right u y)) [
      | inl same ↦ inl (parts right size same)
      | inr differ ↦ inr (record {
        first = _;
        second = _;
        collide = record { differ = differ; same = first ∙ sym second };
        placed = placed;
      })
    ]
  where
    parts : (right : Bool) {t x u y : List ℕ} → length t ≡ length u → input_beside right t x ≡ input_beside right u y
        → (t ≡ u) × (x ≡ y)
    parts true {t} {x} {u} {y} size same = branch_parts t x u y size same
    parts false {t} {x} {u} {y} size same =
        let turned = branch_parts x t y u (omega (arith, length-append x t, length-append y u, ap length same)) same in
        (turned.1, turned.0)

-- a path that leads somewhere, from a place that is there
pub leads_inside : (H : List ℕ → List ℕ) (m n : ℕ) (x root : List ℕ) (path : List (List ℕ))
    → inclusion_root H m n x path ≡ Some root → (m < n) × (root_down H m n x (reverse path) ≡ Some root)
leads_inside H m n x root path is = grind (arith, nat_tests)

pub inside_leads : (H : List ℕ → List ℕ) (m n : ℕ) (x : List ℕ) (path : List (List ℕ)) → m < n
    → inclusion_root H m n x path ≡ root_down H m n x (reverse path)
inside_leads H m n x path lt = rw (lt-ltb m n lt) refl

-- of more leaves, the root is the branch over that of the part which has the leaf and the topmost digest
pub front_leads : (H : List ℕ → List ℕ) (m n : ℕ) (x top : List ℕ) (below : List (List ℕ)) → 1 < n → m < front_of n
    → root_down H m n x (top ∷ below) ≡ joined H (root_down H m (front_of n) x below) (Some top)
unfolding root_down
front_leads H m n x top below more lt = rw (lt-leb n 1 more, lt-ltb m (front_of n) lt) refl

pub rest_leads : (H : List ℕ → List ℕ) (m n : ℕ) (x top : List ℕ) (below : List (List ℕ)) → 1 < n → front_of n ≤ m
    → root_down H m n x (top ∷ below) ≡ joined H (Some top) (root_down H (m - front_of n) (n - front_of n) x below)
unfolding root_down
rest_leads H m n x top below more le = rw (lt-leb n 1 more, le-ltb m (front_of n) le) refl

-- where no digests are left, there is one leaf, and where some are, more
pub at_leaf : (H : List ℕ → List ℕ) (m n : ℕ) (x root : List ℕ) → root_down H m n x [] ≡ Some root
    → (n ≡ 1) × (x ≡ root)
unfolding root_down
at_leaf H m n x root is = grind (arith, cases_Bool, eqb-true)

more_leaves : (H : List ℕ → List ℕ) (m n : ℕ) (x root top : List ℕ) (below : List (List ℕ))
    → root_down H m n x (top ∷ below) ≡ Some root → 1 < n
unfolding root_down
more_leaves H m n x root top below is = elim (cases_lt 1 n) [
  | inl more ↦ more
  | inr few ↦ absurd (let none = rw (le-leb n 1 few) at is in cc)
]

pub one_or_more : (H : List ℕ → List ℕ) (m n : ℕ) (x y root other top : List ℕ) (below : List (List ℕ))
    → root_down H m n x [] ≡ Some root → root_down H m n y (top ∷ below) ≡ Some other → ⊥
one_or_more H m n x y root other top below is other_is =
    omega (arith, (at_leaf H m n x root is).0, more_leaves H m n y other top below other_is)

joined_left : (H : List ℕ → List ℕ) (left : Option (List ℕ)) (right root : List ℕ) → joined H left (Some right)
    ≡ Some root → (l : List ℕ) × (left ≡ Some l) × (H (branch_input l right) ≡ root)
joined_left H (Some l) right root is = (l, refl, cc)
joined_left H None right root is = absurd cc

joined_right : (H : List ℕ → List ℕ) (left : List ℕ) (right : Option (List ℕ)) (root : List ℕ)
    → joined H (Some left) right ≡ Some root → (r : List ℕ) × (right ≡ Some r) × (H (branch_input left r) ≡ root)
joined_right H left (Some r) root is = (r, refl, cc)
joined_right H left None root is = absurd cc

-- a path leads by way of the part that has the leaf: the root there, and what is taken here
pub leads_up : (H : List ℕ → List ℕ) (m n : ℕ) (x top l : List ℕ) (below : List (List ℕ)) → 1 < n
    → root_down H (leaf_in m n) (count_in m n) x below ≡ Some l → root_down H m n x (top ∷ below)
    ≡ Some (H (input_beside (is_right m n) top l))
leads_up H m n x top l below more led = grind (arith, cases_lt, lt-leb, front_leads, le-leb, rest_leads)

pub taken_at : (H : List ℕ → List ℕ) (m n : ℕ) (x top l : List ℕ) (below : List (List ℕ))
    → root_down H (leaf_in m n) (count_in m n) x below ≡ Some l → turn_input H x m n top below
    ≡ Some (input_beside (is_right m n) top l)
taken_at H m n x top l below led = grind (arith, cases_lt, lt-leb, lt-ltb, le-leb, le-ltb)

pub led_down : (H : List ℕ → List ℕ) (m n : ℕ) (x root top : List ℕ) (below : List (List ℕ))
    → root_down H m n x (top ∷ below) ≡ Some root → (digest : List ℕ) × (1 < n)
    × (root_down H (leaf_in m n) (count_in m n) x below ≡ Some digest)
    × (H (input_beside (is_right m n) top digest) ≡ root)
led_down H m n x root top below is = grind (
  arith,
  more_leaves,
  cases_lt,
  joined_left,
  front_leads,
  lt-leb,
  joined_right,
  rest_leads,
  le-leb,
)

-- the way goes on in the part that has the leaf
pub way_in : {m₀ a₀ n₀ m a n : ℕ} {ds₀ below : List (List ℕ)} {top : List ℕ} → 1 < n
    → IsOnWay m₀ a₀ n₀ ds₀ m a n (top ∷ below) → IsOnWay m₀ a₀ n₀ ds₀ (leaf_in m n) (start_in m a n)
    (count_in m n) below
way_in {m = m} {a} {n} {below = below} {top} more way = elim (cases_lt m (front_of n)) [
  | inl lt ↦ rw (lt-leb (front_of n) m lt) (front m a n top below way more lt)
  | inr le ↦ rw (le-leb (front_of n) m le) (rest m a n top below way more le)
]

-- two roots are the same one by one
pub pair_parts : (p q : List ℕ × List ℕ) → Some p ≡ Some q → (p.0 ≡ q.0) × (p.1 ≡ q.1)
pair_parts p q e = (cc, cc)

-- where not all leaves are old, no roots are there without digests, and else those of a part
pub no_roots : (H : List ℕ → List ℕ) (known : Option (List ℕ)) (m n : ℕ) (roots : List ℕ × List ℕ) → m < n
    → roots_down H known m n [] ≡ Some roots → ⊥
unfolding roots_down
no_roots H known m n roots more is = let none = rw (ne_eqb m n (λ e. omega arith)) at is in absurd cc

pub grown_is : (H : List ℕ → List ℕ) (below : Option (List ℕ × List ℕ)) (top o w : List ℕ) → grown H below top
    ≡ Some (o, w) → (x : List ℕ) × (below ≡ Some (o, x)) × (H (branch_input x top) ≡ w)
grown_is H None top o w is = absurd cc
grown_is H (Some (p, x)) top o w is =
    let both = pair_parts (p, H (branch_input x top)) (o, w) is in (x, ap (λ z. Some (z, x)) both.0, both.1)

pub over_is : (H : List ℕ → List ℕ) (below : Option (List ℕ × List ℕ)) (top o w : List ℕ) → both_over H top below
    ≡ Some (o, w)
    → (y : List ℕ) × (x : List ℕ) × (below ≡ Some (y, x)) × (H (branch_input top y) ≡ o) × (H (branch_input top x) ≡ w)
over_is H None top o w is = absurd cc
over_is H (Some (y, x)) top o w is = grind (arith, pair_parts)

-- at a range, not all of whose leaves are old
module _ (H : List ℕ → List ℕ) (known : Option (List ℕ)) (m n : ℕ) (top : List ℕ) (below : List (List ℕ))
    (more : m < n) where
  pub front_turn : m ≤ front_of n → roots_down H known m n (top ∷ below)
      ≡ grown H (roots_down H known m (front_of n) below) top
  unfolding roots_down
  front_turn low = rw (ne_eqb m n (λ e. omega arith), le-leb m (front_of n) low) refl

  pub rest_turn : front_of n < m → roots_down H known m n (top ∷ below)
      ≡ both_over H top (roots_down H None (m - front_of n) (n - front_of n) below)
  unfolding roots_down
  rest_turn high = rw (ne_eqb m n (λ e. omega arith), lt-leb m (front_of n) high) refl

-- what is taken at a range for the new root
pub front_takes : (H : List ℕ → List ℕ) (known : Option (List ℕ)) (m n : ℕ) (top : List ℕ) (below : List (List ℕ))
    (o x : List ℕ) → m ≤ front_of n → roots_down H known m (front_of n) below ≡ Some (o, x)
    → new_turn_input H known m n top below ≡ Some (branch_input x top)
front_takes H known m n top below o x le is = rw (le-leb m (front_of n) le, is) refl

pub rest_takes : (H : List ℕ → List ℕ) (known : Option (List ℕ)) (m n : ℕ) (top : List ℕ) (below : List (List ℕ))
    (o x : List ℕ) → front_of n < m → roots_down H None (m - front_of n) (n - front_of n) below ≡ Some (o, x)
    → new_turn_input H known m n top below ≡ Some (branch_input top x)
rest_takes H known m n top below o x lt is = rw (lt-leb m (front_of n) lt, is) refl
