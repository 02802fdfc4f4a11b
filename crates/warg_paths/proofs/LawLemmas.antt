-- Where paths lead.
use Rattle.std.proofs.Common.{◌≡◌, inl, inr, ℕ, zero, suc, ◌+◌, ◌-◌, ◌*◌, ◌<◌, ◌≤◌, List, [], length, reverse, take, slice_index_or, Option, Some, None, refl, sym, ap, ◌∙◌, arith}
use Rattle.std.proofs.lemmas.Bool.{lt-ltb, cases_lt}
use Rattle.warg_log.specs.Ranges.{Range, leaves_from, front_part, rest_part, IsAligned}
use Rattle.warg_log.specs.Tree.{front_of, root_of, root_over, own_digest}
use Rattle.warg_log.specs.Cut.{Evaluation, with_target, joined, cut_over, cut_root, old_over}
use Rattle.warg_log.proofs.ForCallers.{below_pow, same_range, counts, node_at, root_over_one, cut_target, cut_parts, cut_old, cut_own_range}
use Rattle.warg_paths.specs.Paths.{beside, inclusion_over, inclusion_of, root_down, led_to}
use Rattle.warg_paths.proofs.PathLemmas.{root_one, root_front, root_rest}
use Rattle.warg_paths.proofs.MakeLemmas.{parts_fewer, inclusion_one, inclusion_front, inclusion_rest}

-- the root to which a path leads, of a place below the length
abbrev led : (List ℕ → List ℕ) → ℕ → ℕ → List ℕ → Option (List (List ℕ)) → Option (List ℕ)
led H m n x None = None
led H m n x (Some path) = root_down H m n x (reverse path)

joined_none : (H : List ℕ → List ℕ) (left : Option (List ℕ)) → joined H left None ≡ None
joined_none H None = refl
joined_none H (Some d) = refl

led_front : (H : List ℕ → List ℕ) (m n : ℕ) (x : List ℕ) (path : Option (List (List ℕ))) (top : Option (List ℕ)) → 1 < n
    → m < front_of n
    → led H m n x (beside path top) ≡ joined H (led H m (front_of n) x path) top
led_front H m n x None None more front = refl
led_front H m n x None (Some t) more front = refl
led_front H m n x (Some path) None more front = sym (joined_none H (root_down H m (front_of n) x (reverse path)))
led_front H m n x (Some path) (Some t) more front = root_front H m n x t path more front

led_rest : (H : List ℕ → List ℕ) (m n : ℕ) (x : List ℕ) (path : Option (List (List ℕ))) (top : Option (List ℕ)) → 1 < n
    → front_of n ≤ m
    → led H m n x (beside path top) ≡ joined H top (led H (m - front_of n) (n - front_of n) x path)
led_rest H m n x None None more rest = refl
led_rest H m n x None (Some t) more rest = refl
led_rest H m n x (Some path) None more rest = refl
led_rest H m n x (Some path) (Some t) more rest = root_rest H m n x t path more rest

-- the evaluation with the digest x at the leaf in place m
abbrev at_leaf : (ℕ → Option (List ℕ)) → ℕ → List ℕ → Evaluation
at_leaf F m x = with_target F (leaves_from m 1) x

-- a path of a part leads to the part's cut root
climbs : (H : List ℕ → List ℕ) (F : ℕ → Option (List ℕ)) (x : List ℕ) (steps m : ℕ) (r : Range) → r.count ≤ steps
    → m < r.count
    → led H m r.count x (inclusion_over (old_over H F) m r) ≡ cut_over H (at_leaf F (r.start + m) x) r
climbs H F x zero m r enough inside = absurd (omega arith)
climbs H F x (suc steps) m r enough inside = elim (cases_lt 1 r.count) [
  | inr few ↦
      let none : m ≡ 0 = omega arith in
      let one : r.count ≡ 1 = omega arith in
      let here : r ≡ leaves_from (r.start + m) 1 = same_range r (leaves_from (r.start + m) 1) (omega arith) one in
      rw (inclusion_one (old_over H F) m r one, one, none) (root_one H 0 x [] refl)
      ∙ sym (ap (cut_over H (at_leaf F (r.start + m) x)) here ∙ cut_target H (at_leaf F (r.start + m) x))
  | inl more ↦
      let few = parts_fewer r.count more in
      let e = at_leaf F (r.start + m) x in
      let split : cut_over H e r ≡ joined H (cut_over H e (front_part r)) (cut_over H e (rest_part r)) =
      cut_parts H e r more (λ same. omega (arith, counts same))
      (λ _ b. elim b [ inl l ↦ omega arith | inr r ↦ omega arith ]) in
      elim (cases_lt m (front_of r.count)) [
        | inl front ↦
            ap (led H m r.count x) (inclusion_front (old_over H F) m r more front)
            ∙ led_front H m r.count x (inclusion_over (old_over H F) m (front_part r)) (old_over H F (rest_part r)) more
            front
            ∙ ap (λ l. joined H l (old_over H F (rest_part r)))
            (climbs H F x steps m (front_part r) (omega (arith, few.1)) front)
            ∙ ap (λ d. joined H (cut_over H e (front_part r)) d)
            (sym (cut_old H e (rest_part r) (omega arith) (omega (arith, few.1)) (inr (omega (arith, front)))))
            ∙ sym split
        | inr rest ↦
            let at : (r.start + front_of r.count) + (m - front_of r.count) ≡ r.start + m = omega (arith, rest) in
            ap (led H m r.count x) (inclusion_rest (old_over H F) m r more rest)
            ∙ led_rest H m r.count x (inclusion_over (old_over H F) (m - front_of r.count) (rest_part r))
            (old_over H F (front_part r)) more rest
            ∙ ap (λ d. joined H (old_over H F (front_part r)) d)
            (climbs H F x steps (m - front_of r.count) (rest_part r) (omega (arith, few.2)) (omega (arith, rest)))
            ∙ ap (λ s. joined H (old_over H F (front_part r)) (cut_over H (at_leaf F s x) (rest_part r))) at
            ∙ ap (λ l. joined H l (cut_over H e (rest_part r)))
            (sym (cut_old H e (front_part r) (omega arith) few.0 (inl (omega (arith, rest)))))
            ∙ sym split
      ]
]

led_is : (H : List ℕ → List ℕ) (m n : ℕ) (x : List ℕ) (path : Option (List (List ℕ))) → m < n → led_to H m n x path
    ≡ led H m n x path
led_is H m n x None inside = refl
led_is H m n x (Some path) inside = rw (lt-ltb m n inside) refl

-- a path leads where the proof of the same leaf leads
pub leads_as_proof : (H : List ℕ → List ℕ) (F : ℕ → Option (List ℕ)) (m n : ℕ) (x : List ℕ) → m < n
    → led_to H m n x (inclusion_of (old_over H F) m n) ≡ cut_root H F (2 * m) x n
leads_as_proof H F m n x inside = grind (
  arith,
  node_at (2 * m) 0 m,
  led_is H m n x
      (inclusion_of (old_over H F) m n) inside,
  climbs H F x n m (leaves_from 0 n),
)

-- a log's own path of a leaf in a range leads to the range's root
own_climbs : (H : List ℕ → List ℕ) (ds : List (List ℕ)) (m : ℕ) (r : Range) → m < r.count → IsAligned r.start r.count
    → r.start + r.count ≤ length ds
    → led H m r.count (slice_index_or ds (r.start + m) []) (inclusion_over (old_over H (own_digest H ds)) m r)
    ≡ Some (root_over H ds r.start r.count)
own_climbs H ds m r inside aligned fits = grind (
  arith,
  climbs H (own_digest H ds)
      (slice_index_or ds (r.start + m) []) r.count m r,
  root_over_one H ds (r.start + m),
  cut_own_range H ds
      (leaves_from (r.start + m) 1) r,
)

-- a log's own path of a leaf leads to its root
pub own_leads : (H : List ℕ → List ℕ) (ds : List (List ℕ)) (m n : ℕ) → m < n → n ≤ length ds
    → led_to H m n (slice_index_or ds m []) (inclusion_of (old_over H (own_digest H ds)) m n)
    ≡ Some (root_of H (take n ds))
own_leads H ds m n inside fits =
    let at : 0 + m ≡ m = omega arith in
    let aligned : IsAligned 0 n = record {
      height = n;
      place = 0;
      start = omega arith;
      most = omega
          (arith, below_pow n);
    } in
    grind (arith, led_is, own_climbs)
