-- Where the digests that a proof needs are known, its path is made.
use Rattle.std.proofs.Common.{◌≡◌, inl, inr, ℕ, zero, suc, ◌+◌, ◌-◌, ◌*◌, ◌^◌, ◌<◌, ◌≤◌, Bool, true, false, List, [], ◌∷◌, Option, Some, None, IsSome, refl, sym, ap, subst, ◌∙◌, arith}
use Rattle.std.specs.List.{AllByRecursion, flat_map}
use Rattle.std.proofs.lemmas.Bool.{cases_lt, true≢false}
use Rattle.std.proofs.lemmas.Nat.{pow_pos, pow-add}
use Rattle.std.proofs.Math.Nat.{pow-suc}
use Rattle.warg_log.specs.Nodes.{height_of, start_of, end_of, node_over, balanced_over, balanced_roots, Follow}
use Rattle.warg_log.specs.Ranges.{Range, leaves_from, range_of, front_part, rest_part}
use Rattle.warg_log.specs.Tree.{front_of}
use Rattle.warg_log.specs.Cut.{Evaluation, with_target, joined, cut_over, old_over, IsFull}
use Rattle.warg_log.specs.Walks.{IsKnown, needed, needed_between}
use Rattle.warg_log.proofs.ForCallers.{below_pow, pow_below_pow, starts, counts, front_is_greatest, front_of_is, balanced_full, balanced_parts, cut_parts, cut_old, old_full, old_parts, over_follow, joined_some, known_cut, known_parts}
use Rattle.warg_paths.specs.Paths.{beside, path_at_end, inclusion_of, consistency_over, consistency_of, led_to}
use Rattle.warg_paths.proofs.LawLemmas.{leads_as_proof}
use Rattle.warg_paths.proofs.MakeLemmas.{consistency_end, consistency_front, consistency_rest}

-- the node's leaves are among those from a up to but not including e
abbrev Inside : ℕ → ℕ → ℕ → Type 0
Inside a e b = (a ≤ start_of b) × (end_of b ≤ e)

-- nodes that follow one another are inside
follow_inside : (a e : ℕ) (ts : List ℕ) → Follow a e ts → (a ≤ e) × AllByRecursion (Inside a e) ts
follow_inside a e [] same = (omega (arith, same), tt)
follow_inside a e (t ∷ ts) follow =
    let rest = follow_inside (end_of t) e ts follow.1 in
    let ends : start_of t ≤ end_of t = omega arith in (
      omega (arith, follow.0, ends, rest.0),
      ((omega (arith, follow.0), rest.0), wider (end_of t) a e ts (omega (arith, follow.0, ends)) rest.1),
    )
  where
    wider : (b a e : ℕ) (ts : List ℕ) → a ≤ b → AllByRecursion (Inside b e) ts → AllByRecursion (Inside a e) ts
    wider b a e [] less all = tt
    wider b a e (t ∷ ts) less all = ((omega (arith, less, all.0.0), all.0.1), wider b a e ts less all.1)

-- more than a power of two and less than the next one is none
not_full : (j n : ℕ) → 2 ^ j < n → n < 2 ^ suc j → IsFull n → ⊥
not_full j n wide less is = grind (arith, pow_below_pow)

beside_some : (p : Option (List (List ℕ))) (s : Option (List ℕ)) → IsSome p → IsSome s → IsSome (beside p s)
beside_some (Some p) (Some s) path top = refl
beside_some (Some p) None path top = absurd (cc)
beside_some None s path top = absurd (cc)

module _ (H : List ℕ → List ℕ) (F : ℕ → Option (List ℕ)) where
  abbrev at : ℕ → Evaluation
  at b = with_target F (range_of b) (H [])

  -- the node's digest is known, and the cut root of the range around it
  abbrev Knows : Range → ℕ → Type 0
  Knows r b = IsSome (F b) × IsSome (cut_over H (at b) r)

  -- both parts of a range around a node
  halves : (r : Range) (e b : ℕ) → 1 < r.count → e < r.start + r.count → Inside r.start e b
      → IsSome (cut_over H (at b) r)
      → IsSome (cut_over H (at b) (front_part r)) × IsSome (cut_over H (at b) (rest_part r))
  halves r e b more short inside known =
      let some : 0 < 2 ^ height_of b = pow_pos (height_of b) in
      let ends : start_of b + 2 ^ height_of b ≤ e = omega (arith, inside.1) in
      let parts = cut_parts H (at b) r more (λ same. omega (arith, starts same, counts same, ends, short))
      (omega (arith, ends)) in
      joined_some H (cut_over H (at b) (front_part r)) (cut_over H (at b) (rest_part r)) (rw parts at known)

  in_front : (r : Range) (e : ℕ) (bs : List ℕ) → 1 < r.count → e < r.start + r.count
      → AllByRecursion (Inside r.start e) bs → AllByRecursion (Knows r) bs → AllByRecursion (Knows (front_part r)) bs
  in_front r e [] more short inside all = tt
  in_front r e (b ∷ bs) more short inside all = (
    (all.0.0, (halves r e b more short inside.0 all.0.1).0),
    in_front r e bs more short inside.1 all.1,
  )

  in_rest : (r : Range) (e : ℕ) (bs : List ℕ) → 1 < r.count → e < r.start + r.count
      → AllByRecursion (Inside (r.start + front_of r.count) e) bs → AllByRecursion (Knows r) bs
      → AllByRecursion (Knows (rest_part r)) bs
  in_rest r e [] more short inside all = tt
  in_rest r e (b ∷ bs) more short inside all = grind (
    arith,
    halves r e b more short,
    in_rest r e bs more short
        inside.1 all.1,
  )

  -- the part beside the nodes
  rest_beside : (r : Range) (e : ℕ) (bs : List ℕ) → 1 < r.count → r.start < e → e ≤ r.start + front_of r.count
      → e < r.start + r.count → Follow r.start e bs → AllByRecursion (Knows r) bs → IsSome (old_over H F (rest_part r))
  rest_beside r e [] more some low short follow all = absurd (omega (arith, follow, some))
  rest_beside r e (b ∷ bs) more some low short follow all =
      let inside = (follow_inside r.start e (b ∷ bs) follow).1.0 in
      let front = front_is_greatest r.count more in
      grind (
        arith,
        cut_old H (at b) (rest_part r) (pow_pos (height_of b)),
        pow_pos (height_of b),
        halves r e b more
            short inside all.0.1,
      )

  front_beside : (r : Range) (e : ℕ) (bs : List ℕ) → 1 < r.count → r.start + front_of r.count < e
      → e < r.start + r.count → Follow (r.start + front_of r.count) e bs → AllByRecursion (Knows r) bs
      → IsSome (old_over H F (front_part r))
  front_beside r e [] more some short follow all = absurd (omega (arith, follow, some))
  front_beside r e (b ∷ bs) more some short follow all =
      let inside = (follow_inside (r.start + front_of r.count) e (b ∷ bs) follow).1.0 in
      let full = (front_is_greatest r.count more).0 in
      grind (
        arith,
        cut_old H (at b) (front_part r) (pow_pos (height_of b)),
        pow_pos (height_of b),
        pow_pos full.0,
        halves r e b more short,
      )

  -- the path over leaves that are all old
  ends : (whole : Bool) (r : Range) → (whole ≡ false → IsFull r.count)
      → AllByRecursion (Knows r) (balanced_over r.start r.count) → IsSome (path_at_end (old_over H F) whole r)
  ends true r full all = refl
  ends false r full all = grind (arith, beside_some, old_full, balanced_full)

  -- the path from the first m leaves of a range to all of them
  grown : (steps k c m : ℕ) (whole : Bool) (r : Range) → 0 < m → m ≤ r.count → r.count ≤ steps → r.start ≡ c * 2 ^ k
      → r.count ≤ 2 ^ k
      → (whole ≡ false → m ≡ r.count → IsFull r.count) → AllByRecursion (Knows r) (balanced_over r.start m)
      → IsSome (consistency_over (old_over H F) whole m r)
  grown zero k c m whole r some order most start high full all = absurd (omega arith)
  grown (suc steps) k c m whole r some order most start high full all = elim (cases_lt m r.count) [
    | inr last ↦
        let same : m ≡ r.count = omega arith in
        rw (consistency_end (old_over H F) whole m r some same) (ends whole r (λ is. full is same) (rw same at all))
    | inl less ↦
        let more : 1 < r.count = omega arith in
        let f = front_is_greatest r.count more in
        let j = f.0.0 in
        let front : front_of r.count ≡ 2 ^ j = f.0.1 in
        let below : j < k = pow_below_pow j k (omega (arith, front, f.1, high)) in
        let sum : k - j + j ≡ k = omega arith in
        let power : 2 ^ k ≡ 2 ^ (k - j) * 2 ^ j = ap (λ n. 2 ^ n) (sym sum) ∙ pow-add 2 (k - j) j in
        let d = c * 2 ^ (k - j) in
        let begins : r.start ≡ d * 2 ^ j = omega (arith, start, ap (λ p. c * p) power) in
        let short : r.start + m < r.start + r.count = omega arith in
        elim (cases_lt (front_of r.count) m) [
          | inr low ↦
              let bs = balanced_over r.start m in
              let follow = subst (λ a. Follow a (a + m) (balanced_over a m)) (sym begins)
              (over_follow j d m (omega (arith, low, front))) in
              let inside = (follow_inside r.start (r.start + m) bs follow).1 in
              let path = grown steps j d m whole (front_part r) some low (omega (arith, f.1)) begins
              (omega (arith, front)) (λ _ _. f.0) (in_front r (r.start + m) bs more short inside all) in
              let rest = rest_beside r (r.start + m) bs more (omega arith) (omega (arith, low)) short follow all in
              rw (consistency_front (old_over H F) whole m r some less low)
              (beside_some (consistency_over (old_over H F) whole m (front_part r))
              (old_over H F (rest_part r)) path rest)
          | inl wide ↦
              let top : m ≤ 2 ^ suc j = omega (arith, less, f.2, front, pow-suc 2 j) in
              let same : front_of m ≡ front_of r.count = front_of_is j m (omega (arith, wide, front)) top ∙ sym front in
              let part = not_full j m (omega (arith, wide, front)) (omega (arith, less, f.2, front, pow-suc 2 j)) in
              let a = r.start + front_of r.count in
              let n = m - front_of r.count in
              let bs = balanced_over a n in
              let parts : balanced_over r.start m ≡ node_over r.start (front_of r.count) ∷ bs =
              subst (λ h. balanced_over r.start m ≡ node_over r.start h ∷ balanced_over (r.start + h) (m - h)) same
              (balanced_parts r.start m (omega arith) part) in
              let known = (rw parts at all).1 in
              let next : a ≡ (d + 1) * 2 ^ j = omega (arith, begins, front) in
              let fits : n ≤ 2 ^ j = omega (arith, top, front, pow-suc 2 j) in
              let follow = subst (λ b. Follow b (b + n) (balanced_over b n)) (sym next)
              (over_follow j (d + 1) n fits) in
              let inside = (follow_inside a (a + n) bs follow).1 in
              let end : a + n < r.start + r.count = omega (arith, wide, less) in
              let path = grown steps j (d + 1) n false (rest_part r) (omega (arith, wide)) (omega arith)
              (omega (arith, front, pow_pos j)) next (omega (arith, f.2, front))
              (λ _ last. absurd (omega (arith, last, wide, less, f.1)))
              (in_rest r (a + n) bs more end inside known) in
              let beside = front_beside r (a + n) bs more (omega (arith, wide)) end follow known in
              rw (consistency_rest (old_over H F) whole m r less wide)
              (beside_some (consistency_over (old_over H F) false n (rest_part r))
              (old_over H F (front_part r)) path beside)
        ]
  ]

  known_roots : (n : ℕ) (ts : List ℕ) → IsKnown F (flat_map (λ t. t ∷ needed t n) ts)
      → AllByRecursion (Knows (leaves_from 0 n)) ts
  known_roots n [] known = tt
  known_roots n (t ∷ ts) known =
      let parts = known_parts F (needed t n) (flat_map (λ u. u ∷ needed u n) ts) known.1 in
      ((known.0, known_cut H F (H []) t n parts.0), known_roots n ts parts.1)

  pub consistency_known : (m n : ℕ) → 0 < m → m ≤ n → IsKnown F (needed_between m n)
      → IsSome (consistency_of (old_over H F) m n)
  consistency_known m n some order known =
      grown n n 0 m true (leaves_from 0 n) some order (omega arith) (omega arith) (omega (arith, below_pow n))
      (λ is. absurd (true≢false is)) (known_roots n (balanced_roots m) known)

  led_some : (m n : ℕ) (x : List ℕ) (p : Option (List (List ℕ))) → IsSome (led_to H m n x p) → IsSome p
  led_some m n x (Some path) led = refl
  led_some m n x None led = led

  pub inclusion_known : (m n : ℕ) → m < n → IsKnown F (needed (2 * m) n) → IsSome (inclusion_of (old_over H F) m n)
  inclusion_known m n inside known = led_some m n (H []) (inclusion_of (old_over H F) m n)
      (rw (leads_as_proof H F m n (H []) inside) (known_cut H F (H []) (2 * m) n known))

  joined_two : (p q : Option (List ℕ)) → IsSome p → IsSome q → IsSome (joined H p q)
  joined_two (Some p) (Some q) left right = refl
  joined_two (Some p) None left right = right
  joined_two None q left right = left

  -- where the balanced roots of a range are known, so is its old root
  old_known : (steps : ℕ) (r : Range) → 0 < r.count → r.count ≤ steps
      → AllByRecursion (λ t. IsSome (F t)) (balanced_over r.start r.count) → IsSome (old_over H F r)
  old_known zero r some enough known = absurd (omega arith)
  old_known (suc steps) r some enough known = elim (cases_lt 1 r.count) [
    | inr one ↦ whole (0, omega arith)
    | inl more ↦
        let f = front_is_greatest r.count more in
        let j = f.0.0 in
        elim (cases_lt r.count (2 * front_of r.count)) [
          | inr twice ↦ whole (suc j, omega (arith, twice, f.2, f.0.1, pow-suc 2 j))
          | inl less ↦
              let part = not_full j r.count (omega (arith, f.1, f.0.1)) (omega (arith, less, f.0.1, pow-suc 2 j)) in
              let parts = rw (balanced_parts r.start r.count more part) at known in
              rw (old_parts H F r more part)
              (joined_two (old_over H F (front_part r)) (old_over H F (rest_part r))
              (rw (old_full H F (front_part r) f.0) parts.0)
              (old_known steps (rest_part r) (omega (arith, f.1)) (omega (arith, f.0.1, pow_pos j)) parts.1))
        ]
  ]
    where
      whole : IsFull r.count → IsSome (old_over H F r)
      whole full = rw (old_full H F r full) (rw (balanced_full r.start r.count full) at known).0

  roots_known : (n : ℕ) (ts : List ℕ) → IsKnown F (flat_map (λ t. t ∷ needed t n) ts)
      → AllByRecursion (λ t. IsSome (F t)) ts
  roots_known n [] known = tt
  roots_known n (t ∷ ts) known =
      (known.0, roots_known n ts (known_parts F (needed t n) (flat_map (λ u. u ∷ needed u n) ts) known.1).1)

  -- whoever knows what a consistency proof needs knows the old root
  pub old_root_known : (m n : ℕ) → 0 < m → IsKnown F (needed_between m n) → IsSome (old_over H F (leaves_from 0 m))
  old_root_known m n some known = old_known m (leaves_from 0 m) some (omega arith)
      (roots_known n (balanced_roots m) known)
