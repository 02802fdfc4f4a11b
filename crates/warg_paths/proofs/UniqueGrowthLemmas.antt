-- Two consistency paths between the same lengths to the same roots.
use Rattle.std.proofs.Common.{◌≡◌, ◌⊎◌, inl, inr, ℕ, ◌+◌, ◌-◌, ◌<◌, ◌≤◌, Bool, true, false, ◌&&◌, nat_lt, nat_le, List, [], ◌∷◌, reverse, Option, Some, None, refl, sym, ap, ◌∙◌, arith}
use Rattle.std.proofs.lemmas.Bool.{leb-true, eq-eqb, cases_lt, cases_Bool, and_parts}
use Rattle.std.proofs.lemmas.List.{reverse-reverse}
use Rattle.warg_crypto.specs.Collisions.{AreHashes, SomeCollision}
use Rattle.warg_crypto.specs.Tree.{branch_input, where_both}
use Rattle.warg_log.specs.Tree.{front_of}
use Rattle.warg_paths.specs.Paths.{one_root, twice, roots_down, consistency_roots}
use Rattle.warg_paths.specs.Ways.{IsOnGrowth, AreGrowthInputs, AreTurns, old_of}
use Rattle.warg_paths.specs.Ways.IsOnGrowth.{whole as way_whole, front as way_front, rest as way_rest}
use Rattle.warg_paths.proofs.TurnLemmas.{turns_meet, no_roots, grown_is, over_is, front_turn, rest_turn, front_takes, rest_takes, pair_parts}
use Rattle.warg_paths.proofs.UniqueLemmas.{turned, cons_same}
use Rattle.warg_paths.proofs.GrowthLemmas.{known}

nothing : {p : List ℕ × List ℕ} → None ≡ Some p → ⊥
nothing e = cc

-- at the end of the old leaves the way down has the one root
down_same : (H : List ℕ → List ℕ) (old : Option (List ℕ)) (m n : ℕ) (hs : List (List ℕ)) → m ≡ n
    → roots_down H old m n hs ≡ twice (one_root old hs)
unfolding roots_down
down_same H old m n [] same = rw (eq-eqb m n same) refl
down_same H old m n (h ∷ hs) same = rw (eq-eqb m n same) refl

-- where both lengths are one, the path has no digest or the one root
end_unique : (whole : Bool) (r s o w : List ℕ) (xs ys : List (List ℕ)) → twice (one_root (known whole r) xs)
    ≡ Some (o, w) → twice (one_root (known whole s) ys) ≡ Some (o, w) → xs ≡ ys
end_unique true r s o w [] [] ex ey = refl
end_unique true r s o w [] (u ∷ us) ex ey = absurd (nothing ey)
end_unique true r s o w (t ∷ ts) ys ex ey = absurd (nothing ex)
end_unique false r s o w [] ys ex ey = absurd (nothing ex)
end_unique false r s o w (t ∷ []) [] ex ey = absurd (nothing ey)
end_unique false r s o w (t ∷ []) (u ∷ []) ex ey = ap (λ h. h ∷ []) ((pair_parts _ _ ex).0 ∙ sym (pair_parts _ _ ey).0)
end_unique false r s o w (t ∷ []) (u ∷ v ∷ us) ex ey = absurd (nothing ey)
end_unique false r s o w (t ∷ k ∷ ts) ys ex ey = absurd (nothing ex)

-- two ways down to the same roots are one, or collide at one range
module _ (H : List ℕ → List ℕ) (old_count count : ℕ) (r s : List ℕ) (path other : List (List ℕ)) where
  abbrev Placed : List ℕ → List ℕ → Type 0
  Placed = AreGrowthInputs H old_count count r path s other

  abbrev OnWay : List ℕ → List (List ℕ) → Option (List ℕ) → ℕ → ℕ → ℕ → List (List ℕ) → Type 0
  OnWay root digests = IsOnGrowth (Some root) old_count count (reverse digests)

  -- two inputs at one range on the ways
  at : {k j : Option (List ℕ)} {m a n : ℕ} {t : List ℕ} {ts : List (List ℕ)} {u : List ℕ} {us : List (List ℕ)}
      {first second : List ℕ} → OnWay r path k m a n (t ∷ ts) → OnWay s other j m a n (u ∷ us) → m < n
      → AreTurns H k j m n (t ∷ ts) (u ∷ us) first second → Placed first second
  at {k} {j} {m} {a} {n} {t} {ts} {u} {us} wx wy more turns = grind arith

  -- where all leaves are old
  ends : (whole : Bool) (m n : ℕ) (o w : List ℕ) (xs ys : List (List ℕ)) → m ≡ n
      → roots_down H (known whole r) m n xs ≡ Some (o, w) → roots_down H (known whole s) m n ys ≡ Some (o, w) → xs ≡ ys
  ends whole m n o w xs ys all ex ey = grind (arith, end_unique, down_same, known, at)

  -- and they are where no digests are left
  all_old : (known : Option (List ℕ)) (m n : ℕ) (roots : List ℕ × List ℕ) → m ≤ n
      → roots_down H known m n [] ≡ Some roots → m ≡ n
  all_old known m n roots order is = elim (cases_lt m n) [
    | inl more ↦ absurd (no_roots H known m n roots more is)
    | inr all ↦ omega arith
  ]

  down : (whole : Bool) (m a n : ℕ) (o w : List ℕ) (xs ys : List (List ℕ)) → AreHashes xs → AreHashes ys → m ≤ n
      → OnWay r path (known whole r) m a n xs → OnWay s other (known whole s) m a n ys
      → roots_down H (known whole r) m n xs ≡ Some (o, w) → roots_down H (known whole s) m n ys ≡ Some (o, w)
      → (xs ≡ ys) ⊎ SomeCollision H Placed
  down whole m a n o w [] ys ax ay order wx wy ex ey =
      inl (ends whole m n o w [] ys (all_old _ m n _ order ex) ex ey)
  down whole m a n o w (t ∷ ts) [] ax ay order wx wy ex ey =
      inl (ends whole m n o w (t ∷ ts) [] (all_old _ m n _ order ey) ex ey)
  down whole m a n o w (t ∷ ts) (u ∷ us) ax ay order wx wy ex ey = elim (cases_lt m n) [
    | inr all ↦ inl (ends whole m n o w (t ∷ ts) (u ∷ us) (omega arith) ex ey)
    | inl more ↦
        let size = ax.0 ∙ sym ay.0 in
        elim (cases_lt (front_of n) m) [
          | inr low ↦
              let (x, x_is, x_root) = grown_is H _ t o w (rw (front_turn H _ m n t ts more low) at ex) in
              let (y, y_is, y_root) = grown_is H _ u o w (rw (front_turn H _ m n u us more low) at ey) in
              elim (turns_meet H Placed false size x_root y_root (at wx wy more (inr (
                front_takes H (known whole r) m n t ts o x low x_is,
                front_takes H (known whole s) m n u us o y low y_is,
              )))) [
                | inr collision ↦ inr collision
                | inl same ↦
                    elim (down whole m a (front_of n) o x ts us ax.1 ay.1 low (way_front _ m a n t ts wx more low)
                    (way_front _ m a n u us wy more low) x_is (y_is ∙ ap (λ z. Some (o, z)) (sym same.1))) [
                      | inr collision ↦ inr collision
                      | inl below ↦ inl (cons_same same.0 below)
                    ]
              ]
          | inl high ↦
              let (p, x, x_is, p_root, x_root) = over_is H _ t o w (rw (rest_turn H _ m n t ts more high) at ex) in
              let (q, y, y_is, q_root, y_root) = over_is H _ u o w (rw (rest_turn H _ m n u us more high) at ey) in
              elim (turns_meet H Placed true size p_root q_root (at wx wy more
              (inl (high, old_takes t x_is, old_takes u y_is)))) [
                | inr collision ↦ inr collision
                | inl old ↦ elim (turns_meet H Placed true size x_root y_root (at wx wy more (inr (
                  rest_takes H (known whole r) m n t ts p x high x_is,
                  rest_takes H (known whole s) m n u us q y high y_is,
                )))) [
                  | inr collision ↦ inr collision
                  | inl new ↦
                      elim (down false (m - front_of n) (a + front_of n) (n - front_of n) p x ts us ax.1 ay.1
                      (omega (arith, order)) (way_rest _ m a n t ts wx more high) (way_rest _ m a n u us wy more high)
                      x_is (y_is ∙ ap Some (cc (old.1, new.1)))) [
                        | inr collision ↦ inr collision
                        | inl below ↦ inl (cons_same old.0 below)
                      ]
                ]
              ]
        ]
  ]
    where
      old_takes : {roots : Option (List ℕ × List ℕ)} {o w : List ℕ} (top : List ℕ) → roots ≡ Some (o, w)
          → where_both branch_input (Some top) (old_of roots) ≡ Some (branch_input top o)
      old_takes top is = rw is refl

pub unique : (H : List ℕ → List ℕ) (m n : ℕ) (r s old new : List ℕ) (xs ys : List (List ℕ)) → AreHashes xs
    → AreHashes ys
    → consistency_roots H m n r xs ≡ Some (old, new) → consistency_roots H m n s ys ≡ Some (old, new) → (xs ≡ ys)
    ⊎ SomeCollision H (AreGrowthInputs H m n r xs s ys)
unique H m n r s old new xs ys ax ay ex ey = elim (cases_Bool (nat_lt 0 m && nat_le m n)) [
  | inr other ↦ absurd (nothing (rw other at ex))
  | inl order ↦
      let both = and_parts (nat_lt 0 m) (nat_le m n) order in
      elim (down H m n r s xs ys true m 0 n old new (reverse xs) (reverse ys) (turned _ xs ax) (turned _ ys ay)
      (leb-true m n both.1) way_whole way_whole (rw order at ex) (rw order at ey)) [
        | inr collision ↦ inr collision
        | inl same ↦ inl (sym (reverse-reverse xs) ∙ ap reverse same ∙ reverse-reverse ys)
      ]
]
