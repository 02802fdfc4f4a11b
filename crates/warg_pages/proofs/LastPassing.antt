-- The last element that passes a test, and its place.
use Rattle.std.proofs.Common.{◌≡◌, ◌+◌, ◌<◌, Bool, true, false, cond, eqb, List, [], ◌∷◌, ◌++◌, length, Option, Some, None, is_some, refl, arith, inl, inr, ◌⊎◌}
use Rattle.std.specs.Option.{option_or}
use Rattle.std.specs.List.{Contains}
use Rattle.warg_map.specs.Last.{last_with}
use Rattle.warg_pages.specs.Prefixes.{last_place}
use Rattle.warg_pages.proofs.Members.{among, first_among, later_among}

pub later_none : {X : Type 0} (later : Option X) (b : Bool) (x : X) → option_or later (cond b (Some x) None) ≡ None
    → (later ≡ None) × (b ≡ false)
later_none later b x e = grind arith

some_cases : {X : Type 0} (later : Option X) (b : Bool) (x e : X) → option_or later (cond b (Some x) None) ≡ Some e
    → (later ≡ Some e) ⊎ ((x ≡ e) × (b ≡ true))
some_cases later b x e h = grind arith

module _ {X : Type 0} (p : X → Bool) where
  -- it is there, and passes
  pub last_found : (xs : List X) (e : X) → last_with p xs ≡ Some e → Contains xs e × (p e ≡ true)
  unfolding last_with
  last_found [] e h = absurd cc
  last_found (x ∷ xs) e h = elim (some_cases _ (p x) x e h) [
    | inl later ↦ (let rest = last_found xs e later in (later_among x xs e rest.0, rest.1))
    | inr here ↦ rw (← here.0) (first_among x xs, here.1)
  ]

  -- where there is none, none passes
  pub none_of : (xs : List X) {x : X} → last_with p xs ≡ None → Contains xs x → p x ≡ false
  unfolding last_with
  none_of [] h c = absurd (omega arith)
  none_of (y ∷ xs) {x} h c =
      let parts = later_none _ (p y) y h in
      elim (among y xs x c) [ inl same ↦ rw (← same) parts.1 | inr later ↦ none_of xs parts.0 later ]

  pub none_is : (xs : List X) → ((x : X) → Contains xs x → p x ≡ false) → last_with p xs ≡ None
  unfolding last_with
  none_is [] h = refl
  none_is (x ∷ xs) h = rw (h x (first_among x xs), none_is xs (λ y c. h y (later_among x xs y c))) refl

  pub some_last : (xs : List X) {x : X} → Contains xs x → p x ≡ true → is_some (last_with p xs) ≡ true
  some_last xs c pass = by_last _ refl
    where
      by_last : (o : Option X) → last_with p xs ≡ o → is_some o ≡ true
      by_last None none = let no = none_of xs none c in absurd cc
      by_last (Some e) is = refl

  -- of two lists
  pub last_with-append : (xs ys : List X) → last_with p (xs ++ ys) ≡ option_or (last_with p ys) (last_with p xs)
  unfolding last_with
  last_with-append [] ys = grind arith
  last_with-append (x ∷ xs) ys = rw (last_with-append xs ys) (grind arith)

  pub last_with-later : (xs ys : List X) (e : X) → last_with p ys ≡ Some e → last_with p (xs ++ ys) ≡ Some e
  last_with-later xs ys e h = rw (last_with-append xs ys, h) refl

  pub last_place-append : (xs ys : List X)
      → last_place p (xs ++ ys) ≡ cond (eqb (last_place p ys) 0) (last_place p xs) (length xs + last_place p ys)
  unfolding last_place
  last_place-append [] ys = grind arith
  last_place-append (x ∷ xs) ys = rw (last_place-append xs ys) (grind arith)

  -- its place
  pub place_none : (xs : List X) → last_with p xs ≡ None → last_place p xs ≡ 0
  unfolding last_with last_place
  place_none [] h = refl
  place_none (x ∷ xs) h = let parts = later_none _ (p x) x h in rw (place_none xs parts.0, parts.1) refl

  pub place_some : (xs : List X) (e : X) → last_with p xs ≡ Some e → 0 < last_place p xs
  unfolding last_with last_place
  place_some [] e h = absurd cc
  place_some (x ∷ xs) e h = elim (some_cases _ (p x) x e h) [
    | inl later ↦ (let rest = place_some xs e later in grind arith)
    | inr here ↦ rw here.1 (grind arith)
  ]

  pub last_place-later : (xs ys : List X) (e : X) → last_with p ys ≡ Some e
      → last_place p (xs ++ ys) ≡ length xs + last_place p ys
  last_place-later xs ys e h = let some = place_some ys e h in rw (last_place-append xs ys) (grind arith)

-- tests that agree on each element
module _ {X : Type 0} (p q : X → Bool) where
  pub last_same : (xs : List X) → ((x : X) → Contains xs x → p x ≡ q x) → last_with p xs ≡ last_with q xs
  unfolding last_with
  last_same [] h = refl
  last_same (x ∷ xs) h = rw (h x (first_among x xs), last_same xs (λ y c. h y (later_among x xs y c))) refl

  pub place_same : (xs : List X) → ((x : X) → Contains xs x → p x ≡ q x) → last_place p xs ≡ last_place q xs
  unfolding last_place
  place_same [] h = refl
  place_same (x ∷ xs) h = rw (h x (first_among x xs), place_same xs (λ y c. h y (later_among x xs y c))) refl
