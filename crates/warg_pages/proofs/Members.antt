-- The elements of lists.
use Rattle.std.proofs.Common.{◌≡◌, ◌≢◌, ℕ, zero, suc, ◌+◌, ◌<◌, ◌≤◌, Bool, true, Option, Some, None, List, [], ◌∷◌, ◌++◌, length, get_or, refl, sym, ap, ◌∙◌, arith, inl, inr, ◌⊎◌, length-append, false}
use Rattle.std.proofs.lemmas.List.Elements.{Contains-append_cases, Contains-append_left, Contains-append_right, Contains-push_cases, Contains-get_or, All-contains}
use Rattle.std.proofs.lemmas.List.Sums.{AllPass-from_list_all, list_all-from_AllPass}
use Rattle.std.specs.List.{All, AllPairs, Contains, filter_map, cons_option, list_all, filter, flat_map}
use Rattle.std.proofs.lemmas.Bool.{cases_Bool}
use Rattle.std.specs.Prelude.{find}

pub among : {X : Type 0} (x : X) (xs : List X) (y : X) → Contains (x ∷ xs) y → (x ≡ y) ⊎ Contains xs y
among x xs y h = elim (Contains-append_cases (x ∷ []) xs y h) [
  | inl one ↦ elim (Contains-push_cases [] x y one) [
    | inl none ↦ absurd (omega arith)
    | inr same ↦ inl same
  ]
  | inr later ↦ inr later
]

pub first_among : {X : Type 0} (x : X) (xs : List X) → Contains (x ∷ xs) x
first_among x xs = (0, omega arith, refl)

pub later_among : {X : Type 0} (x : X) (xs : List X) (y : X) → Contains xs y → Contains (x ∷ xs) y
later_among x xs y h = Contains-append_right (x ∷ []) xs y h

pub only_one : {X : Type 0} (x y : X) → Contains (x ∷ []) y → x ≡ y
only_one x y h = elim (among x [] y h) [ inl same ↦ same | inr none ↦ absurd (omega arith) ]

-- what holds of each element
pub each : {X : Type 0} {P : X → Type 0} (xs : List X) → ((x : X) → Contains xs x → P x) → All P xs
each xs h = λ k d lt. h _ (Contains-get_or xs k d lt)

pub all_pass : {X : Type 0} (p : X → Bool) (xs : List X) → ((x : X) → Contains xs x → p x ≡ true) → list_all p xs ≡ true
all_pass p xs h = list_all-from_AllPass p xs (each xs h)

pub passes : {X : Type 0} (p : X → Bool) (xs : List X) {x : X} → list_all p xs ≡ true → Contains xs x → p x ≡ true
passes p xs all c = All-contains (λ x. p x ≡ true) xs _ (AllPass-from_list_all p xs all) c

-- what a function gives of the elements
module _ {X Y : Type 0} (f : X → Option Y) where
  pub in_filter_map : (xs : List X) {x : X} {y : Y} → Contains xs x → f x ≡ Some y → Contains (filter_map f xs) y
  in_filter_map [] c is = absurd (omega arith)
  in_filter_map (z ∷ xs) {x} {y} c is = elim (among z xs x c) [
    | inl same ↦ rw (same, is) (first_among y (filter_map f xs))
    | inr later ↦ behind (f z) (in_filter_map xs later is)
  ]
    where
      behind : (o : Option Y) → Contains (filter_map f xs) y → Contains (cons_option o (filter_map f xs)) y
      behind None c = c
      behind (Some w) c = later_among w (filter_map f xs) y c

  pub from_filter_map : (xs : List X) (y : Y) → Contains (filter_map f xs) y → (x : X) × Contains xs x × (f x ≡ Some y)
  from_filter_map [] y c = absurd (omega arith)
  from_filter_map (z ∷ xs) y c = by_first (f z) refl c
      (λ later. let r = from_filter_map xs y later in (r.0, later_among z xs r.0 r.1, r.2))
    where
      by_first : (o : Option Y) → f z ≡ o → Contains (cons_option o (filter_map f xs)) y
          → (Contains (filter_map f xs) y → (x : X) × Contains (z ∷ xs) x × (f x ≡ Some y))
          → (x : X) × Contains (z ∷ xs) x × (f x ≡ Some y)
      by_first None e c later = later c
      by_first (Some w) e c later = elim (among w (filter_map f xs) y c) [
        | inl same ↦ (z, first_among z xs, e ∙ ap Some same)
        | inr rest ↦ later rest
      ]

  pub none_of_each : (xs : List X) → ((x : X) → f x ≡ None) → filter_map f xs ≡ []
  none_of_each [] h = refl
  none_of_each (x ∷ xs) h = rw (h x, none_of_each xs h) refl

-- what lists the elements give
module _ {X Y : Type 0} (f : X → List Y) where
  pub in_flat_map : (xs : List X) {x : X} (y : Y) → Contains xs x → Contains (f x) y → Contains (flat_map f xs) y
  in_flat_map [] y c d = absurd (omega arith)
  in_flat_map (z ∷ xs) {x} y c d = elim (among z xs x c) [
    | inl same ↦ Contains-append_left (f z) (flat_map f xs) y (rw same d)
    | inr later ↦ Contains-append_right (f z) (flat_map f xs) y (in_flat_map xs y later d)
  ]

  pub from_flat_map : (xs : List X) (y : Y) → Contains (flat_map f xs) y → (x : X) × Contains xs x × Contains (f x) y
  from_flat_map [] y c = absurd (omega arith)
  from_flat_map (z ∷ xs) y c = elim (Contains-append_cases (f z) (flat_map f xs) y c) [
    | inl here ↦ (z, first_among z xs, here)
    | inr later ↦ (let r = from_flat_map xs y later in (r.0, later_among z xs r.0 r.1, r.2))
  ]

-- what a test keeps, and what it finds
module _ {X : Type 0} (test : X → Bool) where
  pub from_filter : (xs : List X) (x : X) → Contains (filter test xs) x → Contains xs x
  from_filter [] x c = c
  from_filter (y ∷ xs) x c = elim (cases_Bool (test y)) [
    | inl t ↦ elim (among y (filter test xs) x (rw t at c)) [
      | inl same ↦ rw same (first_among x xs)
      | inr later ↦ later_among y xs x (from_filter xs x later)
    ]
    | inr f ↦ later_among y xs x (from_filter xs x (rw f at c))
  ]

  pub in_filter : (xs : List X) {x : X} → test x ≡ true → Contains xs x → Contains (filter test xs) x
  in_filter [] pass c = c
  in_filter (y ∷ xs) {x} pass c = elim (among y xs x c) [
    | inl same ↦ rw (same, pass) (first_among x (filter test xs))
    | inr later ↦ elim (cases_Bool (test y)) [
      | inl t ↦ rw t (later_among y (filter test xs) x (in_filter xs pass later))
      | inr f ↦ rw f (in_filter xs pass later)
    ]
  ]

  pub find_some : (xs : List X) {x : X} → find test xs ≡ Some x → Contains xs x × (test x ≡ true)
  find_some [] e = absurd cc
  find_some (y ∷ xs) {x} e = elim (cases_Bool (test y)) [
    | inl t ↦ (let same : y ≡ x = cc (rw t at e) in rw (← same) (first_among y xs, t))
    | inr f ↦ (let r = find_some xs (rw f at e) in (later_among y xs x r.0, r.1))
  ]

  pub find_none : (xs : List X) {x : X} → find test xs ≡ None → Contains xs x → test x ≡ false
  find_none [] e c = absurd (omega arith)
  find_none (y ∷ xs) {x} e c = elim (cases_Bool (test y)) [
    | inl t ↦ absurd (cc (rw t at e))
    | inr f ↦ elim (among y xs x c) [
      | inl same ↦ rw (← same) f
      | inr later ↦ find_none xs (rw f at e) later
    ]
  ]

-- around an element
pub around : {X : Type 0} (xs : List X) (x : X) → Contains xs x
    → (before : List X) × (after : List X) × (xs ≡ before ++ x ∷ after)
around [] x h = absurd (omega arith)
around (y ∷ xs) x h = elim (among y xs x h) [
  | inl same ↦ ([], xs, ap (λ z. z ∷ xs) same)
  | inr later ↦ (let rest = around xs x later in (y ∷ rest.0, rest.1, ap (λ zs. y ∷ zs) rest.2))
]

without : {X : Type 0} (before after : List X) (x y : X) → Contains (before ++ x ∷ after) y
    → (x ≡ y) ⊎ Contains (before ++ after) y
without before after x y h = elim (Contains-append_cases before (x ∷ after) y h) [
  | inl in_before ↦ inr (Contains-append_left before after y in_before)
  | inr rest ↦ elim (among x after y rest) [
    | inl same ↦ inl same
    | inr in_after ↦ inr (Contains-append_right before after y in_after)
  ]
]

-- pairs with one more
pub AllPairs-cons : {X : Type 0} (R : X → X → Type 0) (x : X) (xs : List X) → ((y : X) → Contains xs y → R x y)
    → AllPairs R xs → AllPairs R (x ∷ xs)
AllPairs-cons {X = X} R x xs h pairs = both
  where
    both : (i j : ℕ) (d : X) → i < j → j < length (x ∷ xs) → R (get_or (x ∷ xs) i d) (get_or (x ∷ xs) j d)
    both i zero d lt within = absurd (omega arith)
    both zero (suc j) d lt within = h (get_or xs j d) (Contains-get_or xs j d (omega arith))
    both (suc i) (suc j) d lt within = pairs i j d (omega arith) (omega arith)

-- distinct elements of a list that is no longer are all of it
pub all_among : {X : Type 0} (xs ys : List X) → AllPairs (λ x y. x ≢ y) xs
    → ((x : X) → Contains xs x → Contains ys x) → length ys ≤ length xs → (y : X) → Contains ys y → Contains xs y
all_among [] ys distinct within le y h = absurd (let lt = h.1 in omega arith)
all_among {X = X} (x ∷ xs) ys distinct within le y h =
    let split = around ys x (within x (first_among x xs)) in
    let size = ap length split.2 ∙ length-append split.0 _ in
    let less = length-append split.0 split.1 in
    let rest = all_among xs (split.0 ++ split.1)
    (λ i j d lt low. distinct (suc i) (suc j) d (omega arith) (omega arith))
    (λ z c. elim (without split.0 split.1 x z (rw split.2 at (within z (later_among x xs z c)))) [
      | inl same ↦ absurd (distinct 0 (suc c.0) z (omega arith) (let low = c.1 in omega arith) (same ∙ sym c.2))
      | inr kept ↦ kept
    ]) (omega arith) in
    elim (without split.0 split.1 x y (rw split.2 at h)) [
      | inl same ↦ rw same (first_among y xs)
      | inr kept ↦ later_among x xs y (rest y kept)
    ]
