-- Lists of which no two elements are alike.
use Rattle.std.proofs.Common.{◌≡◌, ◌≢◌, ⊎_elim, ℕ, zero, suc, ◌<◌, ◌≤◌, List, [], ◌∷◌, ◌++◌, length, map, get_or, sym, ap, ◌∙◌, arith, inl, inr, ◌⊎◌, length-append}
use Rattle.std.proofs.lemmas.List.Elements.{Contains-get_or, Contains-append_cases, Contains-append_left, Contains-append_right}
use Rattle.std.specs.List.{AllPairs, Contains}
use Rattle.warg_registry.proofs.Listed.{none_there, first_there, later_there, there_cases, of_mapped}

-- the first element and a later one, and the later ones
pub first_pair : {X : Type 0} (R : X → X → Type 0) (x : X) (xs : List X) (y : X) → AllPairs R (x ∷ xs) → Contains xs y
    → R x y
first_pair R x xs y pairs there = rw there.2 at (pairs 0 (suc there.0) y (omega arith)
    (let lt = there.1 in omega arith))

pub later_pairs : {X : Type 0} (R : X → X → Type 0) (x : X) (xs : List X) → AllPairs R (x ∷ xs) → AllPairs R xs
later_pairs R x xs pairs = λ i j d lt within. pairs (suc i) (suc j) d (omega arith) (omega arith)

pub one_pair_more : {X : Type 0} (R : X → X → Type 0) (x : X) (xs : List X) → ((y : X) → Contains xs y → R x y)
    → AllPairs R xs → AllPairs R (x ∷ xs)
one_pair_more {X = X} R x xs h pairs = both
  where
    both : (i j : ℕ) (d : X) → i < j → j < length (x ∷ xs) → R (get_or (x ∷ xs) i d) (get_or (x ∷ xs) j d)
    both i zero d lt within = absurd (omega arith)
    both zero (suc j) d lt within = h (get_or xs j d) (Contains-get_or xs j d (omega arith))
    both (suc i) (suc j) d lt within = pairs i j d (omega arith) (omega arith)

-- those of two lists
pub pairs-append : {X : Type 0} (R : X → X → Type 0) (xs ys : List X) → AllPairs R xs → AllPairs R ys
    → ((x y : X) → Contains xs x → Contains ys y → R x y) → AllPairs R (xs ++ ys)
pairs-append R [] ys pairs others across = others
pairs-append R (x ∷ xs) ys pairs others across = one_pair_more R x (xs ++ ys)
    (λ y there. ⊎_elim (λ own. first_pair R x xs y pairs own) (λ other. across x y (first_there xs x) other)
    (Contains-append_cases xs ys y there))
    (pairs-append R xs ys (later_pairs R x xs pairs) others (λ z y here there. across z y
    (later_there xs z x here) there))

-- what follows of each two
pub pairs_then : {X : Type 0} (R S : X → X → Type 0) (xs : List X)
    → ((x y : X) → Contains xs x → Contains xs y → R x y → S x y) → AllPairs R xs → AllPairs S xs
pairs_then R S xs follows pairs = λ i j d lt within.
    follows (get_or xs i d) (get_or xs j d) (Contains-get_or xs i d (omega arith)) (Contains-get_or xs j d within)
    (pairs i j d lt within)

-- two that are alike are one
pub one_alike : {X Y : Type 0} (f : X → Y) (xs : List X) (x y : X) → AllPairs (λ a b. f a ≢ f b) xs → Contains xs x
    → Contains xs y → f x ≡ f y → x ≡ y
one_alike f [] x y apart here there same = absurd (none_there x here)
one_alike f (z ∷ xs) x y apart here there same =
    ⊎_elim (λ x_first. ⊎_elim (λ y_first. sym x_first ∙ y_first)
    (λ y_later. absurd (first_pair (λ a b. f a ≢ f b) z xs y apart y_later (rw x_first same)))
    (there_cases xs y z there))
    (λ x_later. ⊎_elim (λ y_first. absurd (first_pair (λ a b. f a ≢ f b) z xs x apart x_later
    (rw y_first (sym same))))
    (λ y_later. one_alike f xs x y (later_pairs (λ a b. f a ≢ f b) z xs apart) x_later y_later same)
    (there_cases xs y z there))
    (there_cases xs x z here)

-- around an element
around : {X : Type 0} (xs : List X) (x : X) → Contains xs x
    → (before : List X) × (after : List X) × (xs ≡ before ++ x ∷ after)
around [] x h = absurd (none_there x h)
around (y ∷ xs) x h = ⊎_elim (λ same. ([], xs, ap (λ z. z ∷ xs) same))
    (λ later. let rest = around xs x later in (y ∷ rest.0, rest.1, ap (λ zs. y ∷ zs) rest.2))
    (there_cases xs x y h)

without : {X : Type 0} (before after : List X) (x y : X) → Contains (before ++ x ∷ after) y
    → (x ≡ y) ⊎ Contains (before ++ after) y
without before after x y h = ⊎_elim (λ in_before. inr (Contains-append_left before after y in_before))
    (λ rest. ⊎_elim (λ same. inl same) (λ in_after. inr (Contains-append_right before after y in_after))
    (there_cases after y x rest))
    (Contains-append_cases before (x ∷ after) y h)

-- distinct elements are no more than those among which they are
pub no_more : {X : Type 0} (xs ys : List X) → AllPairs (λ x y. x ≢ y) xs
    → ((x : X) → Contains xs x → Contains ys x) → length xs ≤ length ys
no_more [] ys distinct within = omega arith
no_more (x ∷ xs) ys distinct within =
    let split = around ys x (within x (first_there xs x)) in
    let size = ap length split.2 ∙ length-append split.0 (x ∷ split.1) in
    let less = length-append split.0 split.1 in
    let rest = no_more xs (split.0 ++ split.1) (later_pairs (λ a b. a ≢ b) x xs distinct)
    (λ z c. ⊎_elim (λ same. absurd (first_pair (λ a b. a ≢ b) x xs z distinct c same)) (λ kept. kept)
    (without split.0 split.1 x z (rw split.2 at (within z (later_there xs z x c))))) in
    omega arith

-- of distinct elements with distinct images
pub pairs-map : {X Y : Type 0} (f : X → Y) (xs : List X) → AllPairs (λ x y. f x ≢ f y) xs
    → AllPairs (λ x y. x ≢ y) (map f xs)
pairs-map f [] apart = λ i j d lt within. absurd (omega arith)
pairs-map f (x ∷ xs) apart = one_pair_more (λ a b. a ≢ b) (f x) (map f xs)
    (λ y there. let from = of_mapped f xs y there in
    λ same. first_pair (λ a b. f a ≢ f b) x xs from.0 apart from.1 (same ∙ sym from.2))
    (pairs-map f xs (later_pairs (λ a b. f a ≢ f b) x xs apart))
