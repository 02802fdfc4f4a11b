-- Elements of lists that are made of others.
use Rattle.std.proofs.Common.{◌≡◌, ◌⊎◌, ℕ, zero, suc, Bool, true, List, [], ◌∷◌, map, refl, sym, ap, ◌∙◌, inl, inr, arith}
use Rattle.std.specs.List.{Contains, filter, flat_map}
use Rattle.std.specs.declared.alloc.Global.{Global}
use Rattle.std.specs.declared.vec.Vec.{Vec}
use Rattle.std.proofs.lemmas.Bool.{cases_Bool}
use Rattle.std.proofs.lemmas.List.Elements.{Contains-append_left, Contains-append_right, Contains-append_cases}

-- the bytes of vectors
abbrev pub items_of : List (Vec ℕ Global) → List (List ℕ)
items_of vectors = map (λ (v : Vec ℕ Global). v.items) vectors

-- nothing is an element of no list
pub none_there : {X : Type 0} (x : X) → Contains [] x → ⊥
none_there x h = let lt = h.1 in absurd (omega arith)

-- the first element, and the others
pub first_is : {X : Type 0} (xs : List X) {x y : X} → y ≡ x → Contains (y ∷ xs) x
first_is xs e = (0, omega arith, e)

pub first_there : {X : Type 0} (xs : List X) (x : X) → Contains (x ∷ xs) x
first_there xs x = first_is xs refl

pub later_there : {X : Type 0} (xs : List X) (x y : X) → Contains xs x → Contains (y ∷ xs) x
later_there xs x y h = Contains-append_right (y ∷ []) xs x h

pub of_one : {X : Type 0} (y x : X) → Contains (y ∷ []) x → y ≡ x
of_one y x (zero, lt, e) = e
of_one y x (suc k, lt, e) = absurd (omega (arith, lt))

pub there_cases : {X : Type 0} (xs : List X) (x y : X) → Contains (y ∷ xs) x → (y ≡ x) ⊎ Contains xs x
there_cases xs x y h = elim (Contains-append_cases (y ∷ []) xs x h) [
  | inl one ↦ inl (of_one y x one)
  | inr more ↦ inr more
]

-- what is made of an element
pub mapped_there : {X Y : Type 0} (f : X → Y) (xs : List X) (x : X) → Contains xs x → Contains (map f xs) (f x)
mapped_there f [] x h = absurd (none_there x h)
mapped_there f (y ∷ xs) x h = elim (there_cases xs x y h) [
  | inl e ↦ first_is (map f xs) (ap f e)
  | inr more ↦ later_there (map f xs) (f x) (f y) (mapped_there f xs x more)
]

pub of_mapped : {X Y : Type 0} (f : X → Y) (xs : List X) (y : Y) → Contains (map f xs) y
    → (x : X) × Contains xs x × (f x ≡ y)
of_mapped f [] y h = absurd (none_there y h)
of_mapped f (x ∷ xs) y h = elim (there_cases (map f xs) y (f x) h) [
  | inl e ↦ (x, first_there xs x, e)
  | inr more ↦ let found = of_mapped f xs y more in (found.0, later_there xs found.0 x found.1, found.2)
]

-- an element that passes a test
pub passed_there : {X : Type 0} (p : X → Bool) (xs : List X) (x : X) → p x ≡ true → Contains xs x
    → Contains (filter p xs) x
passed_there p [] x passes h = absurd (none_there x h)
passed_there p (y ∷ xs) x passes h = elim (there_cases xs x y h) [
  | inl e ↦ rw (ap p e ∙ passes) (first_is (filter p xs) e)
  | inr more ↦ elim (cases_Bool (p y)) [
    | inl t ↦ rw t (later_there (filter p xs) x y (passed_there p xs x passes more))
    | inr f ↦ rw f (passed_there p xs x passes more)
  ]
]

pub of_passed : {X : Type 0} (p : X → Bool) (xs : List X) (x : X) → Contains (filter p xs) x
    → (p x ≡ true) × Contains xs x
of_passed p [] x h = absurd (none_there x h)
of_passed p (y ∷ xs) x h = elim (cases_Bool (p y)) [
  | inl t ↦ elim (there_cases (filter p xs) x y (rw t at h)) [
    | inl e ↦ (sym (ap p e) ∙ t, first_is xs e)
    | inr more ↦ let found = of_passed p xs x more in (found.0, later_there xs x y found.1)
  ]
  | inr f ↦ let found = of_passed p xs x (rw f at h) in (found.0, later_there xs x y found.1)
]

-- what is made of elements, one list of each
pub joined_there : {X Y : Type 0} (f : X → List Y) (xs : List X) (x : X) (y : Y) → Contains xs x → Contains (f x) y
    → Contains (flat_map f xs) y
joined_there f [] x y h here = absurd (none_there x h)
joined_there f (z ∷ xs) x y h here = elim (there_cases xs x z h) [
  | inl e ↦ Contains-append_left (f z) (flat_map f xs) y (rw e here)
  | inr more ↦ Contains-append_right (f z) (flat_map f xs) y (joined_there f xs x y more here)
]

pub of_joined : {X Y : Type 0} (f : X → List Y) (xs : List X) (y : Y) → Contains (flat_map f xs) y
    → (x : X) × Contains xs x × Contains (f x) y
of_joined f [] y h = absurd (none_there y h)
of_joined f (x ∷ xs) y h = elim (Contains-append_cases (f x) (flat_map f xs) y h) [
  | inl here ↦ (x, first_there xs x, here)
  | inr more ↦ let found = of_joined f xs y more in (found.0, later_there xs found.0 x found.1, found.2)
]
