-- Lemmas for the proofs of the crates above, over public definitions alone.
use Rattle.std.proofs.Common.{◌≡◌, ℕ, ◌+◌, ◌<◌, ◌≤◌, List, [], ◌∷◌, ◌++◌, length, map, take, drop, get_or, Option, None, Ok, refl, sym, ap, ◌∙◌, subst, append_assoc, arith}
use Rattle.std.specs.List.{AllByRecursion, flat_map}
use Rattle.std.proofs.lemmas.List.Elements.{All-from_recursion}
use Rattle.std.proofs.lemmas.Grind.{common_steps}
use Rattle.std.proofs.lemmas.List.{take_more, take_all, drop_all}
use Rattle.warg_protobuf.specs.declared.value_error.DecodeError.{DecodeError}
use Rattle.warg_protobuf.specs.Decoding.{unless, earlier, first_fault}

-- what holds of each element of two lists holds of each element of both in a row
pub all_append : {X : Type 0} (P : X → Type 0) (xs ys : List X) → AllByRecursion P xs → AllByRecursion P ys
    → AllByRecursion P (xs ++ ys)
all_append P [] ys p q = q
all_append P (x ∷ xs) ys p q = (p.0, all_append P xs ys p.1 q)

-- what follows from what holds of each element holds of each
pub all_weaken : {X : Type 0} (P Q : X → Type 0) → ((x : X) → P x → Q x) → (xs : List X) → AllByRecursion P xs
    → AllByRecursion Q xs
all_weaken P Q into [] all = tt
all_weaken P Q into (x ∷ xs) all = (into x all.0, all_weaken P Q into xs all.1)

-- and of one element more
pub all_push : {X : Type 0} (P : X → Type 0) (xs : List X) (x : X) → AllByRecursion P xs → P x
    → AllByRecursion P (xs ++ x ∷ [])
all_push P xs x all last = all_append P xs (x ∷ []) all (last, tt)

-- two lists in a row, each of whose elements it holds of
pub all_parts : {X : Type 0} (P : X → Type 0) (xs ys : List X) → AllByRecursion P (xs ++ ys) → AllByRecursion P xs
    × AllByRecursion P ys
all_parts P [] ys all = (tt, all)
all_parts P (x ∷ xs) ys all = let p = all_parts P xs ys all.1 in ((all.0, p.0), p.1)

-- what holds of all that is made of the elements says something of each
pub all_flat : {X Y : Type 0} (P : Y → Type 0) (f : X → List Y) (Q : X → Type 0)
    → ((x : X) → AllByRecursion P (f x) → Q x) → (xs : List X) → AllByRecursion P (flat_map f xs) → AllByRecursion Q xs
all_flat P f Q step [] all = tt
all_flat P f Q step (x ∷ xs) all = let p = all_parts P (f x) _ all in (step x p.0, all_flat P f Q step xs p.1)

-- ---- faults

-- of two faults there is none
pub both_none : {E : Type 0} (first second : Option E) → earlier first second ≡ None → (first ≡ None) × (second ≡ None)
both_none first second none = grind arith

-- what the absence of a fault says of an element holds of each
pub all_without : {X E : Type 0} (fault_of : X → Option E) (P : X → Type 0) → ((x : X) → fault_of x ≡ None → P x)
    → (xs : List X) → first_fault fault_of xs ≡ None → AllByRecursion P xs
all_without fault_of P says [] none = tt
all_without fault_of P says (x ∷ xs) none = let p = both_none (fault_of x) (first_fault fault_of xs) none in
    (says x p.0, all_without fault_of P says xs p.1)

-- a value that stands where no fault is
pub no_fault : {X E : Type 0} (fault : Option E) (x y : X) → unless fault x ≡ Ok y → (fault ≡ None) × (x ≡ y)
no_fault fault x y is = grind arith

-- the first fault of what is left, behind an element without one
pub fault_after : {X : Type 0} (fault_of : X → Option DecodeError) (xs : List X) (i : ℕ) (x : X) → i < length xs
    → x ≡ get_or xs i x → fault_of x ≡ None
    → first_fault fault_of (drop i xs) ≡ first_fault fault_of (drop (i + 1) xs)
fault_after fault_of xs i x lt is good = grind (arith, common_steps)

-- the same of messages, of which the front one is read
pub fault_behind : {X Y : Type 0} (fault_of : X → Option DecodeError) (f : Y → X) (ys rest : List Y) (y : Y)
    → ys ≡ y ∷ rest → fault_of (f y) ≡ None
    → first_fault fault_of (map f ys) ≡ first_fault fault_of (map f rest)
fault_behind fault_of f ys rest y is good = rw is (rw good refl)

-- one more is read
pub read_more : {X Y : Type 0} (f : Y → X) (ys rest : List Y) (y : Y) (xs more whole : List X) → ys ≡ y ∷ rest
    → more ≡ xs ++ f y ∷ [] → xs ++ map f ys ≡ whole
    → more ++ map f rest ≡ whole
read_more f ys rest y xs more whole is read before = rw (read, append_assoc) (ap (λ l. xs ++ map f l) (sym is) ∙ before)

-- messages written one after the other
pub written_more : {X Y : Type 0} (f : Y → X) (xs : List X) (i : ℕ) (old : List Y) (y : Y) (new : List Y) (x : X)
    → i < length xs → x ≡ get_or xs i x → f y ≡ x → new ≡ old ++ y ∷ []
    → map f old ≡ take i xs → map f new ≡ take (i + 1) xs
written_more f xs i old y new x lt at is now was = grind (arith, common_steps)

pub written_all : {X Y : Type 0} (f : Y → X) (xs : List X) (i : ℕ) (out : List Y) → map f out ≡ take i xs
    → length xs ≤ i → map f out ≡ xs
written_all f xs i out was all = was ∙ take_all i xs all

pub no_fault_left : {X : Type 0} (fault_of : X → Option DecodeError) (xs : List X) (i : ℕ) → first_fault fault_of xs
    ≡ first_fault fault_of (drop i xs) → length xs ≤ i → first_fault fault_of xs ≡ None
no_fault_left fault_of xs i is all = is ∙ ap (first_fault fault_of) (drop_all i xs all)

-- ---- loops over a list: what holds of its elements so far, and what was made of them

pub all_at : {X : Type 0} (P : X → Type 0) (xs : List X) (i : ℕ) (d : X) → AllByRecursion P xs → i < length xs
    → P (get_or xs i d)
all_at P xs i d all lt = All-from_recursion P xs all i d lt

-- a loop over a list: one more element is looked at, and all are
one_taken : {X : Type 0} (xs : List X) (i : ℕ) (x : X) → i < length xs → x ≡ get_or xs i x
    → take (i + 1) xs ≡ take i xs ++ x ∷ []
one_taken xs i x lt is = take_more xs i x lt ∙ ap (λ y. take i xs ++ y ∷ []) (sym is)

pub all_more : {X : Type 0} (P : X → Type 0) (xs : List X) (i : ℕ) (x : X) → i < length xs → x ≡ get_or xs i x
    → AllByRecursion P (take i xs) → P x
    → AllByRecursion P (take (i + 1) xs)
all_more P xs i x lt is all here = subst (AllByRecursion P) (sym (one_taken xs i x lt is))
    (all_append P (take i xs) (x ∷ []) all (here, tt))

pub all_whole : {X : Type 0} (P : X → Type 0) (xs : List X) (i : ℕ) → AllByRecursion P (take i xs) → length xs ≤ i
    → AllByRecursion P xs
all_whole P xs i all le = subst (AllByRecursion P) (take_all i xs le) all

-- the same of what is made of each element
pub mapped_twice_more : {X Y Z : Type 0} (f : X → Y) (g : Y → Z) (xs : List X) (i : ℕ) (x : X) (old new : List Z)
    (z : Z) → i < length xs → x ≡ get_or xs i x
    → old ≡ map g (map f (take i xs)) → new ≡ old ++ z ∷ [] → z ≡ g (f x) → new ≡ map g (map f (take (i + 1) xs))
mapped_twice_more f g xs i x old new z lt is was now here = grind (arith, common_steps)

pub mapped_twice_whole : {X Y Z : Type 0} (f : X → Y) (g : Y → Z) (xs : List X) (i : ℕ) (out : List Z)
    → out ≡ map g (map f (take i xs)) → length xs ≤ i → out ≡ map g (map f xs)
mapped_twice_whole f g xs i out was le = was ∙ ap (λ l. map g (map f l)) (take_all i xs le)
