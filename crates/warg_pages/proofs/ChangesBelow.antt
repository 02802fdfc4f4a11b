-- What insertions below a prefix put under key digests.
use Rattle.std.proofs.Common.{◌≡◌, ℕ, suc, ◌+◌, ◌-◌, Bool, true, false, cond, not, ◌||◌, ◌&&◌, eqb, List, [], ◌∷◌, length, Option, Some, None, refl, sym, ◌∙◌, arith}
use Rattle.std.proofs.lemmas.Bool.{and_parts, false_from_ne_true, eqb-true}
use Rattle.std.proofs.lemmas.List.Elements.{All-cons, All-nil}
use Rattle.std.specs.Option.{option_or, option_map}
use Rattle.std.specs.List.{All, filter, list_all, slice_get}
use Rattle.warg_crypto.specs.Collisions.{GivesHashes}
use Rattle.warg_crypto.specs.Tree.{leaf_digest}
use Rattle.warg_map.specs.Bits.{key_bits, last_bits}
use Rattle.warg_map.specs.Last.{last_with, same_bits}
use Rattle.warg_map.proofs.ForCallers.{same_bits-true, same_bits-itself, same_digest}
use Rattle.warg_pages.specs.Prefixes.{is_below, last_place}
use Rattle.warg_pages.specs.Private.Updates.{ChangeAt, changes_below}
use Rattle.warg_pages.proofs.LastPassing.{place_some, place_none}

-- the last element of a list
abbrev pub last_of : {X : Type 0} → List X → Option X
last_of [] = None
last_of (x ∷ xs) = option_or (last_of xs) (Some x)

pub last_of-get : {X : Type 0} (xs : List X) → slice_get xs (length xs - 1) ≡ last_of xs
last_of-get [] = refl
last_of-get (x ∷ []) = refl
last_of-get (x ∷ y ∷ xs) =
    let at : length (x ∷ y ∷ xs) - 1 ≡ suc (length (y ∷ xs) - 1) = omega arith in
    rw at (last_of-get (y ∷ xs) ∙ grind arith)

pub last_of-none : {X : Type 0} (xs : List X) → last_of xs ≡ None → xs ≡ []
last_of-none [] e = refl
last_of-none (x ∷ xs) e = absurd (grind arith)

-- what the last insertion below a prefix puts there
abbrev pub put_by : (List ℕ → List ℕ) → ℕ → List ℕ × List ℕ → ChangeAt
put_by H number e = record { key = H e.0; leaf = leaf_digest H e.1; version = number }

abbrev pub later_change : (List ℕ → List ℕ) → List Bool → ℕ → List (List ℕ × List ℕ) → Option ChangeAt
later_change H p n es = option_map (put_by H (n + last_place (is_below H p) es)) (last_with (is_below H p) es)

pub last_change : (H : List ℕ → List ℕ) (p : List Bool) (n : ℕ) (es : List (List ℕ × List ℕ))
    → last_of (changes_below H n es p) ≡ later_change H p n es
unfolding last_with last_place
last_change H p n [] = refl
last_change H p n (x ∷ es) = either (is_below H p x) _ refl (last_change H p (n + 1) es)
  where
    either : (b : Bool) (o : Option (List ℕ × List ℕ)) → last_with (is_below H p) es ≡ o
        → last_of (changes_below H (n + 1) es p) ≡ later_change H p (n + 1) es
        → last_of (cond b (put_by H (n + 1) x ∷ changes_below H (n + 1) es p) (changes_below H (n + 1) es p))
        ≡ option_map (put_by H (n + cond (eqb (last_place (is_below H p) es) 0) (cond b 1 0)
        (suc (last_place (is_below H p) es)))) (option_or (last_with (is_below H p) es) (cond b (Some x) None))
    either true None e rest = let z = place_none _ es e in rw (rest, e, z) refl
    either false None e rest = rw (rest, e) refl
    either b (Some y) e rest =
        let some = place_some _ es y e in
        let no : eqb (last_place (is_below H p) es) 0 ≡ false = false_from_ne_true _
        (λ t. let z = eqb-true _ 0 t in omega arith) in
        let number : n + 1 + last_place (is_below H p) es ≡ n + suc (last_place (is_below H p) es) = omega arith in
        let same : last_of (changes_below H (n + 1) es p)
        ≡ Some (put_by H (n + suc (last_place (is_below H p) es)) y) = rw (rest, e, number) refl in
        rw (e, no) (grind (arith, same))

-- where they are of one key, all insertions below the prefix are
pub all_of_key : (H : List ℕ → List ℕ) (p : List Bool) (n : ℕ) (key : List ℕ) (es : List (List ℕ × List ℕ))
    → All (λ c. c.key ≡ key) (changes_below H n es p)
    → list_all (λ f. not (is_below H p f) || same_bits (last_bits key 256) (key_bits H f.0)) es ≡ true
all_of_key H p n key [] all = refl
all_of_key H p n key (x ∷ es) all = either (is_below H p x) (all_of_key H p (n + 1) key es) all
  where
    either : (b : Bool) → (All (λ c. c.key ≡ key) (changes_below H (n + 1) es p)
        → list_all (λ f. not (is_below H p f) || same_bits (last_bits key 256) (key_bits H f.0)) es ≡ true)
        → All (λ c. c.key ≡ key) (cond b (put_by H (n + 1) x ∷ changes_below H (n + 1) es p)
        (changes_below H (n + 1) es p))
        → ((not b || same_bits (last_bits key 256) (key_bits H x.0)) && list_all
        (λ f. not (is_below H p f) || same_bits (last_bits key 256) (key_bits H f.0)) es) ≡ true
    either true more all =
        let here : H x.0 ≡ key = all 0 (put_by H (n + 1) x) (omega arith) in
        let same : same_bits (last_bits key 256) (key_bits H x.0) ≡ true =
        rw here (same_bits-itself (last_bits key 256)) in
        rw (same, more (λ i d lt. all (suc i) d (omega arith))) refl
    either false more all = more all

pub all_one_key : (H : List ℕ → List ℕ) → GivesHashes H → (p : List Bool) (n : ℕ) (e : List ℕ × List ℕ)
    (es : List (List ℕ × List ℕ)) → list_all (λ f. not (is_below H p f) || same_bits (key_bits H e.0) (key_bits H f.0))
    es ≡ true → All (λ c. c.key ≡ H e.0) (changes_below H n es p)
all_one_key H gives p n e [] all = All-nil (λ (c : ChangeAt). c.key ≡ H e.0)
all_one_key H gives p n e (x ∷ es) all =
    let parts = and_parts _ _ all in
    either (is_below H p x) parts.0 (all_one_key H gives p (n + 1) e es parts.1)
  where
    either : (b : Bool) → (not b || same_bits (key_bits H e.0) (key_bits H x.0)) ≡ true
        → All (λ c. c.key ≡ H e.0) (changes_below H (n + 1) es p)
        → All (λ c. c.key ≡ H e.0) (cond b (put_by H (n + 1) x ∷ changes_below H (n + 1) es p)
        (changes_below H (n + 1) es p))
    either true t rest = All-cons (λ (c : ChangeAt). c.key ≡ H e.0) (put_by H _ x) _
        (sym (same_digest H e.0 x.0 (gives _) (gives _) (same_bits-true _ _ t))) rest
    either false t rest = rest

-- a byte more
pub filtered_again : {X : Type 0} (p q r : X → Bool) → (xs : List X) → All (λ x. r x ≡ (p x && q x)) xs
    → filter r xs ≡ filter q (filter p xs)
filtered_again p q r [] h = refl
filtered_again {X = X} p q r (x ∷ xs) h = either (r x) (p x) (q x)
    (filtered_again p q r xs (λ i d lt. h (suc i) d (omega arith))) (h 0 x (omega arith)) refl
  where
    either : (c a b : Bool) → filter r xs ≡ filter q (filter p xs) → c ≡ (a && b) → q x ≡ b
        → cond c (x ∷ filter r xs) (filter r xs) ≡ filter q (cond a (x ∷ filter p xs) (filter p xs))
    either c a b rest e is = grind arith
