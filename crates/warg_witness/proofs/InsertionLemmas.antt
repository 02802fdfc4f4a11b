-- Insertions: the last that passes a test, and their bytes.
use Rattle.std.proofs.Common.{◌≡◌, ℕ, suc, ◌+◌, ◌-◌, ◌<◌, ◌≤◌, Bool, true, false, cond, List, [], ◌∷◌, ◌++◌, length, take, map, reverse, Option, Some, None, IsTrue, ◌↔◌, get_or, refl, sym, ap, ◌∙◌, arith, nat_eq}
use Rattle.std.specs.List.{Contains, find}
use Rattle.std.specs.Option.{option_or, option_map, IfSome}
use Rattle.std.specs.BTreeMap.{BTreeMap, get, Updates}
use Rattle.std.specs.Cmp.Lexicographic.{pointwise, bytes_decides, slice_cmp}
use Rattle.std.specs.Map.{lookup}
use Rattle.std.specs.Ordering.{is_eq, nat_cmp, ordering_then}
use Rattle.std.specs.declared.cmp.Ordering.{Ordering}
use Rattle.std.specs.declared.cmp.Ordering.TheVariants.{Less, Equal, Greater}
use Rattle.std.proofs.lemmas.Map.Text.{is_eq-slice_cmp}
use Rattle.std.proofs.lemmas.List.{get_or-map, length-map, take_more, reverse-append}
use Rattle.std.proofs.lemmas.Slice.Eq.{bytes_eq-Decides}
use Rattle.warg_map.specs.Bits.{key_bits}
use Rattle.warg_map.specs.Sparse.{pair_bytes}
use Rattle.warg_map.specs.Last.{last_with, same_bits, last_under}
use Rattle.warg_crypto.specs.Bytes.{same_bytes}
use Rattle.warg_crypto.specs.Collisions.{GivesHashes}
use Rattle.std.specs.Borrow.{Bor}
use Rattle.warg_witness.specs.MapClaims.{last_insertion, value_in}
use Rattle.warg_witness.specs.Private.MapMeeting.{lent_pair}
use Rattle.warg_map.proofs.ForCallers.{same_bits-itself, same_bits-true, same_digest}

module _ {X : Type 0} (p : X → Bool) where
  -- the last that passes, of one more
  pub last_with-push : (xs : List X) (x : X) → last_with p (xs ++ x ∷ []) ≡ cond (p x) (Some x) (last_with p xs)
  unfolding last_with
  last_with-push [] x = refl
  last_with-push (y ∷ ys) x = grind (arith, last_with-push ys x)

  -- the last one passes, and is among them
  pub last_with-is : (xs : List X) (y : X) → last_with p xs ≡ Some y → (p y ≡ true) × Contains xs y
  unfolding last_with
  last_with-is [] y e = absurd (cc)
  last_with-is (x ∷ xs) y e = step (last_with p xs) (p x) refl (last_with-is xs y) e
    where
      step : (later : Option X) (b : Bool) → p x ≡ b → (later ≡ Some y → (p y ≡ true) × Contains xs y)
          → option_or later (cond b (Some x) None) ≡ Some y → (p y ≡ true) × Contains (x ∷ xs) y
      step (Some z) b here below e = let found = below e in (found.0, (suc found.1.0, omega arith, found.1.2))
      step None true here below e = let same : x ≡ y = cc in (rw same at here, (0, omega arith, same))
      step None false here below e = absurd (cc)

  -- the last that passes a test which fewer pass, where that one does
  pub last_with-fewer : (q : X → Bool) → ((x : X) → q x ≡ true → p x ≡ true) → (xs : List X)
      → IfSome (last_with p xs) (λ y. q y ≡ true) → last_with q xs ≡ last_with p xs
  unfolding last_with
  last_with-fewer q h [] is = refl
  last_with-fewer q h (x ∷ xs) is = grind (arith, h x, last_with-fewer q h xs)

-- the last insertion under a key's digest is the key's last one, where it is of this key or none
pub last_of_digest : (H : List ℕ → List ℕ) (key : List ℕ) (insertions : List (List ℕ × List ℕ))
    → IfSome (last_under H (key_bits H key) insertions) (λ e. key ≡ e.0)
    → last_insertion key insertions ≡ last_under H (key_bits H key) insertions
last_of_digest H key insertions same = grind (
  arith,
  last_with-fewer,
  bytes_eq-Decides,
  same_bits-itself
      (key_bits H key),
)

-- so its value is the key's last one
pub value_of_digest : (H : List ℕ → List ℕ) (key : List ℕ) (insertions : List (List ℕ × List ℕ))
    → (last : Option (List ℕ × List ℕ)) → last_under H (key_bits H key) insertions ≡ last → IfSome last (λ e. key ≡ e.0)
    → value_in (last_insertion key insertions) ≡ value_in last
value_of_digest H key insertions last under same =
    ap value_in (last_of_digest H key insertions (rw under same) ∙ under)

module _ {K V : Type 0} (kb : K → List ℕ) (vb : V → List ℕ) (es : List (K × V)) where
  -- the bytes of the insertion at a place
  pub pair_at : (i : ℕ) (e : K × V) → i < length es → e ≡ get_or es i e → get_or (pair_bytes kb vb es) i ([], [])
      ≡ (kb e.0, vb e.1)
  pair_at i e lt is = get_or-map (λ (f : K × V). (kb f.0, vb f.1)) es i e ([], []) lt
      ∙ ap (λ (f : K × V). (kb f.0, vb f.1)) (sym is)

  pub length-pair_bytes : length (pair_bytes kb vb es) ≡ length es
  length-pair_bytes = length-map es (λ (f : K × V). (kb f.0, vb f.1))

  -- the last insertion of a key among the first n
  pub last_among : (key : List ℕ) (n : ℕ) (e : K × V) (same : Bool) → (IsTrue same ↔ (key ≡ kb e.0)) → 0 < n
      → n ≤ length es → e ≡ get_or es (n - 1) e
      → last_insertion key (take n (pair_bytes kb vb es)) ≡ cond same (Some (kb e.0, vb e.1))
      (last_insertion key (take (n - 1) (pair_bytes kb vb es)))
  last_among key n e same is some le at = grind (
    arith,
    length-pair_bytes,
    take_more (pair_bytes kb vb es) (n - 1)
        ([], []),
    bytes_eq-Decides,
    last_with-push,
    pair_at (n - 1) e,
  )

  -- the last under a key's bits among one insertion more
  pub last_under-more : (H : List ℕ → List ℕ) (key : List ℕ) (i : ℕ) (e : K × V) → i < length es → e ≡ get_or es i e
      → last_under H (key_bits H key) (take (i + 1) (pair_bytes kb vb es))
      ≡ cond (same_bits (key_bits H key) (key_bits H (kb e.0))) (Some (kb e.0, vb e.1))
      (last_under H (key_bits H key) (take i (pair_bytes kb vb es)))
  last_under-more H key i e lt is = grind (
    arith,
    length-pair_bytes,
    take_more (pair_bytes kb vb es) i ([], []),
    last_with-push,
    pair_at i e lt is,
  )

-- what is lent after one insertion more
pub lent_more : {K V : Type 0} (kb : K → List ℕ) (vb : V → List ℕ) (test here : Bool) (e : Bor (K × V))
    → (before after : Option (Bor (K × V))) → after ≡ cond test (Some e) before → test ≡ here
    → (last : Option (List ℕ × List ℕ)) → last ≡ lent_pair kb vb before
    → cond here (Some (kb e.now.0, vb e.now.1)) last ≡ lent_pair kb vb after
lent_more kb vb test true e before after is same last was = rw (is, same) refl
lent_more kb vb test false e before after is same last was = rw (is, same) was

-- the first from the back
find-push : {X : Type 0} (p : X → Bool) (xs : List X) (x : X) → find p (xs ++ x ∷ []) ≡ option_or (find p xs)
    (cond (p x) (Some x) None)
find-push p [] x = grind arith
find-push p (y ∷ ys) x = grind (arith, find-push p ys x)

last_with-map : {X Y : Type 0} (p : Y → Bool) (h : X → Y) (xs : List X) → last_with p (map h xs)
    ≡ option_map h (find (λ x. p (h x)) (reverse xs))
unfolding last_with
last_with-map p h [] = refl
last_with-map p h (x ∷ xs) = rw (reverse-append (x ∷ []) xs, find-push) (grind (arith, last_with-map p h xs))

pub last_found : {X Y Z : Type 0} (p : Y → Bool) (h : X → Y) (v : Z → X) (xs : List X) (found : Option Z)
    → option_map v found ≡ find (λ x. p (h x)) (reverse xs) → last_with p (map h xs) ≡ option_map (λ z. h (v z)) found
last_found p h v xs None is = last_with-map p h xs ∙ ap (option_map h) (sym is)
last_found p h v xs (Some z) is = last_with-map p h xs ∙ ap (option_map h) (sym is)

-- the digests of two keys are compared by their bits
pub same_digest_bits : (H : List ℕ → List ℕ) → GivesHashes H → (key other : List ℕ) → pointwise nat_eq (H other) (H key)
    ≡ same_bits (key_bits H key) (key_bits H other)
same_digest_bits H digests key other =
    grind (
      arith,
      bytes_decides (H other) (H key),
      same_bits-true (key_bits H key) (key_bits H other),
      same_digest H key other (digests key) (digests other),
      same_bits-itself (key_bits H key),
    )

-- what stands under a digest in a map by an order that tells digests apart by their bytes
module _ (R : List ℕ → List ℕ → Ordering) (exact : (a b : List ℕ) → is_eq (R a b) ≡ same_bytes a b) {X : Type 0} where
  pub looked_up : (m : BTreeMap (List ℕ) X) (q : List ℕ) → get R m q ≡ lookup (same_bytes q) m.entries
  looked_up m q = λ i. lookup (λ k. exact q k i) m.entries

  pub looked_up_after : (m n : BTreeMap (List ℕ) X) (k : List ℕ) (w : Option X) → Updates R m n k w
      → (q : List ℕ) → lookup (same_bytes q) n.entries ≡ cond (same_bytes k q) w (lookup (same_bytes q) m.entries)
  looked_up_after m n k w is q = sym (looked_up n q) ∙ is.0 q ∙ (λ i. cond (exact k q i) w (looked_up m q i))

-- the order by bytes, and by nothing else
pub by_bytes : (a b : List ℕ) → is_eq (ordering_then (slice_cmp nat_cmp a b) Equal) ≡ same_bytes a b
by_bytes a b = nothing_more (slice_cmp nat_cmp a b) ∙ is_eq-slice_cmp a b
  where
    nothing_more : (o : Ordering) → is_eq (ordering_then o Equal) ≡ is_eq o
    nothing_more Less = refl
    nothing_more Equal = refl
    nothing_more Greater = refl
