-- What a map of insertions holds.
use Rattle.std.proofs.Common.{◌≡◌, ℕ, Bool, true, false, cond, List, [], ◌∷◌, Option, Some, None, refl, sym, ap, ◌∙◌, arith}
use Rattle.std.proofs.lemmas.Bool.{both_ways, cases_order}
use Rattle.std.proofs.lemmas.List.{get_or_default}
use Rattle.std.proofs.lemmas.List.Elements.{All-nil, All-cons, All-contains, Contains-append_right}
use Rattle.std.proofs.lemmas.List.Sorted.{Contains-permutation, IsPermutation-sym}
use Rattle.std.specs.Prelude.{MatchOption}
use Rattle.std.specs.List.{All, Contains}
use Rattle.std.specs.List.Sorted.{IsPermutation}
use Rattle.std.specs.Option.{option_or, option_map}
use Rattle.std.specs.FinMap.{get, insert, empty, get-empty, get-insert}
use Rattle.warg_map.specs.Bits.{key_bits}
use Rattle.warg_crypto.specs.Tree.{leaf_digest}
use Rattle.warg_map.specs.Sparse.{SparseMap, bits_cmp, inserted, map_of, HasDistinctKeys}
use Rattle.warg_map.specs.Last.{last_with, same_bits, last_under}
use Rattle.warg_map.proofs.SparseTree.{bits_total, same_sparse, tied}

-- an insertion before the last one, and one that is the last
either : (f : List ℕ × List ℕ → List ℕ) (later : Option (List ℕ × List ℕ)) (is : Bool) (e : List ℕ × List ℕ)
    (before : Option (List ℕ)) → option_or (option_map f later) (cond is (Some (f e)) before)
    ≡ option_or (option_map f (option_or later (cond is (Some e) None))) before
either f later is e before = grind arith

get-inserted : (H : List ℕ → List ℕ) (bits : List Bool) (m : SparseMap) (es : List (List ℕ × List ℕ))
    → get (inserted H m es) bits ≡ option_or (option_map (λ e. leaf_digest H e.1) (last_under H bits es)) (get m bits)
unfolding inserted last_with
get-inserted H bits m [] = refl
get-inserted H bits m (e ∷ es) =
    rw (get-inserted H bits (insert m (key_bits H e.0) (leaf_digest H e.1)) es, get-insert bits_total)
    (either (λ f. leaf_digest H f.1) (last_under H bits es) (same_bits bits (key_bits H e.0)) e (get m bits))

pub get-map_of : (H : List ℕ → List ℕ) (bits : List Bool) (es : List (List ℕ × List ℕ)) → get (map_of H es) bits
    ≡ option_map (λ e. leaf_digest H e.1) (last_under H bits es)
get-map_of H bits es =
    rw (get-inserted H bits empty es, get-empty bits_cmp bits) (grind arith)

-- the last element that passes a test is one of the list's, and where there is none, no element passes
abbrev IsLast : {X : Type 0} → (X → Bool) → List X → Option X → Type 0
IsLast p xs o = MatchOption o (All (λ x. p x ≡ false) xs) (λ x. Contains xs x × (p x ≡ true))

last_is : {X : Type 0} (p : X → Bool) (xs : List X) → IsLast p xs (last_with p xs)
unfolding last_with
last_is p [] = All-nil _
last_is {X} p (y ∷ xs) = before (last_with p xs) (last_is p xs)
  where
    alone : (b : Bool) → p y ≡ b → All (λ x. p x ≡ false) xs → IsLast p (y ∷ xs) (cond b (Some y) None)
    alone true e h = ((0, omega arith, refl), e)
    alone false e h = All-cons (λ x. p x ≡ false) y xs e h

    before : (o : Option X) → IsLast p xs o → IsLast p (y ∷ xs) (option_or o (cond (p y) (Some y) None))
    before None h = alone (p y) refl h
    before (Some x) h = (Contains-append_right (y ∷ []) xs x h.0, h.1)

-- distinct keys tell insertions apart
same_insertion : {e f : List ℕ × List ℕ} (H : List ℕ → List ℕ) (es : List (List ℕ × List ℕ)) → HasDistinctKeys H es
    → Contains es e → Contains es f → key_bits H e.0 ≡ key_bits H f.0 → e ≡ f
same_insertion {e} {f} H es distinct x y k = grind (arith, get_or_default es y.0 e f y.1, cases_order x.0 y.0)

-- insertions in another order
pub inserted-order : (H : List ℕ → List ℕ) (m : SparseMap) (xs ys : List (List ℕ × List ℕ)) → IsPermutation xs ys
    → HasDistinctKeys H xs → inserted H m xs ≡ inserted H m ys
inserted-order H m xs ys p distinct =
    same_sparse _ _ (λ q. rw (
      get-inserted H q m xs,
      get-inserted H q m ys,
      same_last q _ _ (last_is (under q) xs)
          (last_is (under q) ys),
    ))
  where
    back : IsPermutation ys xs
    back = IsPermutation-sym xs ys p

    under : List Bool → List ℕ × List ℕ → Bool
    under q e = same_bits q (key_bits H e.0)

    same_last : (q : List Bool) (o r : Option (List ℕ × List ℕ)) → IsLast (under q) xs o → IsLast (under q) ys r → o ≡ r
    same_last q None None g h = refl
    same_last q None (Some f) g h =
        absurd (both_ways (under q f) (All-contains (λ x. under q x ≡ false) xs f g
        (Contains-permutation ys xs f back h.0)) h.1)
    same_last q (Some e) None g h =
        absurd (both_ways (under q e) (All-contains (λ x. under q x ≡ false) ys e h
        (Contains-permutation xs ys e p g.0)) g.1)
    same_last q (Some e) (Some f) g h =
        ap Some (same_insertion H xs distinct g.0 (Contains-permutation ys xs f back h.0)
        (sym (tied q (key_bits H e.0) g.1) ∙ tied q (key_bits H f.0) h.1))
