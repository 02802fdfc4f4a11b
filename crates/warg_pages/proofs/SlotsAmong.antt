-- Whether slots stand among some numbers.
use Rattle.std.proofs.Common.{◌≡◌, ℕ, ◌+◌, ◌^◌, ◌<◌, ◌≤◌, Bool, true, false, ◌&&◌, leb, ltb, List, [], ◌∷◌, ◌++◌, length, take, drop, refl, sym, ap, ◌∙◌, arith, suc}
use Rattle.std.proofs.lemmas.Bool.{false_from_ne_true, leb-true, ltb-true, lt-ltb, le-leb}
use Rattle.std.proofs.lemmas.List.{take-append-drop}
use Rattle.std.specs.List.{All, list_any}
use Rattle.warg_pages.specs.Slots.{SlotAt}
use Rattle.warg_pages.specs.PagePeers.{stands_among}

module _ (first end : ℕ) where
  abbrev is_among : SlotAt → Bool
  is_among x = leb first x.byte && ltb x.byte end

  fails_all : (xs ys : List SlotAt) → All (λ x. x.byte < first) xs
      → list_any (is_among) (xs ++ ys) ≡ list_any (is_among) ys
  fails_all [] ys h = refl
  fails_all (x ∷ xs) ys h =
      let low : x.byte < first = h 0 x (omega arith) in
      let no : leb first x.byte ≡ false = false_from_ne_true _ (λ e. let le = leb-true first x.byte e in omega arith) in
      rw no (fails_all xs ys (λ i d lt. h (suc i) d (omega arith)))

  fails_above : (xs : List SlotAt) → All (λ x. end ≤ x.byte) xs → list_any (is_among) xs ≡ false
  fails_above [] h = refl
  fails_above (x ∷ xs) h =
      let high : end ≤ x.byte = h 0 x (omega arith) in
      let no : ltb x.byte end ≡ false = false_from_ne_true _ (λ e. let lt = ltb-true x.byte end e in omega arith) in
      rw (no, fails_above xs (λ i d lt. h (suc i) d (omega arith))) (grind arith)

  passes_first : (ys zs : List SlotAt) → 0 < length ys → All (λ x. first ≤ x.byte) (ys ++ zs)
      → All (λ x. x.byte < end) ys → list_any (is_among) (ys ++ zs) ≡ true
  passes_first [] zs some from to = absurd (omega arith)
  passes_first (y ∷ ys) zs some from to =
      rw (
        le-leb first y.byte (from 0 y (omega arith)),
        lt-ltb y.byte end (to 0 y (omega arith)),
      ) refl

pub none_among : (first k m n : ℕ) (xs : List SlotAt) → All (λ x. x.byte < first) (take m xs)
    → All (λ x. first + 2 ^ k ≤ x.byte) (drop n (drop m xs)) → length (take n (drop m xs)) ≡ 0 → stands_among xs first k
    ≡ false
none_among first k m n xs below above none =
    rw (← take-append-drop m xs) (fails_all first _
    _ _ below ∙ ap (list_any _) (sym (take-append-drop n _)
    ∙ nothing _ none) ∙ fails_above first (first + 2 ^ k) _ above)
  where
    nothing : (ys : List SlotAt) → length ys ≡ 0 → ys ++ drop n (drop m xs) ≡ drop n (drop m xs)
    nothing [] e = refl
    nothing _ e = absurd (omega arith)

pub some_among : (first k m n : ℕ) (xs : List SlotAt) → All (λ x. first ≤ x.byte) (drop m xs)
    → All (λ x. x.byte < first + 2 ^ k) (take n (drop m xs)) → 0 < length (take n (drop m xs))
    → All (λ x. x.byte < first) (take m xs) → stands_among xs first k ≡ true
some_among first k m n xs from to some below =
    rw (← take-append-drop m xs) (fails_all first _
    _ _ below ∙ ap (list_any _) (sym (take-append-drop n _))
    ∙ passes_first first (first + 2 ^ k) _ _ some (rw (take-append-drop n _) from) to)
