-- The pages that change, by the kinds of their prefixes.
use Rattle.std.proofs.Common.{◌≡◌, ◌≢◌, ℕ, ◌+◌, ◌-◌, ◌<◌, List, [], ◌∷◌, ◌++◌, length, get_or, refl, sym, ap, ◌∙◌, arith, inl, inr, append_assoc, length-append}
use Rattle.std.proofs.lemmas.Bool.{cases_lt}
use Rattle.std.proofs.lemmas.List.{get_or_append_left, get_or-append_right, append_cancel_left, append-nil}
use Rattle.std.proofs.lemmas.List.Elements.{All-append, All-cons, Contains-append_left, Contains-append_right}
use Rattle.std.specs.List.{All, AllPairs, Contains}
use Rattle.warg_pages.specs.ChangedPages.{ChangedPageAt, page_at, ChangesAt}
use Rattle.warg_pages.specs.Private.Updates.{GoesOn, GoesBelow, AreChangedAmong}
use Rattle.std.proofs.Math.Seq.{get_or-append_seam}

-- pairs of two lists
AllPairs-append : {X : Type 0} (R : X → X → Type 0) (xs ys : List X) → AllPairs R xs → AllPairs R ys
    → ((i j : ℕ) (d : X) → i < length xs → j < length ys → R (get_or xs i d) (get_or ys j d)) → AllPairs R (xs ++ ys)
AllPairs-append {X = X} R xs ys one two cross = λ i j d lt within.
    let size : length (xs ++ ys) ≡ length xs + length ys = length-append xs ys in
    elim (cases_lt j (length xs)) [
      | inl left ↦
          let at = get_or_append_left xs ys d i (omega arith) in
          let and = get_or_append_left xs ys d j left in
          rw (at, and) (one i j d lt left)
      | inr right ↦ elim (cases_lt i (length xs)) [
        | inl low ↦
            let at = get_or_append_left xs ys d i low in
            let and = get_or-append_right xs ys _ j d refl right in
            rw (at, and) (cross i (j - length xs) d low (omega arith))
        | inr high ↦
            let at = get_or-append_right xs ys _ i d refl high in
            let and = get_or-append_right xs ys _ j d refl right in
            rw (at, and) (two (i - length xs) (j - length xs) d (omega arith) (omega arith))
      ]
    ]

-- a page that changes, at a prefix of a kind
abbrev IsAmong : (List ℕ → List ℕ) → List (List ℕ × List ℕ) → List (List ℕ × List ℕ) → (List ℕ → Type 0)
    → ChangedPageAt → Type 0
IsAmong H old more Kind c = Kind c.prefix × ChangesAt H old more c.prefix × (c ≡ page_at H (old ++ more) c.prefix)

-- no page
pub none_among : (H : List ℕ → List ℕ) (old more : List (List ℕ × List ℕ)) (Kind : List ℕ → Type 0)
    → ((prefix : List ℕ) → Kind prefix → ChangesAt H old more prefix → ⊥) → AreChangedAmong H old more Kind []
none_among H old more Kind none = record {
  each = λ i d lt. absurd (omega arith);
  all = λ prefix kind changes. absurd (none prefix kind changes);
  once = λ i j d lt within. absurd (omega arith);
}

-- where a prefix goes on with bytes
byte_behind : (front : List ℕ) (x y : ℕ) (rest other : List ℕ) → front ++ x ∷ rest ≡ (front ++ y ∷ []) ++ other → x ≡ y
byte_behind front x y rest other e =
    let same = append_cancel_left front _ _ (e ∙ append_assoc front _ other) in
    cc

-- those of the next byte
pub next_among : (H : List ℕ → List ℕ) (old more : List (List ℕ × List ℕ)) (front : List ℕ) (byte : ℕ)
    (xs ys : List ChangedPageAt) → AreChangedAmong H old more (GoesBelow front byte) xs
    → AreChangedAmong H old more (GoesOn (front ++ byte ∷ [])) ys
    → AreChangedAmong H old more (GoesBelow front (byte + 1)) (xs ++ ys)
next_among H old more front byte xs ys one two = record {
  each = All-append (IsAmong H old more (GoesBelow front (byte + 1))) xs ys
      (λ i d lt. let h = one.each i d lt in ((h.0.0, h.0.1, below h.0.2, h.0.3), h.1, h.2))
      (λ i d lt. let h = two.each i d lt in (
        (byte, h.0.0, omega arith, h.0.1 ∙ append_assoc front _ h.0.0),
        h.1,
        h.2,
      ));
  all = all;
  once = AllPairs-append (λ c d. c.prefix ≢ d.prefix) xs ys one.once two.once (λ i j d lt within e.
      let h = one.each i d lt in
      let g = two.each j d within in
      let low = h.0.2 in
      let same = byte_behind front h.0.0 byte h.0.1 g.0.0 (sym h.0.3 ∙ e ∙ g.0.1) in
      absurd (omega arith));
}
  where
    below : {n : ℕ} → n < byte → n < byte + 1
    below h = omega arith

    all : (prefix : List ℕ) → GoesBelow front (byte + 1) prefix → ChangesAt H old more prefix
        → Contains (xs ++ ys) (page_at H (old ++ more) prefix)
    all prefix kind changes = elim (cases_lt kind.0 byte) [
      | inl low ↦ Contains-append_left xs ys _ (one.all prefix (kind.0, kind.1, low, kind.3) changes)
      | inr high ↦
          let same : kind.0 ≡ byte = omega arith in
          Contains-append_right xs ys _ (two.all prefix (
            kind.1,
            kind.3 ∙ ap (λ n. front ++ n ∷ kind.1) same
                ∙ sym (append_assoc front (byte ∷ []) kind.1),
          ) changes)
    ]

-- and the page at the prefix itself
pub whole_among : (H : List ℕ → List ℕ) (old more : List (List ℕ × List ℕ)) (front : List ℕ) (xs : List ChangedPageAt)
    → AreChangedAmong H old more (GoesBelow front 256) xs → ChangesAt H old more front
    → AreChangedAmong H old more (GoesOn front) (xs ++ page_at H (old ++ more) front ∷ [])
whole_among H old more front xs below here = record {
  each = All-append (IsAmong H old more (GoesOn front)) xs _
      (λ i d lt. let h = below.each i d lt in ((h.0.0 ∷ h.0.1, h.0.3), h.1, h.2))
      (All-cons (IsAmong H old more (GoesOn front))
      (page_at H (old ++ more) front) [] (([], sym (append-nil front)), here, refl)
      (λ i d lt. absurd (omega arith)));
  all = λ prefix kind changes. all prefix kind.0 kind.1 changes;
  once = AllPairs-append (λ c d. c.prefix ≢ d.prefix) xs (page_at H (old ++ more) front ∷ []) below.once
      (λ i j d lt within. absurd (omega arith)) (λ i j d lt within e.
      let h = below.each i d lt in
      let at : j ≡ 0 = omega arith in
      longer_one h.0.0 h.0.1 (sym h.0.3 ∙ e ∙ ap (λ n. (get_or (page_at H (old ++ more) front ∷ []) n d).prefix) at));
}
  where
    longer_one : (b : ℕ) (rest : List ℕ) → ¬ (front ++ b ∷ rest ≡ front)
    longer_one b rest e = let n : length (front ++ b ∷ rest) ≡ length front = ap length e in
        let all = length-append front (b ∷ rest) in absurd (omega arith)

    all : (prefix rest : List ℕ) → prefix ≡ front ++ rest → ChangesAt H old more prefix
        → Contains (xs ++ page_at H (old ++ more) front ∷ []) (page_at H (old ++ more) prefix)
    all prefix [] e changes = let same : prefix ≡ front = e ∙ append-nil front in
        rw same (Contains-append_right xs (page_at H (old ++ more) front ∷ []) (page_at H (old ++ more) front)
        (0, omega arith, refl))
    all prefix (b ∷ rest) e changes =
        let bytes : All (λ n. n < 256) (front ++ b ∷ rest) = rw e at changes.are_bytes in
        let byte : b < 256 = rw (get_or-append_seam front b rest 0) at
        (bytes (length front) 0 (let n = length-append front (b ∷ rest) in omega arith)) in
        Contains-append_left xs _ _ (below.all prefix (b, rest, byte, e) changes)
