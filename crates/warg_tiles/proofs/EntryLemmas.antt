-- Entry bundles, entry by entry.
use Rattle.std.proofs.Common.{◌≡◌, ◌≢◌, ℕ, ◌+◌, ◌<◌, List, [], ◌∷◌, ◌++◌, ◌==◌, false, length, take, map, slice_index_or, refl, sym, ap, arith}
use Rattle.std.proofs.lemmas.Bool.{eqb-false}
use Rattle.std.specs.List.{AllByRecursion}
use Rattle.std.proofs.lemmas.List.{append_assoc, append-nil, map_more, take_at, drop_at}
use Rattle.warg_tiles.specs.EntryBundles.{two_bytes, bundle_of}

-- a bundle with one entry more
pub bundle_of-push : (entries : List (List ℕ)) (entry : List ℕ) → bundle_of (entries ++ entry ∷ [])
    ≡ bundle_of entries ++ (two_bytes (length entry) ++ entry)
unfolding bundle_of
bundle_of-push [] entry = ap (λ l. two_bytes (length entry) ++ l) (append-nil entry)
bundle_of-push (first ∷ entries) entry = grind (arith, bundle_of-push entries entry, append_assoc)

-- two entries that begin one text are one, and so is what stands behind them
same_first : (x y xs ys : List ℕ) → two_bytes (length x) ++ (x ++ xs) ≡ two_bytes (length y) ++ (y ++ ys)
    → (x ≡ y) × (xs ≡ ys)
same_first x y xs ys is = grind (arith, take_at x xs (length x) refl, take_at, drop_at x xs (length x) refl, drop_at)

-- bytes that are no entry and what stands behind it are cut short
pub none_left : (xs ys : List (List ℕ)) (rest : List ℕ) → AllByRecursion (λ e. length e < 65536) xs
    → AllByRecursion (λ e. length e < 65536) ys → 0 < length rest
    → ((entry behind : List ℕ) → length entry < 65536 → rest ≢ two_bytes (length entry) ++ (entry ++ behind))
    → bundle_of xs ++ rest ≢ bundle_of ys
unfolding bundle_of
none_left [] [] rest small also some none is = omega (arith, ap length is)
none_left [] (y ∷ ys) rest small also some none is = none y (bundle_of ys) also.0 is
none_left (x ∷ xs) [] rest small also some none is = omega (arith, ap length is)
none_left (x ∷ xs) (y ∷ ys) rest small also some none is = grind
    (arith, none_left xs ys rest small.1 also.1 some none, same_first, append_assoc)

-- an entry more is read
pub read_more : (bytes : List ℕ) (before : List (List ℕ)) (entry rest behind : List ℕ)
    → bytes ≡ bundle_of before ++ rest → rest ≡ two_bytes (length entry) ++ (entry ++ behind)
    → bytes ≡ bundle_of (before ++ entry ∷ []) ++ behind
read_more bytes before entry rest behind read first = grind (arith, bundle_of-push, append_assoc)

-- an entry more is written
pub written_more : {X : Type 0} (f : X → List ℕ) (xs : List X) (i : ℕ) (x : X) → i < length xs → slice_index_or xs i x
    ≡ x
    → bundle_of (map f (take i xs)) ++ (two_bytes (length (f x)) ++ f x) ≡ bundle_of (map f (take (i + 1) xs))
written_more f xs i x inside is = rw (map_more f xs i x inside, is) (sym (bundle_of-push (map f (take i xs)) (f x)))

-- something is left
pub some_left : (rest : List ℕ) → (length rest == 0) ≡ false → 0 < length rest
some_left rest is = let other : length rest ≢ 0 = eqb-false (length rest) 0 is in omega arith

-- as many entries at the head of a bundle's bytes are the bundle's first
pub bundle_once : (xs ys : List (List ℕ)) (rest : List ℕ) → length xs ≡ length ys → bundle_of xs ++ rest ≡ bundle_of ys
    → xs ≡ ys
unfolding bundle_of
bundle_once [] [] rest count is = refl
bundle_once [] (y ∷ ys) rest count is = absurd (omega (arith, count))
bundle_once (x ∷ xs) [] rest count is = absurd (omega (arith, count))
bundle_once (x ∷ xs) (y ∷ ys) rest count is =
    let more = same_first x y (bundle_of xs ++ rest) (bundle_of ys)
    (rw (← append_assoc x (bundle_of xs) rest) is) in
    let behind = bundle_once xs ys rest (omega (arith, count)) more.1 in
    rw more.0 (rw behind refl)

-- a bundle's bytes are those of its entries alone
pub bundle_same : (xs ys : List (List ℕ)) → bundle_of xs ≡ bundle_of ys → xs ≡ ys
unfolding bundle_of
bundle_same [] [] is = refl
bundle_same [] (y ∷ ys) is = absurd (cc)
bundle_same (x ∷ xs) [] is = absurd (cc)
bundle_same (x ∷ xs) (y ∷ ys) is =
    let more = same_first x y (bundle_of xs) (bundle_of ys) is in
    rw more.0 (rw (bundle_same xs ys more.1) refl)
