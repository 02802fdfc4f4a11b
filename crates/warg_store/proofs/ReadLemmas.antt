-- What was read of a file, as the whole of it.
use Rattle.std.proofs.Common.{◌≡◌, inl, inr, ℕ, zero, suc, ◌+◌, ◌*◌, ◌/◌, ◌%◌, ◌<◌, ◌≤◌, List, [], ◌∷◌, ◌++◌, Bool, true, ◌&&◌, nat_eq, get_or, length, take, drop, Option, Some, None, refl, sym, ap, ◌∙◌, arith}
use Rattle.std.specs.Prelude.{◌==◌, option_map}
use Rattle.std.specs.Bool.{Decides}
use Rattle.std.specs.Cmp.Lexicographic.{pointwise, bytes_decides}
use Rattle.std.specs.List.{AllByRecursion, flat_map}
use Rattle.std.proofs.lemmas.Bool.{cases_Bool, cases_lt, eqb-true}
use Rattle.std.proofs.lemmas.List.{length-drop, length-take-le, nil_from_length, take_all, take-append-drop}
use Rattle.std.proofs.lemmas.Slice.Eq.{slice_eq-Decides}
use Rattle.std.proofs.Math.Bool.{and-true}
use Rattle.warg_paths.specs.Pieces.{pieces, hashes_of}
use Rattle.warg_tiles.specs.EntryBundles.{bundle_of}
use Rattle.warg_protobuf.proofs.ForCallers.{all_parts}
use Rattle.warg_store.specs.Log.{AreShort}
use Rattle.warg_store.proofs.OptionLemmas.{one_value, no_value}

-- what was read up to a length, and isn't longer, is the file
pub whole_read : (o : Option (List ℕ)) (bytes : List ℕ) (most : ℕ) → Some bytes ≡ option_map (take (most + 1)) o
    → length bytes ≤ most → o ≡ Some bytes
whole_read None bytes most read short = cc
whole_read (Some whole) bytes most read short =
    let cut : bytes ≡ take (most + 1) whole = cc in
    elim (cases_lt most (length whole)) [
      | inl more ↦ absurd (omega (
        arith,
        ap (λ (l : List ℕ). length l) cut,
        length-take-le (most + 1) whole (omega (arith, more)),
        short,
      ))
      | inr fits ↦ ap (λ (l : List ℕ). Some l) (sym (cut ∙ take_all (most + 1) whole (omega (arith, fits))))
    ]

-- Bytes are their pieces, one after the other.

pieces_flat : (n : ℕ) (bytes : List ℕ) → length bytes ≡ 32 * n → flat_map (λ d. d) (pieces n bytes) ≡ bytes
unfolding pieces
pieces_flat zero bytes none = sym (nil_from_length bytes (omega (arith, none)))
pieces_flat (suc n) bytes count = ap (λ (l : List ℕ). take 32 bytes ++ l)
    (pieces_flat n (drop 32 bytes) (omega (arith, length-drop 32 bytes, count)))
    ∙ take-append-drop 32 bytes

pieces_count : (n : ℕ) (bytes : List ℕ) → length (pieces n bytes) ≡ n
unfolding pieces
pieces_count zero bytes = refl
pieces_count (suc n) bytes = omega (arith, pieces_count n (drop 32 bytes))

pub hashes_flat : (bytes : List ℕ) (digests : List (List ℕ)) → hashes_of bytes ≡ Some digests
    → (flat_map (λ d. d) digests ≡ bytes) × (length bytes ≡ 32 * length digests)
hashes_flat bytes digests is = elim (cases_Bool (length bytes % 32 == 0)) [
  | inl even ↦
      let left : length bytes % 32 ≡ 0 = eqb-true (length bytes % 32) 0 even in
      let count : length bytes ≡ 32 * (length bytes / 32) = omega (arith, left) in
      let same : pieces (length bytes / 32) bytes ≡ digests = one_value refl (rw even at is) in (
        ap (flat_map (λ (d : List ℕ). d)) (sym same) ∙ pieces_flat (length bytes / 32) bytes count,
        omega (arith, count, ap (λ (l : List (List ℕ)). length l) same, pieces_count (length bytes / 32) bytes),
      )
  | inr odd ↦ absurd (no_value refl (rw odd at is))
]

-- a tile's file, where its digests were read
pub tile_whole : (o : Option (List ℕ)) (bytes : List ℕ) (digests : List (List ℕ))
    → Some bytes ≡ option_map (take (8192 + 1)) o → hashes_of bytes ≡ Some digests → length digests ≤ 256
    → o ≡ Some (flat_map (λ digest. digest) digests)
tile_whole o bytes digests read hashes wide =
    let are = hashes_flat bytes digests hashes in
    whole_read o bytes 8192 read (omega (arith, are.1, wide)) ∙ ap (λ (b : List ℕ). Some b) (sym are.0)

-- Entries of a bundle's bytes are short: two bytes have their length.

all_low : (bytes : List ℕ) → ((i : ℕ) → get_or bytes i 0 < 256) → AllByRecursion (λ b. b < 256) bytes
all_low [] low = tt
all_low (b ∷ bytes) low = (low 0, all_low bytes (λ i. low (suc i)))

short_in : (entries : List (List ℕ)) → AllByRecursion (λ b. b < 256) (bundle_of entries) → AreShort entries
unfolding bundle_of
short_in [] all = tt
short_in (entry ∷ entries) all = (
  omega (arith, all.0),
  short_in entries (all_parts (λ b. b < 256) entry (bundle_of entries) all.1.1).1,
)

pub bundle_short : (entries : List (List ℕ)) (bytes : List ℕ) → bytes ≡ bundle_of entries
    → ((i : ℕ) → get_or bytes i 0 < 256) → AreShort entries
bundle_short entries bytes is low = short_in entries (rw (← is) (all_low bytes low))

-- What `==` says of digests, and of rows of them.

pub digest_decides : (a b : List ℕ) → Decides (pointwise nat_eq a b && true) (a ≡ b)
digest_decides a b = (
  λ t. (bytes_decides a b).0 (sym (and-true (pointwise nat_eq a b)) ∙ t),
  λ e. and-true (pointwise nat_eq a b) ∙ (bytes_decides a b).1 e,
)

pub digests_decide : (xs ys : List (List ℕ)) (r : Bool) → r ≡ pointwise (λ a b. pointwise nat_eq a b && true) xs ys
    → (r ≡ true → xs ≡ ys) × (xs ≡ ys → r ≡ true)
digests_decide xs ys r is = slice_eq-Decides digest_decides xs ys r is
