-- The bits of a key digest, by its bytes.
use Rattle.std.proofs.Common.{◌≡◌, ℕ, zero, suc, ◌+◌, ◌-◌, ◌*◌, ◌/◌, ◌%◌, ◌<◌, List, [], ◌∷◌, ◌++◌, length, refl, ap, ◌∙◌, arith}
use Rattle.std.specs.Prelude.{slice_index}
use Rattle.warg_map.specs.Bits.{bit_at, bits_from, last_bits, key_bits}
use Rattle.warg_pages.specs.Prefixes.{byte_bits}
use Rattle.warg_pages.specs.Pages.{slot_height}
use Rattle.warg_pages.specs.PagePeers.{prefix_of}

pub length-bits_from : (bytes : List ℕ) (i n : ℕ) → length (bits_from bytes i n) ≡ n
unfolding bits_from
length-bits_from bytes i zero = refl
length-bits_from bytes i (suc n) = ap suc (length-bits_from bytes (i + 1) n)

-- the bits from a place on, by a part of them
pub bits_from-append : (bytes : List ℕ) (i m n : ℕ) → bits_from bytes i (m + n) ≡ bits_from bytes i m ++ bits_from bytes
    (i + m) n
unfolding bits_from
bits_from-append bytes i zero n =
    let all : zero + n ≡ n = omega arith in
    let at : i + zero ≡ i = omega arith in
    rw (all, at)
bits_from-append bytes i (suc m) n =
    let all : suc m + n ≡ suc (m + n) = omega arith in
    let at : i + suc m ≡ i + 1 + m = omega arith in
    rw (all, at, bits_from-append bytes (i + 1) m n)

-- the same bits elsewhere
pub bits_from-same : (a b : List ℕ) (i j n : ℕ) → ((m : ℕ) → m < n → bit_at a (i + m) ≡ bit_at b (j + m))
    → bits_from a i n ≡ bits_from b j n
unfolding bits_from
bits_from-same a b i j zero h = refl
bits_from-same a b i j (suc n) h = rw (first, bits_from-same a b (i + 1) (j + 1) n rest) refl
  where
    first : bit_at a i ≡ bit_at b j
    first = let at : i + 0 ≡ i = omega arith in let and : j + 0 ≡ j = omega arith in rw (at, and) at (h 0 (omega arith))

    rest : (m : ℕ) → m < n → bit_at a (i + 1 + m) ≡ bit_at b (j + 1 + m)
    rest m lt = let at : i + suc m ≡ i + 1 + m = omega arith in let and : j + suc m ≡ j + 1 + m = omega arith in
        rw (at, and) at (h (suc m) (omega arith))

-- the bits of one byte
pub byte_at_depth : (bytes : List ℕ) (depth : ℕ) → bits_from bytes (8 * depth) 8 ≡ byte_bits (slice_index bytes depth)
byte_at_depth bytes depth = bits_from-same bytes _ _ 0 8 same
  where
    same : (m : ℕ) → m < 8 → bit_at bytes (8 * depth + m) ≡ bit_at (slice_index bytes depth ∷ []) (0 + m)
    same m lt =
        let place : (8 * depth + m) / 8 ≡ depth = omega arith in
        let rest : (8 * depth + m) % 8 ≡ m = omega arith in
        let alone : (0 + m) / 8 ≡ 0 = omega arith in
        let in_it : (0 + m) % 8 ≡ m = omega arith in
        rw (place, rest, alone, in_it) refl

-- a key's bits are those of the bytes before a page, of the slot's byte, and the rest
pub key_split : (H : List ℕ → List ℕ) (key : List ℕ) (depth : ℕ) → depth < 32
    → key_bits H key ≡ prefix_of H key depth ++
    (byte_bits (slice_index (H key) depth) ++ last_bits (H key) (slot_height depth))
key_split H key depth lt =
    let all : 256 ≡ 8 * depth + (8 + slot_height depth) = omega arith in
    let low : 256 - slot_height depth ≡ 8 * depth + 8 = omega arith in
    let at : 0 + 8 * depth ≡ 8 * depth = omega arith in
    ap (bits_from (H key) 0) all ∙ rw (
      bits_from-append (H key) 0 (8 * depth) (8 + slot_height depth),
      at,
      bits_from-append (H key) (8 * depth) 8 (slot_height depth),
      low,
      byte_at_depth (H key) depth,
    ) refl
