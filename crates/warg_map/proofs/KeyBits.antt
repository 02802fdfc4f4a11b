-- The bits of a key digest.
use Rattle.std.proofs.Common.{◌≡◌, ℕ, zero, suc, length, ◌+◌, ◌-◌, ◌<◌, ◌≤◌, List, [], ◌∷◌, ◌++◌, refl, ap, arith, add-one}
use Rattle.std.proofs.Math.Nat.{zero-add, add-zero, suc-add}
use Rattle.warg_map.specs.Bits.{bit_at, bits_from, last_bits}

pub length-bits_from : (key : List ℕ) (i n : ℕ) → length (bits_from key i n) ≡ n
unfolding bits_from
length-bits_from key i zero = refl
length-bits_from key i (suc n) = ap suc (length-bits_from key (i + 1) n)

pub length-last_bits : (key : List ℕ) (n : ℕ) → length (last_bits key n) ≡ n
length-last_bits key n = length-bits_from key (256 - n) n

-- the bits from a place on, by a part of them
pub bits_from-append : (key : List ℕ) (i m n : ℕ) → bits_from key i (m + n) ≡ bits_from key i m ++ bits_from key (i + m)
    n
unfolding bits_from
bits_from-append key i zero n = rw (zero-add n, add-zero i)
bits_from-append key i (suc m) n =
    let at : i + suc m ≡ i + 1 + m = omega arith in
    rw (suc-add m n, at, bits_from-append key (i + 1) m n)

pub bits_from-none : (key : List ℕ) (i : ℕ) → bits_from key i 0 ≡ []
unfolding bits_from
bits_from-none key i = refl

pub bits_from-first : (key : List ℕ) (i n : ℕ) → bits_from key i (n + 1) ≡ bit_at key i ∷ bits_from key (i + 1) n
unfolding bits_from
bits_from-first key i n = rw (add-one n)

pub bits_from-part : (key : List ℕ) (i j len : ℕ) → j < len → bits_from key i len
    ≡ bits_from key i j ++ bit_at key (i + j) ∷ bits_from key (i + (j + 1)) (len - (j + 1))
bits_from-part key i j len h = grind (
  arith,
  bits_from-append key i j (len - (j + 1) + 1),
  bits_from-first key
      (i + j) (len - (j + 1)),
)

pub bits_from-fewer : (a b : List ℕ) (i m n : ℕ) → m ≤ n → bits_from a i n ≡ bits_from b i n → bits_from a i m
    ≡ bits_from b i m
unfolding bits_from
bits_from-fewer a b i zero n le e = refl
bits_from-fewer a b i (suc m) zero le e = absurd (omega arith)
bits_from-fewer a b i (suc m) (suc n) le e = let rest = bits_from-fewer a b (i + 1) m n (omega arith) (cc) in cc

-- the bits from a place on to the end
pub last_bits-at : (key : List ℕ) (i n : ℕ) → i + n ≡ 256 → last_bits key n ≡ bits_from key i n
last_bits-at key i n h = let at : 256 - n ≡ i = omega arith in rw at

pub bits_left-split : (key : List ℕ) (i n : ℕ) → i + n ≤ 256 → last_bits key (256 - i)
    ≡ bits_from key i n ++ last_bits key (256 - (i + n))
bits_left-split key i n le = grind (arith, bits_from-append key i n (256 - (i + n)))

pub last_bits-first : (key : List ℕ) (i : ℕ) → i < 256 → last_bits key (256 - i)
    ≡ bit_at key i ∷ last_bits key (256 - (i + 1))
unfolding bits_from
last_bits-first key i h = bits_left-split key i 1 (omega (arith, h))

pub last_bits-step : (key : List ℕ) (n : ℕ) → n < 256 → last_bits key (n + 1) ≡ bit_at key (255 - n) ∷ last_bits key n
last_bits-step key n h = grind (arith, last_bits-first key (255 - n))
