-- Digests and their bits.
use Rattle.std.proofs.Common.{◌≡◌, ℕ, zero, suc, ◌+◌, ◌*◌, ◌/◌, ◌%◌, ◌^◌, ◌<◌, Bool, nat_eq, List, [], ◌∷◌, ◌++◌, length, refl, sym, ap, ◌∙◌, arith}
use Rattle.std.proofs.Math.Nat.{pow-suc, div-lt_iff_lt-mul, div-mul-le_self, div-div-eq-div-mul, div-eq_of_lt}
use Rattle.std.proofs.lemmas.Nat.{pow_pos}
use Rattle.std.proofs.lemmas.Cmp.{tied_itself}
use Rattle.std.proofs.lemmas.Bool.Decides.{nat_tests}
use Rattle.std.proofs.lemmas.List.Elements.{All-head, All-tail}
use Rattle.std.specs.List.{All}
use Rattle.std.specs.FinMap.{slice_cmp-IsAntisymmetric, nat_cmp-IsAntisymmetric}
use Rattle.std.specs.Ordering.{bool_cmp, nat_cmp, ordering_then}
use Rattle.std.specs.Cmp.Lexicographic.{slice_cmp}
use Rattle.std.specs.declared.cmp.Ordering.{Ordering}
use Rattle.std.specs.declared.cmp.Ordering.TheVariants.{Equal}
use Rattle.warg_crypto.specs.Digests.{IsByte, IsDigest}
use Rattle.warg_map.specs.Bits.{bit_at, bits_from, last_bits}
use Rattle.warg_map.specs.Sparse.{bits_cmp}
use Rattle.warg_map.proofs.KeyBits.{bits_from-append}
use Rattle.warg_map.proofs.SparseTree.{bits_total}

-- the k low bits of a number, the greatest first
unfoldable low_bits : ℕ → ℕ → List Bool
low_bits zero x = []
low_bits (suc k) x = nat_eq (x / 2 ^ k % 2) 1 ∷ low_bits k x

-- the order of two numbers by the last bits of their quotients, and by the bits below them
by_bit : (x y p q : ℕ) (rest : Ordering) → p / 2 ≡ q / 2 → (p < q → x < y) → (q < p → y < x)
    → (p ≡ q → rest ≡ nat_cmp x y) → ordering_then (bool_cmp (nat_eq (p % 2) 1) (nat_eq (q % 2) 1)) rest ≡ nat_cmp x y
by_bit x y p q rest above less more same = grind (arith, nat_tests)

quotient_below : (x y w : ℕ) → 0 < w → x / w < y / w → x < y
quotient_below x y w pos h =
    omega (arith, (div-lt_iff_lt-mul {x = x} pos).0 h, div-mul-le_self y w)

-- two numbers of one part above are in the order of their low bits
low_bits-order : (k x y : ℕ) → x / 2 ^ k ≡ y / 2 ^ k → bits_cmp (low_bits k x) (low_bits k y) ≡ nat_cmp x y
unfolding low_bits
low_bits-order zero x y e = whole x y e
  where
    whole : (x y : ℕ) → x / 1 ≡ y / 1 → Equal ≡ nat_cmp x y
    whole x y e = grind (arith, nat_tests)
low_bits-order (suc k) x y e = grind (
  arith,
  pow-suc,
  div-div-eq-div-mul,
  by_bit,
  quotient_below,
  pow_pos,
  low_bits-order k x y,
)

length-low_bits : (k x : ℕ) → length (low_bits k x) ≡ k
unfolding low_bits
length-low_bits zero x = refl
length-low_bits (suc k) x = ap suc (length-low_bits k x)

then_then : (a b c : Ordering) → ordering_then a (ordering_then b c) ≡ ordering_then (ordering_then a b) c
then_then a b c = grind arith

bits_cmp-append : (p q r s : List Bool) → length p ≡ length q → bits_cmp (p ++ r) (q ++ s)
    ≡ ordering_then (bits_cmp p q) (bits_cmp r s)
bits_cmp-append [] [] r s e = refl
bits_cmp-append [] (c ∷ q) r s e = absurd (omega (arith, e))
bits_cmp-append (b ∷ p) [] r s e = absurd (omega (arith, e))
bits_cmp-append (b ∷ p) (c ∷ q) r s e = grind (arith, bits_cmp-append p q r s, then_then)

-- the bits of bytes
all_bits : List ℕ → List Bool
all_bits [] = []
all_bits (x ∷ xs) = low_bits 8 x ++ all_bits xs

all_bits-order : (xs ys : List ℕ) → length xs ≡ length ys → All IsByte xs → All IsByte ys
    → bits_cmp (all_bits xs) (all_bits ys) ≡ slice_cmp nat_cmp xs ys
unfolding all_bits
all_bits-order [] [] e f g = refl
all_bits-order [] (y ∷ ys) e f g = absurd (omega (arith, e))
all_bits-order (x ∷ xs) [] e f g = absurd (omega (arith, e))
all_bits-order (x ∷ xs) (y ∷ ys) e f g =
    let first = low_bits-order 8 x y (div-eq_of_lt {n = x} {m = 256} (All-head IsByte x xs f) ∙ sym
    (div-eq_of_lt {n = y} {m = 256} (All-head IsByte y ys g))) in
    let rest = all_bits-order xs ys (omega (arith, e)) (All-tail IsByte x xs f) (All-tail IsByte y ys g) in
    grind (arith, bits_cmp-append, all_bits, length-low_bits)

bit_at-shifted : (x : ℕ) (xs : List ℕ) (i : ℕ) → bit_at (x ∷ xs) (i + 8) ≡ bit_at xs i
bit_at-shifted x xs i =
    let place : ((i + 8) / 8 ≡ suc (i / 8)) × ((i + 8) % 8 ≡ i % 8) = omega arith in
    rw (place.0, place.1)

bits_from-shifted : (x : ℕ) (xs : List ℕ) (i n : ℕ) → bits_from (x ∷ xs) (i + 8) n ≡ bits_from xs i n
unfolding bits_from
bits_from-shifted x xs i zero = refl
bits_from-shifted x xs i (suc n) = grind (arith, bits_from-shifted x xs (i + 1) n, bit_at-shifted)

bits_from-all : (xs : List ℕ) → bits_from xs 0 (8 * length xs) ≡ all_bits xs
unfolding bits_from low_bits all_bits
bits_from-all [] = refl
bits_from-all (x ∷ xs) = grind (
  arith,
  bits_from-append (x ∷ xs) 0 8 (8 * length xs),
  bits_from-shifted x xs 0
      (8 * length xs),
  bits_from-all xs,
)

digest_bits : (digest : List ℕ) → IsDigest digest → last_bits digest 256 ≡ all_bits digest
digest_bits digest is = ap (λ n. bits_from digest 0 (8 * n)) (sym is.has_32) ∙ bits_from-all digest

-- digests are in the order of their bits
pub bits-order : {a b : _} → IsDigest a → IsDigest b → bits_cmp (last_bits a 256) (last_bits b 256)
    ≡ slice_cmp nat_cmp a b
bits-order {a} {b} f g = rw (digest_bits a f, digest_bits b g)
    (all_bits-order a b (f.has_32 ∙ sym g.has_32) f.are_bytes g.are_bytes)

-- digests of the same bits are the same
pub same_bits_same_digest : {a b : _} → IsDigest a → IsDigest b → last_bits a 256 ≡ last_bits b 256 → a ≡ b
same_bits_same_digest {a} {b} f g e =
    slice_cmp-IsAntisymmetric nat_cmp-IsAntisymmetric a b
    (rw (← bits-order f g, e) (tied_itself bits_total (last_bits b 256)))
