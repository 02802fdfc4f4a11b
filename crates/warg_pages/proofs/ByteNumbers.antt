-- Bits as numbers.
use Rattle.std.proofs.Common.{◌≡◌, ℕ, zero, suc, ◌+◌, ◌-◌, ◌*◌, ◌/◌, ◌%◌, ◌^◌, ◌<◌, Bool, true, false, cond, not, ◌&&◌, List, [], ◌∷◌, ◌++◌, length, length-append, eqb, leb, leb-true, ◌≤◌, refl, ap, inl, inr, arith}
use Rattle.std.proofs.lemmas.Bool.{and_parts, cases_lt, eqb-true}
use Rattle.std.proofs.lemmas.Nat.{div-mul-add, pow-add}
use Rattle.std.proofs.Math.Nat.{pow-suc, zero-mul}
use Rattle.warg_map.specs.Bits.{bits_from}
use Rattle.warg_map.specs.Last.{same_bits}
use Rattle.warg_map.proofs.ForCallers.{same_bits-true}
use Rattle.warg_pages.specs.Prefixes.{byte_bits}
use Rattle.warg_pages.specs.PagePeers.{first_beside}

-- the number of bits, the most significant first
unfoldable pub number : List Bool → ℕ
number [] = 0
number (b ∷ q) = cond b (2 ^ length q) 0 + number q

-- a test of all lists of k bits
every : ℕ → (List Bool → Bool) → Bool
every zero test = test []
every (suc k) test = every k (λ q. test (false ∷ q)) && every k (λ q. test (true ∷ q))

every_is : (k : ℕ) (test : List Bool → Bool) (q : List Bool) → every k test ≡ true → length q ≡ k → test q ≡ true
unfolding every
every_is zero test [] e n = e
every_is zero test (b ∷ q) e n = absurd (omega arith)
every_is (suc k) test [] e n = absurd (omega arith)
every_is (suc k) test (false ∷ q) e n = every_is k (λ r. test (false ∷ r)) q
    (and_parts (every k _) (every k _) e).0 (omega arith)
every_is (suc k) test (true ∷ q) e n = every_is k (λ r. test (true ∷ r)) q
    (and_parts (every k _) (every k _) e).1 (omega arith)

-- the bits of the byte with these bits
pub byte_bits-number : (q : List Bool) → length q ≡ 8 → byte_bits (number q) ≡ q
unfolding every number bits_from
byte_bits-number q n = same_bits-true (byte_bits (number q)) q
    (every_is 8 (λ r. same_bits (byte_bits (number r)) r) q refl n)

pub number_below : (q : List Bool) → number q < 2 ^ length q
unfolding number
number_below [] = omega arith
number_below (true ∷ q) = let h = number_below q in rw (pow-suc 2 (length q)) (omega arith)
number_below (false ∷ q) = let h = number_below q in rw (pow-suc 2 _) (omega arith)

-- a test of all numbers below one
every_below : ℕ → (ℕ → Bool) → Bool
every_below zero test = true
every_below (suc n) test = every_below n test && test n

every_below_is : (n : ℕ) (test : ℕ → Bool) (s : ℕ) → every_below n test ≡ true → s < n → test s ≡ true
unfolding every_below
every_below_is zero test s e lt = absurd (omega arith)
every_below_is (suc n) test s e lt =
    let parts = and_parts (every_below n test) _ e in
    elim (cases_lt s n) [
      | inl low ↦ every_below_is n test s parts.0 low
      | inr high ↦ (let at : s ≡ n = omega arith in rw at parts.1)
    ]

-- the number of a byte's bits
pub number-byte_bits : (s : ℕ) → s < 256 → number (byte_bits s) ≡ s
unfolding every_below number bits_from
number-byte_bits s lt = eqb-true (number (byte_bits s)) s
    (every_below_is 256 (λ t. eqb (number (byte_bits t)) t) s refl lt)

-- bits and then others
powers : (m n : ℕ) → 2 ^ (m + n) ≡ 2 ^ m * 2 ^ n
powers m n = pow-add 2 m n

pub number-append : (a q : List Bool) → number (a ++ q) ≡ number a * 2 ^ length q + number q
unfolding number
number-append [] q = let z = zero-mul (2 ^ length q) in omega arith
number-append (true ∷ a) q = rw (number-append a q, length-append a q, powers (length a) (length q)) (spread _ _ _ _)
  where
    spread : (x y p z : ℕ) → x * p + (y * p + z) ≡ (x + y) * p + z
    spread x y p z = grind arith
number-append (false ∷ a) q = let at : 0 + number (a ++ q) ≡ number (a ++ q) = omega arith in let and : 0 + number a
    ≡ number a = omega arith in rw (at, and) (number-append a q)

-- the numbers beside bits are those with the other bit
fork : (x p y : ℕ) → x * (p * 2) + (p + y) ≡ (x * 2 + 1) * p + y
fork x p y = grind arith

low_fork : (x p y : ℕ) → x * (p * 2) + (0 + y) ≡ (x * 2) * p + y
low_fork x p y = grind arith

number-bit : (a c : List Bool) (b : Bool) → number (a ++ b ∷ c) ≡ (number a * 2 + cond b 1 0) * 2 ^ length c + number c
unfolding number
number-bit a c true = rw (number-append a _, pow-suc 2 _) (fork _ _ _)
number-bit a c false =
    let at : number a * 2 + 0 ≡ number a * 2 = omega arith in
    rw (number-append a _, pow-suc 2 _, at) (low_fork _ _ _)

pub number-beside : (a c r : List Bool) (b : Bool) → length r ≡ length c
    → first_beside (number (a ++ b ∷ c)) (length c) + number r ≡ number (a ++ not b ∷ r)
number-beside a c r b e =
    let quotient : number (a ++ b ∷ c) / 2 ^ length c ≡ number a * 2 + cond b 1 0 = rw (number-bit a c b)
    (div-mul-add _ _ _ (number_below c)) in
    rw (quotient, number-bit a r _, e) (ap (λ x. x * 2 ^ length c + number r) (other b))
  where
    other : (b : Bool) → cond (eqb ((number a * 2 + cond b 1 0) % 2) 0) (number a * 2 + cond b 1 0 + 1)
        (number a * 2 + cond b 1 0 - 1) ≡ number a * 2 + cond (not b) 1 0
    other true = let odd : (number a * 2 + 1) % 2 ≡ 1 = omega arith in rw odd (omega arith)
    other false = let even : (number a * 2 + 0) % 2 ≡ 0 = omega arith in rw even (omega arith)

-- the numbers beside those of a byte are bytes
pub beside_bytes : (s k : ℕ) → s < 256 → k < 8 → first_beside s k + 2 ^ k ≤ 256
unfolding every_below
beside_bytes s k lt low = leb-true (first_beside s k + 2 ^ k) 256
    (every_below_is 8 (λ j. leb (first_beside s j + 2 ^ j) 256) k
    (every_below_is 256 (λ t. every_below 8 (λ j. leb (first_beside t j + 2 ^ j) 256)) s refl lt) low)
