-- The bits of a digest's first bytes.
use Rattle.std.proofs.Common.{◌≡◌, ℕ, ◌+◌, ◌-◌, ◌*◌, ◌/◌, ◌%◌, ◌<◌, ◌≤◌, Bool, true, false, List, [], ◌∷◌, ◌++◌, length, take, get_or, refl, sym, ap, ◌∙◌, arith}
use Rattle.warg_map.specs.Bits.{bit_at, bits_from, last_bits}
use Rattle.warg_pages.specs.Prefixes.{bits_of_bytes, byte_bits, begins}
use Rattle.warg_pages.proofs.ForCallers.{length-bits_from, bits_from-append, bits_from-same, bits_of_taken}

-- those of one byte
byte_at : (k : List ℕ) (depth : ℕ) → bits_from k (8 * depth) 8 ≡ byte_bits (get_or k depth 0)
byte_at k depth = bits_from-same k (get_or k depth 0 ∷ []) (8 * depth) 0 8 same
  where
    same : (m : ℕ) → m < 8 → bit_at k (8 * depth + m) ≡ bit_at (get_or k depth 0 ∷ []) (0 + m)
    same m lt =
        let place : (8 * depth + m) / 8 ≡ depth = omega arith in
        let rest : (8 * depth + m) % 8 ≡ m = omega arith in
        let alone : (0 + m) / 8 ≡ 0 = omega arith in
        let in_it : (0 + m) % 8 ≡ m = omega arith in
        rw (place, rest, alone, in_it) refl

-- a byte more
pub next_bits : (k : List ℕ) (depth : ℕ) → depth < length k
    → bits_of_bytes (take (depth + 1) k) ≡ bits_of_bytes (take depth k) ++ byte_bits (get_or k depth 0)
next_bits k depth lt =
    let all : 8 * (depth + 1) ≡ 8 * depth + 8 = omega arith in
    let at : 0 + 8 * depth ≡ 8 * depth = omega arith in
    bits_of_taken k (depth + 1) (omega arith) ∙ ap (bits_from k 0) all ∙ bits_from-append k 0 (8 * depth) 8
    ∙ (λ i. sym (bits_of_taken k depth (omega arith)) i ++ (ap (λ j. bits_from k j 8) at ∙ byte_at k depth) i)

-- bits that go on begin with them
begins-append : (p q : List Bool) → begins p (p ++ q) ≡ true
begins-append [] q = refl
begins-append (true ∷ p) q = begins-append p q
begins-append (false ∷ p) q = begins-append p q

-- a digest's bits begin with those of its first bytes
pub begins_with : (k : List ℕ) (depth : ℕ) → length k ≡ 32 → depth ≤ 32
    → begins (bits_of_bytes (take depth k)) (last_bits k 256) ≡ true
begins_with k depth size le =
    let all : 256 ≡ 8 * depth + (256 - 8 * depth) = omega arith in
    rw (bits_of_taken k depth (omega arith)) (ap (λ n. begins (bits_from k 0 (8 * depth)) (bits_from k 0 n)) all
    ∙ ap (begins (bits_from k 0 (8 * depth))) (bits_from-append k 0 (8 * depth) (256 - 8 * depth))
    ∙ begins-append (bits_from k 0 (8 * depth)) (bits_from k (0 + 8 * depth) (256 - 8 * depth)))

-- all its bytes have all its bits
pub length-first : (k : List ℕ) (depth : ℕ) → depth ≤ length k → length (bits_of_bytes (take depth k)) ≡ 8 * depth
length-first k depth le = rw (bits_of_taken k depth le) (length-bits_from k 0 (8 * depth))
