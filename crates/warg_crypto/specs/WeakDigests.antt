-- Digest functions with known collisions.
use Rattle.std.specs.Prelude.{◌≡◌, ℕ, ◌%◌, ◌<◌, ◌≤◌, Bool, ◌&&◌, nat_eq, nat_lt, cond, List, [], ◌∷◌, ◌++◌, sum, length, take, replicate}
use Rattle.std.specs.List.{list_all}
use Rattle.sha2.specs.Sha256.{sha256}

-- 31 zero bytes, and then the sum of the bytes modulo 256
abbrev pub byte_sum : List ℕ → List ℕ
byte_sum m = replicate 31 0 ++ (sum m % 256) ∷ []

-- whether a list is 32 bytes
abbrev pub are_32_bytes : List ℕ → Bool
are_32_bytes m = nat_eq (length m) 32 && list_all (λ b. nat_lt b 256) m

-- a list of 32 bytes itself, and SHA-256 of any other
abbrev pub same_or_sha256 : List ℕ → List ℕ
same_or_sha256 m = cond (are_32_bytes m) m (sha256 m)

-- 32 zero bytes, whatever the list
abbrev pub zeros : List ℕ → List ℕ
zeros m = replicate 32 0

-- what a list of at most 32 bytes leaves, its bytes and their number, and a longer one, the number 33
pub record Keeps (first : List ℕ) (count : ℕ) (m : List ℕ) : Type 0 where
  pub short : length m ≤ 32 → (count ≡ length m) × (take count first ≡ m)
  pub long : 32 < length m → count ≡ 33
