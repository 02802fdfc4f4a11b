-- Numbers of one to ten bytes (proto3 encoding, "Base 128 Varints").
use Rattle.std.specs.Prelude.{◌≡◌, ℕ, zero, suc, ◌+◌, ◌*◌, ◌/◌, ◌%◌, ◌^◌, ◌<◌, ◌≤◌, List, [], ◌∷◌, length, Ok, Err, nat_lt, if◌then◌else◌}
use Rattle.warg_protobuf.specs.declared.error.WireError.TheVariants.{Truncated, BadVarint}
use Rattle.warg_protobuf.specs.Reading.{◌>>=◌, Reader}

-- Each byte but the last has its top bit set, and the number has the low seven bits of each, least significant first (proto3 encoding).
abbrev pub IsGroups : List ℕ → ℕ → Type 0
IsGroups [] n = ⊥
IsGroups (b ∷ []) n = (b < 128) × (n ≡ b)
IsGroups (b ∷ c ∷ bytes) n = (128 ≤ b) × (high : ℕ) × (n ≡ b % 128 + 128 * high) × IsGroups (c ∷ bytes) high

-- The bytes spell the number: ten bytes at most, and below 2^64, so that a tenth byte is 00 or 01 (proto3 encoding).
pub record IsVarint (bytes : List ℕ) (n : ℕ) : Type 0 where
  pub groups : IsGroups bytes n
  pub short : length bytes ≤ 10
  pub fits : n < 2 ^ 64

-- The number at the front, of at most `1 + more` bytes, and the bytes after it.
unfoldable pub varint_in : ℕ → Reader ℕ
varint_in zero [] = Err Truncated
varint_in zero (b ∷ bytes) = if nat_lt b 2 then Ok (b, bytes) else Err BadVarint
varint_in (suc more) [] = Err Truncated
varint_in (suc more) (b ∷ bytes) = if nat_lt b 128 then Ok (b, bytes) else (do
  high ← varint_in more bytes
  Ok (b % 128 + 128 * high.0, high.1))

-- The number at the front, and the bytes after it (proto3 encoding).
unfoldable pub varint_at : Reader ℕ
varint_at bytes = varint_in 9 bytes

-- The groups of a number, at most `1 + more` of them, as few as hold it.
unfoldable pub varint_bytes_in : ℕ → ℕ → List ℕ
varint_bytes_in zero n = n ∷ []
varint_bytes_in (suc more) n = if nat_lt n 128 then n ∷ [] else (n % 128 + 128) ∷ varint_bytes_in more (n / 128)

-- The shortest spelling of a number below 2^64 (proto3 encoding).
unfoldable pub varint_bytes : ℕ → List ℕ
varint_bytes n = varint_bytes_in 9 n
