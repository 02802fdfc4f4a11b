-- The bits of a digest, and the path of a key.
use Rattle.std.specs.Prelude.{ℕ, zero, suc, ◌+◌, ◌-◌, ◌/◌, ◌%◌, ◌^◌, Bool, nat_eq, List, [], ◌∷◌, slice_index}

-- Bit i of a list of bytes, the most significant bit of each byte first.
abbrev pub bit_at : List ℕ → ℕ → Bool
bit_at bytes i = nat_eq (slice_index bytes (i / 8) / 2 ^ (7 - i % 8) % 2) 1

-- The n bits of a list of bytes from bit i on.
unfoldable pub bits_from : List ℕ → ℕ → ℕ → List Bool
bits_from bytes i zero = []
bits_from bytes i (suc n) = bit_at bytes i ∷ bits_from bytes (i + 1) n

-- The last n of a digest's 256 bits.
abbrev pub last_bits : List ℕ → ℕ → List Bool
last_bits digest n = bits_from digest (256 - n) n

-- The bits of a key: the 256 bits of its digest, from the top of the tree to the leaf.
abbrev pub key_bits : (List ℕ → List ℕ) → List ℕ → List Bool
key_bits H key = last_bits (H key) 256
