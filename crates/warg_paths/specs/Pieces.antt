-- Bytes as hashes.
use Rattle.std.specs.Prelude.{ℕ, zero, suc, ◌/◌, ◌%◌, ◌==◌, if◌then◌else◌, List, [], ◌∷◌, length, take, drop, Option, Some, None}

-- The first pieces of 32 bytes, so many of them.
unfoldable pub pieces : ℕ → List ℕ → List (List ℕ)
pieces zero bytes = []
pieces (suc count) bytes = take 32 bytes ∷ pieces count (drop 32 bytes)

-- The hashes that bytes are, in pieces of 32 one after the other, if their number is a multiple of 32.
abbrev pub hashes_of : List ℕ → Option (List (List ℕ))
hashes_of bytes = if length bytes % 32 == 0 then Some (pieces (length bytes / 32) bytes) else None
