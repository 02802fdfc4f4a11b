-- Pieces of bytes, and where they stand.
use Rattle.std.specs.Prelude.{◌≡◌, ℕ, List, [], ◌∷◌, length, take, drop}

-- A piece stands at a place of some bytes.
abbrev pub StandsAt : ℕ → List ℕ → List ℕ → Type 0
StandsAt place piece bytes = take (length piece) (drop place bytes) ≡ piece

-- A search written as one list, a place, the length of a piece, the piece and bytes: the piece stands there.
abbrev pub IsFound : List ℕ → Type 0
IsFound (place ∷ count ∷ xs) = StandsAt place (take count xs) (drop count xs)
IsFound _ = ⊥

-- Bytes and their front written as one list, the bytes' length, the bytes and the front: it stands there.
abbrev pub IsFront : List ℕ → Type 0
IsFront (count ∷ xs) = StandsAt 0 (drop count xs) (take count xs)
IsFront [] = ⊥
