-- Bytes in pieces of 32.
use Rattle.std.proofs.Common.{◌≡◌, ℕ, suc, ◌*◌, ◌/◌, List, [], ◌∷◌, ◌++◌, length, Some, refl, ◌∙◌, arith}
use Rattle.std.specs.List.{flat_map}
use Rattle.std.proofs.lemmas.Bool.{eq-eqb}
use Rattle.std.proofs.lemmas.List.{append-nil, append_assoc, length-append, take_at, drop_at}
use Rattle.warg_crypto.specs.Collisions.{AreHashes}
use Rattle.warg_paths.specs.Pieces.{pieces, hashes_of}

-- one piece more
pub one_more : (hashes : List (List ℕ)) (piece rest : List ℕ) → length piece ≡ 32
    → (hashes ++ piece ∷ []) ++ pieces (length rest / 32) rest ≡ hashes ++ pieces (length (piece ++ rest) / 32)
    (piece ++ rest)
unfolding pieces
one_more hashes piece rest size =
    let count : length (piece ++ rest) / 32 ≡ suc (length rest / 32) = omega (arith, length-append piece rest, size) in
    append_assoc hashes (piece ∷ []) (pieces (length rest / 32) rest)
    ∙ rw (count, take_at piece rest 32 size, drop_at piece rest 32 size) refl

-- no piece is left
pub none_left : (hashes : List (List ℕ)) (rest : List ℕ) → length rest ≡ 0 → hashes ++ pieces (length rest / 32) rest
    ≡ hashes
unfolding pieces
none_left hashes rest none = rw none (append-nil hashes)

-- hashes, one after the other, are read as these
pub flat_size : (ds : List (List ℕ)) → AreHashes ds → length (flat_map (λ d. d) ds) ≡ 32 * length ds
flat_size [] all = refl
flat_size (d ∷ ds) all = omega (arith, length-append d (flat_map (λ e. e) ds), all.0, flat_size ds all.1)

first_piece : (d rest : List ℕ) (count : ℕ) → length d ≡ 32 → pieces (suc count) (d ++ rest) ≡ d ∷ pieces count rest
unfolding pieces
first_piece d rest count size = rw (take_at d rest 32 size, drop_at d rest 32 size) refl

pieces_back : (ds : List (List ℕ)) → AreHashes ds → pieces (length ds) (flat_map (λ d. d) ds) ≡ ds
unfolding pieces
pieces_back [] all = refl
pieces_back (d ∷ ds) all = grind (arith, first_piece, pieces_back ds all.1)

pub hashes_back : (ds : List (List ℕ)) → AreHashes ds → hashes_of (flat_map (λ d. d) ds) ≡ Some ds
hashes_back ds all = grind (arith, flat_size, eq-eqb, pieces_back)
