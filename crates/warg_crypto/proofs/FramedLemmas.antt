-- Framed parts are told apart by their bytes.
use Rattle.std.proofs.Common.{◌≡◌, ℕ, List, [], ◌∷◌, ◌++◌, length, refl, ap, All, arith}
use Rattle.std.specs.Int.{to_be_bytes, w64}
use Rattle.std.proofs.lemmas.Nat.{from_be_bytes-to_be_bytes_8}
use Rattle.std.proofs.lemmas.List.Elements.{All-head, All-tail}
use Rattle.std.proofs.Math.Seq.{take-append_seam, drop-append_seam}
use Rattle.warg_crypto.specs.Framed.{framed, framed_part, IsPart}

-- Two lists of two parts are one, part by part, where their first parts are of one length.
same_parts : (xs ys us vs : List ℕ) → length xs ≡ length us → xs ++ ys ≡ us ++ vs → (xs ≡ us) × (ys ≡ vs)
same_parts xs ys us vs l e =
    let a = take-append_seam xs ys in
    let b = take-append_seam us vs in
    let c = drop-append_seam xs ys in
    let d = drop-append_seam us vs in
    (cc, cc)

-- A framed part is told by its bytes, whatever follows.
first_apart : (xs ys us vs : List ℕ) → IsPart xs → IsPart us
    → framed_part xs ++ ys ≡ framed_part us ++ vs → (xs ≡ us) × (ys ≡ vs)
first_apart xs ys us vs lx lu e =
    let parts = same_parts (to_be_bytes w64 (length xs)) (xs ++ ys) (to_be_bytes w64 (length us)) (us ++ vs) refl e in
    let back = from_be_bytes-to_be_bytes_8 (length xs) lx in
    let again = from_be_bytes-to_be_bytes_8 (length us) lu in
    same_parts xs ys us vs (let numbers = parts.0 in cc) parts.1

-- Parts are told by their framed bytes, how many they are and where each begins.
pub framed_parts : (xs ys : List (List ℕ)) → All IsPart xs → All IsPart ys → framed xs ≡ framed ys → xs ≡ ys
framed_parts [] [] _ _ _ = refl
framed_parts [] (y ∷ ys) _ _ e = let no : 0 ≡ length (framed (y ∷ ys)) = ap length e in absurd (omega arith)
framed_parts (x ∷ xs) [] _ _ e = let no : length (framed (x ∷ xs)) ≡ 0 = ap length e in absurd (omega arith)
framed_parts (x ∷ xs) (y ∷ ys) fx fy e =
    let apart = first_apart x (framed xs) y (framed ys) (All-head IsPart x xs fx) (All-head IsPart y ys fy) e in
    let rest = framed_parts xs ys (All-tail IsPart x xs fx) (All-tail IsPart y ys fy) apart.1 in
    let first = apart.0 in
    cc
