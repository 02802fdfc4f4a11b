-- Insertions are told by their entries, and a part by the bytes that begin with it.
use Rattle.std.proofs.Common.{◌≡◌, ◌≢◌, ℕ, ◌+◌, ◌*◌, ◌/◌, ◌%◌, ◌^◌, ◌<◌, ◌≤◌, List, [], ◌∷◌, ◌++◌, length, take, drop, get_or, refl, sym, ap, ◌∙◌, All, append_assoc, inl, inr, Bool, true, false, not, ◌&&◌, nat_eq, arith}
use Rattle.std.proofs.Math.Nat.{div-div-eq-div-mul}
use Rattle.std.specs.Cmp.Lexicographic.{pointwise, bytes_decides}
use Rattle.std.specs.Int.{to_be_bytes, from_be_bytes, w64}
use Rattle.std.proofs.lemmas.Bool.{cases_lt}
use Rattle.std.proofs.lemmas.List.{length-append, length-take-le, get_or-take, get_or_past, take-append-drop}
use Rattle.std.proofs.lemmas.List.Elements.{All-head, All-tail}
use Rattle.std.proofs.Math.Seq.{take-append_seam, drop-append_seam}
use Rattle.std.proofs.lemmas.Nat.{from_be_bytes-to_be_bytes_8, be_bytes_8}
use Rattle.warg_crypto.specs.Framed.{framed_part, IsPart}
use Rattle.warg_crypto.proofs.ForCallers.{framed_pairs}
use Rattle.warg_registry.specs.Insertions.{entry_of, entries_of, IsInsertion, HasNoPart}
use Rattle.warg_registry.specs.Registry.{said_of}

-- What eight bytes leave out of a length.
byte_and_rest : (n p : ℕ) → n / p ≡ n / p % 256 + n / (p * 256) * 256
byte_and_rest n p = omega (arith, div-div-eq-div-mul n p 256)

joined : (a b c d e f g h n p q r s t u v w : ℕ) → n ≡ a + p * 256 → p ≡ b + q * 256 → q ≡ c + r * 256 → r ≡ d + s * 256
    → s ≡ e + t * 256 → t ≡ f + u * 256 → u ≡ g + v * 256 → v ≡ h + w * 256
    → n ≡ h * 72057594037927936 + g * 281474976710656 + f * 1099511627776 + e * 4294967296 + d * 16777216 + c * 65536
    + b * 256 + a + w * 18446744073709551616
joined a b c d e f g h n p q r s t u v w at_0 at_1 at_2 at_3 at_4 at_5 at_6 at_7 = omega arith

pub length_read : (n : ℕ) → n ≡ from_be_bytes w64 (to_be_bytes w64 n) + n / 2 ^ 64 * 2 ^ 64
length_read n =
    let low : n ≡ n % 256 + n / 256 * 256 = omega arith in
    joined _ _ _ _ _ _ _ _ n _ _ _ _ _ _ _ _ low (byte_and_rest n 256) (byte_and_rest n 65536)
    (byte_and_rest n 16777216) (byte_and_rest n 4294967296) (byte_and_rest n 1099511627776)
    (byte_and_rest n 281474976710656) (byte_and_rest n 72057594037927936)

-- Insertions of one entry have parts of the same lengths, if 8 bytes can say those of one.
same_lengths : (a b : List ℕ × List ℕ) → IsInsertion a → entry_of a ≡ entry_of b
    → (length a.0 ≡ length b.0) × (length a.1 ≡ length b.1)
same_lengths a b fa e =
    let said : to_be_bytes w64 (length a.0) ≡ to_be_bytes w64 (length b.0) = ap (take 8) e in
    let read = sym (from_be_bytes-to_be_bytes_8 (length a.0) fa.0) ∙ ap (from_be_bytes w64) said in
    let rest = length_read (length b.0) in
    let all = ap length e in
    let left = length-append a.0 (framed_part a.1 ++ []) in
    let right = length-append b.0 (framed_part b.1 ++ []) in
    let value = length-append a.1 [] in
    let other = length-append b.1 [] in (
      omega (arith, read, rest, all, left, right, value, other, fa.1),
      omega (arith, read, rest, all, left, right, value, other, fa.1),
    )

-- And so they are one.
pub one_insertion : (a b : List ℕ × List ℕ) → IsInsertion a → entry_of a ≡ entry_of b → a ≡ b
one_insertion a b fa e =
    let lengths = same_lengths a b fa e in
    let fb : IsInsertion b = (omega (arith, fa.0, lengths.0), omega (arith, fa.1, lengths.1)) in
    let same = framed_pairs a.0 a.1 b.0 b.1 fa.0 fa.1 fb.0 fb.1 e in
    rw same.0 (ap (λ v. (b.0, v)) same.1)

-- And so are lists of insertions of the same entries.
pub one_list : (xs ys : List (List ℕ × List ℕ)) → All IsInsertion xs → entries_of xs ≡ entries_of ys → xs ≡ ys
one_list [] [] fx e = refl
one_list [] (y ∷ ys) fx e = cc
one_list (x ∷ xs) [] fx e = cc
one_list (x ∷ xs) (y ∷ ys) fx e =
    let one : entry_of x ≡ entry_of y = cc in
    let more : entries_of xs ≡ entries_of ys = cc in
    let first = one_insertion x y (All-head IsInsertion x xs fx) one in
    let rest = one_list xs ys (All-tail IsInsertion x xs fx) more in
    cc

-- So what a registry says is fixed by its log's entries.
pub one_registry : (H : List ℕ → List ℕ) (origin : List ℕ) (xs ys : List (List ℕ × List ℕ))
    → All IsInsertion xs → entries_of xs ≡ entries_of ys → said_of H origin xs ≡ said_of H origin ys
one_registry H origin xs ys fx e = ap (said_of H origin) (one_list xs ys fx e)

-- The length that a part's bytes begin with, and what is behind it.
pub part_front : (bytes part more : List ℕ) → IsPart part → bytes ≡ framed_part part ++ more
    → (8 ≤ length bytes) × (from_be_bytes w64 (take 8 bytes) ≡ length part) × (drop 8 bytes ≡ part ++ more)
part_front bytes part more small is =
    let front : take 8 bytes ≡ to_be_bytes w64 (length part) = ap (take 8) is in (
      omega (arith, ap length is),
      rw front (from_be_bytes-to_be_bytes_8 (length part) small),
      ap (drop 8) is,
    )

-- What was read as a part is that part.
pub part_read : (bytes part more : List ℕ) → ((i : ℕ) → get_or bytes i 0 < 256) → 8 ≤ length bytes
    → length part ≡ from_be_bytes w64 (take 8 bytes) → drop 8 bytes ≡ part ++ more → bytes ≡ framed_part part ++ more
part_read bytes part more small long is rest =
    let eight : length (take 8 bytes) ≡ 8 = length-take-le 8 bytes long in
    let bytes_only : (i : ℕ) → get_or (take 8 bytes) i 0 < 256 = λ i. elim (cases_lt i 8) [
      | inl low ↦ rw (get_or-take 8 bytes i 0 low) (small i)
      | inr out ↦ rw (get_or_past (take 8 bytes) i 0 (omega arith)) (omega arith)
    ] in
    let count = to_be_bytes w64 (length part) in
    let front : count ≡ take 8 bytes = be_bytes_8 (take 8 bytes) (length part) eight bytes_only is in
    sym (take-append-drop 8 bytes) ∙ ap (λ b. b ++ drop 8 bytes) (sym front) ∙ ap (λ b. count ++ b) rest

-- Parts that begin the same bytes are one, and so is what is behind them.
same_front : (xs ys us vs : List ℕ) → length xs ≡ length us → xs ++ ys ≡ us ++ vs → (xs ≡ us) × (ys ≡ vs)
same_front xs ys us vs l e =
    let a = take-append_seam xs ys in
    let b = take-append_seam us vs in
    let c = drop-append_seam xs ys in
    let d = drop-append_seam us vs in
    (cc, cc)

pub one_part : (a b x y : List ℕ) → IsPart a → IsPart b → framed_part a ++ x ≡ framed_part b ++ y → (a ≡ b) × (x ≡ y)
one_part a b x y fa fb e =
    let front = part_front (framed_part b ++ y) a x fa (sym e) in
    let back = part_front (framed_part b ++ y) b y fb refl in
    same_front a x b y (sym front.1 ∙ back.1) (sym front.2 ∙ back.2)

-- Nor are those that no value goes on.
pub no_value : (bytes key more : List ℕ) → IsPart key → bytes ≡ framed_part key ++ more → HasNoPart more
    → (e : List ℕ × List ℕ) → IsInsertion e → bytes ≢ entry_of e
no_value bytes key more small first none e fine is =
    none e.1 [] fine.1 (one_part key e.0 more (framed_part e.1 ++ []) small fine.0 (sym first ∙ is)).1

-- Nor those that go on behind the value.
pub no_more : (bytes key value rest more : List ℕ) → IsPart key → IsPart value → bytes ≡ framed_part key ++ rest
    → rest ≡ framed_part value ++ more → more ≢ [] → (e : List ℕ × List ℕ) → IsInsertion e → bytes ≢ entry_of e
no_more bytes key value rest more fk fv first second some e fine is =
    let behind = (one_part key e.0 rest (framed_part e.1 ++ []) fk fine.0 (sym first ∙ is)).1 in
    some (one_part value e.1 more [] fv fine.1 (sym second ∙ behind)).1

-- What stands behind the value stands behind the entry.
pub behind_entry : (bytes key value rest more : List ℕ)
    → bytes ≡ framed_part key ++ rest → rest ≡ framed_part value ++ more
    → bytes ≡ entry_of (key, value) ++ more
behind_entry bytes key value rest more first second =
    let K = framed_part key in
    let V = framed_part value in
    let join = append_assoc K (V ++ []) more ∙ ap (λ b. K ++ b) (append_assoc V [] more) in
    first ∙ ap (λ b. K ++ b) second ∙ sym join

-- Bytes are the entry of one key and one value.
pub one_entry : (bytes : List ℕ) (a e : List ℕ × List ℕ) → IsInsertion a → IsInsertion e
    → bytes ≡ entry_of a → bytes ≡ entry_of e → (a.0 ≡ e.0) × (a.1 ≡ e.1)
one_entry bytes a e fa fe is other =
    let same = one_insertion a e fa (sym is ∙ other) in
    (ap (λ x. x.0) same, ap (λ x. x.1) same)

-- What `!=` says of bytes, and of hashes.
pub other_bytes : (a b : List ℕ) (r : Bool) → r ≡ not (pointwise nat_eq a b) → r ≡ true → a ≢ b
other_bytes a b r is t same =
    let both : not (pointwise nat_eq a b) ≡ false = rw ((bytes_decides a b).1 same) refl in cc

pub other_hashes : (a b : List ℕ) (r : Bool) → r ≡ not (pointwise nat_eq a b && true) → r ≡ true → a ≢ b
other_hashes a b r is t same =
    let both : not (pointwise nat_eq a b && true) ≡ false = rw ((bytes_decides a b).1 same) refl in cc
