-- Checkpoint texts, line by line.
use Rattle.std.proofs.Common.{◌≡◌, ◌≢◌, ℕ, ◌+◌, ◌*◌, ◌/◌, ◌%◌, ◌^◌, ◌<◌, ◌≤◌, ◌==◌, false, List, [], ◌∷◌, ◌++◌, length, get_or, map, take, replicate, Option, Some, None, Result, Ok, Err, Bor, refl, sym, ap, ◌∙◌, inl, inr, arith}
use Rattle.std.specs.List.{AllByRecursion, list_any}
use Rattle.std.proofs.lemmas.Bool.{cases_lt, true≢false}
use Rattle.std.proofs.lemmas.List.Elements.{All-from_get_or, All-replicate, recursion_from_All}
use Rattle.std.proofs.lemmas.List.Folds.{list_any_at}
use Rattle.warg_protobuf.proofs.ForCallers.{all_append, all_push}
use Rattle.std.specs.Fmt.{decimal}
use Rattle.std.proofs.lemmas.Fmt.{decimal_injective}
use Rattle.std.specs.Str.{IsUtf8}
use Rattle.std.specs.Prelude.{MatchResult, IfOk, OnOk, IsOk, IsErr, ◌↔◌}
use Rattle.std.specs.Result.{result_ok}
use Rattle.std.proofs.lemmas.List.{append_assoc, append-nil, get_or_past, length-append, length-replicate, map_more}
use Rattle.base64.specs.Engines.{standard}
use Rattle.base64.specs.GeneralPurpose.{encode_of, decode_of, IsBytes}
use Rattle.base64.specs.Rfc4648.{encode_symbols, padding_len}
use Rattle.base64.proofs.EngineFacts.{decode_of-encode_of, decode_of_strict, front_bytes}
use Rattle.base64.proofs.RoundTrip.{length-encode_symbols}
use Rattle.warg_crypto.specs.Digests.{IsDigest}
use Rattle.warg_tiles.specs.CheckpointText.{Said, HasNoNewline, IsLine, CanBeSaid, line, length_line, root_line, lines, behind, text_before}
use Rattle.warg_tiles.specs.CheckpointFaults.{HasOrigin, HasLength, HasRoot, IsFirstFault}
use Rattle.warg_tiles.specs.Private.Texts.{IsExtensionFault}
use Rattle.warg_tiles.specs.declared.error.CheckpointTextError.{CheckpointTextError}
use Rattle.warg_tiles.specs.declared.error.CheckpointTextError.TheVariants.{Origin, Length, Root, Extension, Memory}
use Rattle.warg_log.proofs.ForCallers.{decimal_without}

-- bytes with no newline are no line with its newline
pub no_line : (bytes a r : List ℕ) → HasNoNewline bytes → bytes ≢ line a r
no_line [] [] r none is = cc
no_line [] (x ∷ a) r none is = cc
no_line (b ∷ bytes) [] r none is = none.0 cc
no_line (b ∷ bytes) (x ∷ a) r none is = let e : bytes ≡ line a r = cc in no_line bytes a r none.1 e

-- a line is read in one way
pub line_once : (a r b s : List ℕ) → HasNoNewline a → HasNoNewline b → line a r ≡ line b s → (a ≡ b) × (r ≡ s)
line_once [] r [] s p q is = (refl, cc)
line_once [] r (y ∷ b) s p q is = absurd (q.0 cc)
line_once (x ∷ a) r [] s p q is = absurd (p.0 cc)
line_once (x ∷ a) r (y ∷ b) s p q is =
    let e : line a r ≡ line b s = cc in
    let rest = line_once a r b s p.1 q.1 e in
    let first : x ≡ y = cc in
    (cc (rest.0, first), rest.1)

-- a number in decimal has no newline
pub no_newline-decimal : (n : ℕ) → n < 2 ^ 64 → HasNoNewline (decimal n)
no_newline-decimal n small = recursion_from_All (λ b. b ≢ 10) (decimal n)
    (All-from_get_or (λ b. b ≢ 10) (decimal n) 0 (λ i low. decimal_without n 10 i small (λ a b. omega arith) low))

symbol : (k : ℕ) → get_or standard.encode_table k 0 ≢ 10
symbol k is = elim (cases_lt k (length standard.encode_table)) [
  | inl low ↦ let none : list_any (λ x. x == 10) standard.encode_table ≡ false = refl in
      true≢false (sym (list_any_at (λ x. x == 10) standard.encode_table k 0 low (rw is refl)) ∙ none)
  | inr past ↦ omega (arith, sym is ∙ get_or_past standard.encode_table k 0 past)
]

symbols : (m : List ℕ) → HasNoNewline (encode_symbols standard.encode_table m)
unfolding encode_symbols
symbols [] = tt
symbols (a ∷ []) = (symbol (a / 4), (symbol (a % 4 * 16), tt))
symbols (a ∷ b ∷ []) = (symbol (a / 4), (symbol (a % 4 * 16 + b / 16), (symbol (b % 16 * 4), tt)))
symbols (a ∷ b ∷ c ∷ rest) = (
  symbol (a / 4),
  (symbol (a % 4 * 16 + b / 16), (symbol (b % 16 * 4 + c / 64), (symbol (c % 64), symbols rest))),
)

-- base64 has no newline
pub no_newline-encode : (m : List ℕ) → HasNoNewline (encode_of standard m)
no_newline-encode m =
    let padding : List ℕ = replicate (padding_len (length m)) 61 in
    all_append (λ b. b ≢ 10) (encode_symbols standard.encode_table m) padding (symbols m)
    (recursion_from_All (λ b. b ≢ 10) padding
    (All-replicate (λ b. b ≢ 10) (padding_len (length m)) 61 (λ e. omega (arith, e))))

-- a digest's bytes are bytes
pub digest_bytes : (root : List ℕ) → IsDigest root → IsBytes root
digest_bytes root is i = grind (arith, cases_lt, get_or_past)

-- a length's line is read in one way
length_once : (n m : ℕ) (r s : List ℕ) → n ≤ 2 ^ 63 → m ≤ 2 ^ 63 → length_line n r ≡ length_line m s → (n ≡ m) × (r ≡ s)
length_once n m r s p q is = grind (arith, line_once, no_newline-decimal, decimal_injective)

-- and so is a root's
root_once : (a b r s : List ℕ) → IsDigest a → IsDigest b → root_line a r ≡ root_line b s → (a ≡ b) × (r ≡ s)
root_once a b r s p q is =
    let once = line_once (encode_of standard a) r (encode_of standard b) s (no_newline-encode a)
    (no_newline-encode b) is in
    let read = sym (decode_of-encode_of standard a refl (digest_bytes a p)) ∙ ap (decode_of standard) once.0
    ∙ decode_of-encode_of standard b refl (digest_bytes b q) in
    (cc read, once.1)

-- bytes that aren't read as text are no text
pub not_utf8 : {S E : Type 0} (P : S → Type 0) (Q : E → Type 0) (bytes : List ℕ) (r : Result S E) (o : Option S)
    → MatchResult r P (λ e. (IsUtf8 bytes → ⊥) × Q e) → o ≡ result_ok r → o ≡ None → IsUtf8 bytes → ⊥
not_utf8 P Q bytes (Ok s) o cases is none = let e = sym is ∙ none in cc e
not_utf8 P Q bytes (Err e) o cases is none = cases.0

-- and a text that is read has those bytes
pub text_read : {E : Type 0} (P : Bor (List ℕ) → Type 0) (Q : E → Type 0) (bytes : List ℕ) (r : Result (Bor (List ℕ)) E)
    (o : Option (Bor (List ℕ))) (t : Bor (List ℕ)) → MatchResult r (λ s. (s.now ≡ bytes) × P s) Q → o ≡ result_ok r
    → o ≡ Some t → t.now ≡ bytes
text_read P Q bytes (Ok s) o t cases is some = let e : s ≡ t = cc (is, some) in rw (← e) cases.0
text_read P Q bytes (Err e) o t cases is some = let f = sym is ∙ some in cc f

-- the number in decimal on a line is in its bytes alone
pub decimal_line : (bytes text rest more : List ℕ) (n : ℕ) → HasNoNewline text → bytes ≡ line text rest → n ≤ 2 ^ 63
    → bytes ≡ length_line n more → text ≡ decimal n
decimal_line bytes text rest more n none is most other =
    (line_once text rest (decimal n) more none (no_newline-decimal n (omega arith)) (sym is ∙ other)).0

-- the base64 of a digest on a line has 44 bytes, and is decoded
pub root_line_is : (bytes text rest more root : List ℕ) → HasNoNewline text → bytes ≡ line text rest → IsDigest root
    → bytes ≡ root_line root more → (length text ≡ 44) × (decode_of standard text ≡ Ok root)
root_line_is bytes text rest more root none is digest other =
    let same = (line_once text rest (encode_of standard root) more none (no_newline-encode root) (sym is ∙ other)).0
    in
    let padding : List ℕ = replicate (padding_len (length root)) 61 in
    let all = length-append (encode_symbols standard.encode_table root) padding in (
      grind (arith, length-encode_symbols, length-replicate),
      rw same
          (decode_of-encode_of standard root refl (digest_bytes root digest)),
    )

-- a text that was decoded is the base64 of what it gave
pub root_read : (bytes text rest decoded root : List ℕ) → IsBytes bytes → bytes ≡ line text rest
    → decode_of standard text ≡ Ok decoded → root ≡ decoded → bytes ≡ root_line root rest
root_read bytes text rest decoded root all front is same = grind
    (arith, decode_of_strict standard text decoded (refl, refl), front_bytes text (10 ∷ rest))

-- what is read as a hash
pub hash_read : {E : Type 0} (r : Result (List ℕ) E) (o : Option (List ℕ)) (root items : List ℕ)
    → IfOk r (λ h. h ≡ items) → IsOk r ↔ (length items ≡ 32) → o ≡ result_ok r → o ≡ Some root → (root ≡ items)
    × (length items ≡ 32)
hash_read (Ok h) o root items ok exactly is some = let e : h ≡ root = cc (is, some) in (sym e ∙ ok, exactly.0 refl)
hash_read (Err e) o root items ok exactly is some = let f = sym is ∙ some in cc f

-- and what isn't
pub hash_unread : {E : Type 0} (r : Result (List ℕ) E) (o : Option (List ℕ)) (items : List ℕ)
    → IsOk r ↔ (length items ≡ 32) → o ≡ result_ok r → o ≡ None → length items ≡ 32 → ⊥
hash_unread (Ok h) o items exactly is none count = let f = sym is ∙ none in cc f
hash_unread {E} (Err e) o items exactly is none count = let f = exactly.1 count in cc f

-- a digest that was decoded has 32 bytes
pub decoded_length : {E : Type 0} (r : Result (List ℕ) E) (root decoded : List ℕ) → r ≡ Ok root → r ≡ Ok decoded
    → IsDigest root → length decoded ≡ 32
decoded_length r root decoded one two is = let e = sym one ∙ two in let same : root ≡ decoded = cc e in
    omega (arith, ap length same, is.has_32)

-- lines before other bytes
lines-append : (xs : List (List ℕ)) (rest : List ℕ) → lines xs rest ≡ lines xs [] ++ rest
unfolding lines
lines-append [] rest = refl
lines-append (x ∷ xs) rest = rw (lines-append xs rest) (sym (append_assoc x (10 ∷ lines xs []) rest))

-- one line more behind lines
pub lines-last : (xs : List (List ℕ)) (x rest : List ℕ) → lines (xs ++ x ∷ []) rest ≡ lines xs (line x rest)
unfolding lines
lines-last [] x rest = refl
lines-last (y ∷ xs) x rest = ap (line y) (lines-last xs x rest)

-- lines up to one more of a list
pub lines-take : {X : Type 0} (bytes : List ℕ) (f : X → List ℕ) (xs : List X) (x : X) (i : ℕ) → i < length xs
    → x ≡ get_or xs i x
    → bytes ++ lines (map f (take (i + 1) xs)) [] ≡ (bytes ++ lines (map f (take i xs)) []) ++ (f x ++ 10 ∷ [])
lines-take bytes f xs x i inside is =
    rw (
      map_more f xs i x inside,
      ← is,
      lines-last (map f (take i xs)) (f x) [],
      lines-append (map f (take i xs))
          (f x ++ 10 ∷ []),
    ) (sym (append_assoc bytes (lines (map f (take i xs)) []) (f x ++ 10 ∷ [])))

-- a line is no end of lines
line_not_behind : (x r : List ℕ) (b : Option (List ℕ)) → IsLine x → line x r ≢ behind b
line_not_behind [] r b is e = omega (arith, is.some)
line_not_behind (c ∷ x) r None is e = cc
line_not_behind (c ∷ x) r (Some rest) is e = is.no_newline.0 cc

-- what lacks a newline at its end is no lines
pub not_lines : (xs ys : List (List ℕ)) (rest : List ℕ) (b : Option (List ℕ)) → AllByRecursion IsLine xs
    → AllByRecursion IsLine ys → HasNoNewline rest → 0 < length rest → lines xs rest ≢ lines ys (behind b)
unfolding lines
not_lines [] [] rest None p q none some e = omega (arith, ap length e)
not_lines [] [] [] (Some r) p q none some e = cc
not_lines [] [] (c ∷ rest) (Some r) p q none some e = none.0 cc
not_lines [] (y ∷ ys) rest b p q none some e = no_line rest y (lines ys (behind b)) none e
not_lines (x ∷ xs) [] rest b p q none some e = line_not_behind x (lines xs rest) b p.0 e
not_lines (x ∷ xs) (y ∷ ys) rest b p q none some e = not_lines xs ys rest b p.1 q.1 none some
    (line_once x (lines xs rest) y (lines ys (behind b)) p.0.no_newline q.0.no_newline e).1

-- lines are read in one way
pub lines_once : (xs ys : List (List ℕ)) (a b : Option (List ℕ)) → AllByRecursion IsLine xs → AllByRecursion IsLine ys
    → lines xs (behind a) ≡ lines ys (behind b) → (xs ≡ ys) × (a ≡ b)
unfolding lines
lines_once [] [] None None p q e = (refl, refl)
lines_once [] [] None (Some s) p q e = cc
lines_once [] [] (Some r) None p q e = cc
lines_once [] [] (Some r) (Some s) p q e = let same : r ≡ s = cc in (refl, ap Some same)
lines_once [] (y ∷ ys) a b p q e = absurd (line_not_behind y (lines ys (behind b)) a q.0 (sym e))
lines_once (x ∷ xs) [] a b p q e = absurd (line_not_behind x (lines xs (behind a)) b p.0 e)
lines_once (x ∷ xs) (y ∷ ys) a b p q e =
    let first = line_once x (lines xs (behind a)) y (lines ys (behind b)) p.0.no_newline q.0.no_newline e in
    let rest = lines_once xs ys a b p.1 q.1 first.1 in
    (cc (first.0, rest.0), rest.1)

-- a text t is the text s with lines more, which were read from bytes up to the rest
abbrev pub Added : Said → Said → List ℕ → List ℕ → Type 0
Added s t bytes rest = (more : List (List ℕ)) × AllByRecursion IsLine more
    × (t ≡ record s { extensions = s.extensions ++ more }) × (bytes ≡ lines more rest)

pub added_none : (s : Said) (bytes : List ℕ) → Added s s bytes bytes
unfolding lines
added_none s bytes = ([], tt, ap (λ e. record s { extensions = e }) (sym (append-nil s.extensions)), refl)

pub added_line : (s t u : Said) (bytes rest x more : List ℕ) → Added s t bytes rest → rest ≡ line x more → IsLine x
    → u ≡ record t { extensions = t.extensions ++ x ∷ [] } → Added s u bytes more
added_line s t u bytes rest x more added is one grown = grind (arith, all_push, append_assoc, lines-last)

-- a text is read in one way
pub text_once : (s t : Said) (a b : Option (List ℕ)) → CanBeSaid s → CanBeSaid t → text_before s a ≡ text_before t b
    → (s ≡ t) × (a ≡ b)
text_once s t a b p q e = grind (arith, line_once, length_once, root_once, lines_once)

pub err_on_ok : {X E : Type 0} (r : Result X E) (P : Type 0) → IsErr r → OnOk r P
err_on_ok (Ok x) P is = cc
err_on_ok (Err e) P is = tt

-- no length's line is behind an origin's
pub no_length : {bytes : List ℕ} (own : HasOrigin bytes)
    → ((n : ℕ) (more : List ℕ) → n ≤ 2 ^ 63 → own.1 ≢ length_line n more) → HasLength bytes → ⊥
no_length own none h = grind (arith, line_once)

-- no root's line is behind a length's
pub no_root : {bytes : List ℕ} (own : HasLength bytes)
    → ((root last : List ℕ) → IsDigest root → own.2 ≢ root_line root last) → HasRoot bytes → ⊥
no_root own none h = grind (arith, line_once, length_once)

-- a text of these parts has no fault
pub only_memory : {X : Type 0} {bytes : List ℕ} → HasRoot bytes → (e : CheckpointTextError)
    (r : Result X CheckpointTextError) → r ≡ Err e → (r ≡ Err Origin → ⊥) → (r ≡ Err Length → ⊥) → (r ≡ Err Root → ⊥)
    → (r ≡ Err Extension → ⊥) → IsFirstFault bytes e
only_memory own Origin r of a b c d = absurd (a of)
only_memory own Length r of a b c d = absurd (b of)
only_memory own Root r of a b c d = absurd (c of)
only_memory own Extension r of a b c d = absurd (d of)
only_memory own Memory r of a b c d = own

-- what is behind the root's line is no further lines
pub no_extensions : {bytes : List ℕ} (own : HasRoot bytes) (e : CheckpointTextError) → IsExtensionFault own.3 e
    → IsFirstFault bytes e
no_extensions own Extension fault = grind (arith, line_once, length_once, root_once)
no_extensions own Memory fault = own
no_extensions own Origin fault = absurd fault
no_extensions own Length fault = absurd fault
no_extensions own Root fault = absurd fault
