-- Lemmas on lines, words and numbers.
use Rattle.std.proofs.Common.{◌≡◌, ◌≢◌, ℕ, zero, suc, ◌+◌, ◌-◌, ◌*◌, ◌^◌, ◌<◌, ◌≤◌, ◌&&◌, ◌==◌, Bool, true, false, List, [], ◌∷◌, ◌++◌, length, take, drop, get_or, Option, Some, None, refl, sym, ◌∙◌, ap, arith, add-one, le-leb, lt-ltb, le-ltb, ne_eqb, option_map, option_and_then, unwrap_or, Bor, take_all, le_refl, length-drop, length-append}
use Rattle.std.proofs.Math.Seq.{take-suc, drop-cons}
use Rattle.std.proofs.lemmas.Bool.{eq-eqb, eqb-true, cond_both, true≢false}
use Rattle.std.specs.Cmp.Lexicographic.{same_text}
use Rattle.warg_crypto.specs.Bytes.{same_bytes}
use Rattle.std.proofs.lemmas.List.{take-append-drop}
use Rattle.std.specs.List.{list_all}
use Rattle.std.specs.Char.{is_ascii_digit}
use Rattle.memchr.specs.Find.{IsFirstByte, is_byte}
use Rattle.warg_program.specs.Words.{onto_first, lines_of, words_of, words_left, is_number, number_in, at_most_2^63, length_in, hex_bytes_in, if_32, root_in, value_from}
use Rattle.warg_program.specs.Orders.{Order, first_says, none_left, next, done, good_or_bad, order_of, line_of, bad}
use Rattle.warg_program.specs.Private.Parts.{Lacks, IsFirstPart, last_says}

Lacks-append : (b : ℕ) (xs ys : List ℕ) → Lacks b xs → Lacks b ys → Lacks b (xs ++ ys)
Lacks-append b [] ys p q = q
Lacks-append b (x ∷ xs) ys p q = (p.0, Lacks-append b xs ys p.1 q)

-- one more byte that isn't the separator
lacks_more : (b : ℕ) (bytes : List ℕ) (i : ℕ) → i < length bytes → Lacks b (take i bytes) → get_or bytes i 0 ≢ b
    → Lacks b (take (i + 1) bytes)
lacks_more b bytes i within before here =
    rw (add-one, take-suc bytes i 0 within) (Lacks-append b (take i bytes) (get_or bytes i 0 ∷ []) before (here, tt))

-- a front whose bytes each aren't the separator
lacks_before : (b : ℕ) (bytes : List ℕ) (i : ℕ) → i ≤ length bytes → ((k : ℕ) → k < i → get_or bytes k 0 ≢ b)
    → Lacks b (take i bytes)
lacks_before b bytes zero within lacks = tt
lacks_before b bytes (suc i) within lacks =
    rw (← add-one i) (lacks_more b bytes i (omega arith)
    (lacks_before b bytes i (omega arith) (λ k below. lacks k (omega arith))) (lacks i (omega arith)))

-- what stands before and behind the first separator
pub found_parts : (b : ℕ) (bytes : List ℕ) (i : ℕ) → IsFirstByte (is_byte b) bytes (Some i)
    → (bytes ≡ take i bytes ++ b ∷ take (length bytes - (i + 1)) (drop (i + 1) bytes)) × Lacks b (take i bytes)
found_parts b bytes i found =
    let within : i < length bytes = found.0.high in
    let short : length (drop (i + 1) bytes) ≤ length bytes - (i + 1) = omega (arith, length-drop (i + 1) bytes) in
    let rest : take (length bytes - (i + 1)) (drop (i + 1) bytes) ≡ drop (i + 1) bytes = take_all _ _ short in
    let here : get_or bytes i 0 ≡ b = eqb-true _ _ found.1 in
    let front : drop i bytes ≡ b ∷ drop (i + 1) bytes = drop-cons bytes i 0 within ∙ rw (here, add-one) refl in (
      rw rest (sym (take-append-drop i bytes) ∙ ap (λ l. take i bytes ++ l) front),
      lacks_before b bytes i (omega arith) (λ k below same. found.0.before k (omega arith) below (eq-eqb _ _ same)),
    )

-- bytes with no separator
pub none_lacks : (b : ℕ) (bytes : List ℕ) → IsFirstByte (is_byte b) bytes None → Lacks b bytes
none_lacks b bytes none =
    let whole : take (length bytes) bytes ≡ bytes = take_all _ _ (le_refl (length bytes)) in
    rw whole at (lacks_before b bytes (length bytes) (le_refl (length bytes))
    (λ k below same. none k (omega arith) below (eq-eqb _ _ same)))

-- the value only grows with further digits
value_from-le : (n : ℕ) (digits : List ℕ) → n ≤ value_from n digits
unfolding value_from
value_from-le n [] = omega arith
value_from-le n (digit ∷ digits) = let more = value_from-le (10 * n + (digit - 48)) digits in omega arith

all_four : (a b c d : Bool) → a ≡ true → b ≡ true → c ≡ true → d ≡ true → (a && b && c && d) ≡ true
all_four a b c d p q r s = rw (p, q, r, s) refl

last_false : (a b : Bool) → b ≡ false → (a && b) ≡ false
last_false true b p = p
last_false false b p = refl

-- a word of digits with a value that fits is the number
pub number : (word : List ℕ) (n : ℕ) → 0 < length word → length word ≤ 20 → list_all is_ascii_digit word ≡ true
    → value_from 0 word ≡ n → n < 2 ^ 64
    → number_in word ≡ Some n
unfolding number_in
number word n some few digits is fits =
    let test : is_number word ≡ true = all_four _ _ _ _ (le-leb 1 (length word) some)
    (le-leb (length word) 20 few) digits (rw is (lt-ltb n (2 ^ 64) fits)) in
    rw (test, is) refl

-- a word whose value doesn't fit is none
pub too_great : (word : List ℕ) (n i : ℕ) → value_from 0 word ≡ value_from n (drop i word) → i < length word
    → 2 ^ 64 ≤ 10 * n + (get_or word i 0 - 48)
    → number_in word ≡ None
unfolding number_in value_from
too_great word n i is within great =
    let more = value_from-le (10 * n + (get_or word i 0 - 48)) (drop (suc i) word) in
    let whole : value_from 0 word ≡ value_from (10 * n + (get_or word i 0 - 48)) (drop (suc i) word) = is
    ∙ rw (drop-cons word i 0 within) refl in
    let test : is_number word ≡ false = last_false _ _ (le-ltb (value_from 0 word) (2 ^ 64) (omega arith)) in
    rw test refl

words_front : (front rest : List ℕ) → Lacks 32 front → words_of (front ++ 32 ∷ rest) ≡ front ∷ words_of rest
unfolding words_of
words_front [] rest lacks = refl
words_front (b ∷ front) rest lacks = rw (ne_eqb b 32 lacks.0, words_front front rest lacks.1) refl

words_whole : (line : List ℕ) → Lacks 32 line → words_of line ≡ line ∷ []
unfolding words_of
words_whole [] lacks = refl
words_whole (b ∷ line) lacks = rw (ne_eqb b 32 lacks.0, words_whole line lacks.1) refl

-- the first word, and those of what stands behind its space
pub words_next : (line front : List ℕ) (rest : Option (List ℕ)) → IsFirstPart 32 line front rest
    → words_of line ≡ front ∷ words_left rest
words_next line front None parts = rw parts.0 (words_whole front parts.1)
words_next line front (Some rest) parts = rw parts.0 (words_front front rest parts.1)

-- a line by its first word and the words behind it
pub named_line : (line name : List ℕ) (rest : Option (List ℕ)) → 0 < length line → IsFirstPart 32 line name rest
    → line_of line ≡ good_or_bad (order_of (name ∷ words_left rest))
unfolding line_of
named_line [] name rest some parts = absurd (omega arith)
named_line (b ∷ bytes) name rest some parts = ap (λ words. good_or_bad (order_of words))
    (words_next (b ∷ bytes) name rest parts)

-- a line whose first word is a command's name
pub command_line : (line name word : List ℕ) (rest : Option (List ℕ)) → false ≡ (length line == 0)
    → IsFirstPart 32 line name rest → true ≡ same_bytes name word
    → line_of line ≡ good_or_bad (order_of (word ∷ words_left rest))
command_line [] name word rest some parts same = absurd (true≢false (sym some))
command_line (b ∷ line) name word rest some parts same =
    named_line (b ∷ line) name rest (omega arith) parts ∙ ap (λ w. good_or_bad (order_of (w ∷ words_left rest)))
    (same_text name word same)

-- a line whose first word is no command's name
pub other_line : (line name : List ℕ) (rest : Option (List ℕ)) → false ≡ (length line == 0)
    → IsFirstPart 32 line name rest → order_of (name ∷ words_left rest) ≡ None → line_of line ≡ bad
other_line [] name rest some parts none = absurd (true≢false (sym some))
other_line (b ∷ line) name rest some parts none = named_line (b ∷ line) name rest (omega arith) parts
    ∙ ap good_or_bad none

-- a line has a word
pub word_left : (line : List ℕ) → none_left (words_of line) ≡ None
unfolding words_of none_left
word_left [] = refl
word_left (b ∷ bytes) = cond_both (b == 32) _ _ (λ words. none_left words ≡ None) (λ _. refl)
    (λ _. elim (words_of bytes) as (λ (words : List (List ℕ)). none_left (onto_first b words) ≡ None)
    [ [] ↦ refl | word ∷ words ↦ refl ])

-- a first word says what is kept of what it says
abbrev pub first_kept : {X Y : Type 0} → (X → Option Y) → Option (X × List (List ℕ)) → Option (Y × List (List ℕ))
first_kept keep (Some p) = option_map (λ y. (y, p.1)) (keep p.0)
first_kept keep None = None

says_kept : {X Y : Type 0} (say : List ℕ → Option X) (keep : X → Option Y) (words : List (List ℕ))
    → first_says (λ word. option_and_then keep (say word)) words ≡ first_kept keep (first_says say words)
unfolding first_says
says_kept say keep [] = refl
says_kept {X} {Y} say keep (word ∷ words) = kept (say word)
  where
    kept : (said : Option X) → option_map (λ y. (y, words)) (option_and_then keep said)
        ≡ first_kept keep (option_map (λ x. (x, words)) said)
    kept (Some x) = refl
    kept None = refl

pub length_says : (words : List (List ℕ)) → first_says length_in words ≡ first_kept at_most_2^63
    (first_says number_in words)
unfolding length_in
length_says words = says_kept number_in at_most_2^63 words

pub root_says : (words : List (List ℕ)) → first_says root_in words ≡ first_kept if_32 (first_says hex_bytes_in words)
unfolding root_in
root_says words = says_kept hex_bytes_in if_32 words

-- a first word that says 32 bytes
pub root_said : (words rest : List (List ℕ)) (bytes root : List ℕ) → first_says hex_bytes_in words ≡ Some (bytes, rest)
    → root ≡ bytes → length bytes ≡ 32 → first_says root_in words ≡ Some (root, rest)
root_said words rest bytes root says is long = rw (root_says words, says, eq-eqb _ _ long, is) refl

-- an order of which the last word says something
pub last_word : {X : Type 0} (say : List ℕ → Option X) (order : X → Order) (words : List (List ℕ)) (x : X)
    → last_says say words ≡ Some x → next say (λ y. done (order y)) words ≡ Some (order x)
last_word {X} say order words x says = said (first_says say words) says
  where
    left : (y : X) (none : Option (Unit {0})) → option_map (λ _. y) none ≡ Some x → option_map (λ _. order y) none
        ≡ Some (order x)
    left y (Some _) e = ap (option_map order) e
    left y None e = absurd (cc)

    said : (p : Option (X × List (List ℕ))) → option_and_then (λ q. option_map (λ _. q.0) (none_left q.1)) p ≡ Some x
        → option_and_then (λ q. done (order q.0) q.1) p ≡ Some (order x)
    said (Some q) e = left q.0 (none_left q.1) e
    said None e = absurd (cc)

lines_front : (front rest : List ℕ) → Lacks 10 front → lines_of (front ++ 10 ∷ rest) ≡ front ∷ lines_of rest
unfolding lines_of
lines_front [] rest lacks = refl
lines_front (b ∷ front) rest lacks = rw (ne_eqb b 10 lacks.0, lines_front front rest lacks.1) refl

lines_whole : (b : ℕ) (line : List ℕ) → Lacks 10 (b ∷ line) → lines_of (b ∷ line) ≡ (b ∷ line) ∷ []
unfolding lines_of
lines_whole b [] lacks = rw (ne_eqb b 10 lacks.0) refl
lines_whole b (c ∷ line) lacks = rw (ne_eqb b 10 lacks.0, lines_whole c line lacks.1) refl

-- bytes that aren't none
pub some_bytes : (bytes : List ℕ) → false ≡ (length bytes == 0) → 0 < length bytes
some_bytes [] some = absurd (true≢false (sym some))
some_bytes (b ∷ bytes) some = omega arith

-- the first line, and those of what stands behind its LF, if it has one
pub first_line : (bytes front : List ℕ) (rest : Option (Bor (List ℕ))) (none behind : Bor (List ℕ))
    → behind ≡ unwrap_or rest none → none.now ≡ [] → 0 < length bytes
    → IsFirstPart 10 bytes front (option_map (λ r. r.now) rest)
    → (lines_of bytes ≡ front ∷ lines_of behind.now) × (length behind.now < length bytes)
unfolding lines_of
first_line bytes front (Some rest) none behind is no_byte some parts =
    rw is (
      rw parts.0 (lines_front front rest.now parts.1),
      omega (arith, ap length parts.0, length-append front (10 ∷ rest.now)),
    )
first_line bytes [] None none behind is no_byte some parts = absurd (omega (arith, ap length parts.0))
first_line bytes (b ∷ front) None none behind is no_byte some parts =
    rw (is, no_byte) (rw parts.0 (lines_whole b front parts.1), some)
