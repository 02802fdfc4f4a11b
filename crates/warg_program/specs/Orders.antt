-- The program's commands: which lines are which, and no other line is good.
use Rattle.std.specs.Prelude.{ℕ, if◌then◌else◌, List, [], ◌∷◌, codes, Option, Some, None, option_and_then}
use Rattle.std.specs.Option.{option_map}
use Rattle.warg_crypto.specs.Bytes.{same_bytes}
use Rattle.warg_program.specs.Words.{number_in, length_in, hex_bytes_in, root_in, words_of}

-- What a good line orders.
pub data Order : Type 0 where
  push : List ℕ → Order
  log : Order
  include : ℕ → ℕ → List ℕ → Order
  consistent : ℕ → ℕ → Order
  bundle : ℕ → ℕ → Order
  verify : List ℕ → List ℕ → List ℕ → Order
  insert : List ℕ → List ℕ → Order
  map : Order
  prove : List ℕ → List ℕ → Order
  absent : List ℕ → Order

-- ---- words one after the other

-- What the first word says, and the words behind it. None where there is no word, or it says nothing of the kind.
unfoldable pub first_says : {X : Type 0} → (List ℕ → Option X) → List (List ℕ) → Option (X × List (List ℕ))
first_says say [] = None
first_says say (word ∷ words) = option_map (λ x. (x, words)) (say word)

-- That there are no words.
unfoldable pub none_left : List (List ℕ) → Option (Unit {0})
none_left [] = Some tt
none_left (word ∷ words) = None

-- The order that words spell of which the first one says something, and those behind it the rest.
abbrev pub next : {X : Type 0} → (List ℕ → Option X) → (X → List (List ℕ) → Option Order) → List (List ℕ) → Option Order
next say rest words = option_and_then (λ p. rest p.0 p.1) (first_says say words)

-- The order that no further words spell.
abbrev pub done : Order → List (List ℕ) → Option Order
done order words = option_map (λ _. order) (none_left words)

-- ---- the words of each command, behind its name

-- push BYTES
abbrev pub push_in : List (List ℕ) → Option Order
push_in words = next hex_bytes_in (λ entry. done (push entry)) words

-- log
abbrev pub log_in : List (List ℕ) → Option Order
log_in words = done log words

-- include NODE LENGTH BYTES
abbrev pub include_in : List (List ℕ) → Option Order
include_in words = next number_in (λ node. next length_in (λ length. next hex_bytes_in (λ value. done (include node length value)))) words

-- consistent OLD NEW
abbrev pub consistent_in : List (List ℕ) → Option Order
consistent_in words = next length_in (λ old. next length_in (λ new. done (consistent old new))) words

-- bundle NODE LENGTH
abbrev pub bundle_in : List (List ℕ) → Option Order
bundle_in words = next number_in (λ node. next length_in (λ length. done (bundle node length))) words

-- verify ROOT VALUE BUNDLE
abbrev pub verify_in : List (List ℕ) → Option Order
verify_in words = next root_in (λ root. next hex_bytes_in (λ value. next hex_bytes_in (λ bytes. done (verify root value bytes)))) words

-- insert KEY VALUE
abbrev pub insert_in : List (List ℕ) → Option Order
insert_in words = next hex_bytes_in (λ key. next hex_bytes_in (λ value. done (insert key value))) words

-- map
abbrev pub map_in : List (List ℕ) → Option Order
map_in words = done map words

-- prove KEY VALUE
abbrev pub prove_in : List (List ℕ) → Option Order
prove_in words = next hex_bytes_in (λ key. next hex_bytes_in (λ value. done (prove key value))) words

-- absent KEY
abbrev pub absent_in : List (List ℕ) → Option Order
absent_in words = next hex_bytes_in (λ key. done (absent key)) words

-- ---- lines

-- The order of a line's words: the first one is the name of a command, which reads the others.
unfoldable pub order_of : List (List ℕ) → Option Order
order_of [] = None
order_of (name ∷ words) =
    if same_bytes name (codes "push")
    then push_in words
    else if same_bytes name (codes "log")
    then log_in words
    else if same_bytes name (codes "include")
    then include_in words
    else if same_bytes name (codes "consistent")
    then consistent_in words
    else if same_bytes name (codes "bundle")
    then bundle_in words
    else if same_bytes name (codes "verify")
    then verify_in words
    else if same_bytes name (codes "insert")
    then insert_in words
    else if same_bytes name (codes "map")
    then map_in words
    else if same_bytes name (codes "prove")
    then prove_in words
    else if same_bytes name (codes "absent")
    then absent_in words
    else None

-- What a line is: no byte at all, no good line, or an order.
pub data Line : Type 0 where
  empty : Line
  bad : Line
  good : Order → Line

-- A line whose words say this order, or none.
abbrev pub good_or_bad : Option Order → Line
good_or_bad (Some order) = good order
good_or_bad None = bad

-- What a line is: empty, an order, or bad.
unfoldable pub line_of : List ℕ → Line
line_of [] = empty
line_of (b ∷ bytes) = good_or_bad (order_of (words_of (b ∷ bytes)))
