-- What refutes a law without one of its premises.
use Rattle.std.proofs.Common.{◌≡◌, ℕ, zero, suc, ◌+◌, ◌-◌, ◌^◌, Bool, false, List, [], ◌∷◌, ◌++◌, length, drop, Option, Some, None, Ok, refl, sym, ap, ◌∙◌, arith}
use Rattle.std.specs.Prelude.{replicate, slice_get}
use Rattle.std.specs.Int.{to_be_bytes, w64}
use Rattle.std.specs.FinMap.{get}
use Rattle.std.proofs.lemmas.List.{append-nil, length-append, length-replicate}
use Rattle.base64.specs.Engines.{standard}
use Rattle.base64.specs.GeneralPurpose.{decode_of}
use Rattle.warg_crypto.specs.Framed.{IsPart}
use Rattle.warg_crypto.specs.Tree.{leaf_digest}
use Rattle.warg_crypto.proofs.ForCallers.{zeros, ones, zeros_are, ones_are}
use Rattle.warg_map.specs.Bits.{bits_from, key_bits}
use Rattle.warg_map.specs.Last.{last_with}
use Rattle.warg_map.specs.Sparse.{map_of, root_of_levels, sparse_root}
use Rattle.warg_map.proofs.ForCallers.{last_held, same_bits-itself}
use Rattle.warg_pages.specs.Prefixes.{last_place, version}
use Rattle.warg_registry.specs.Insertions.{entry_of, entries_of}
use Rattle.warg_registry.specs.Registry.{line_of, said_of}
use Rattle.warg_registry.proofs.MapLines.{root_is}

-- A list of any length, which nothing computes.
pub some_list : (n : ℕ) → (xs : List ℕ) × (length xs ≡ n)
some_list n = (replicate n 0, length-replicate n 0)

abbrev more : List ℕ
more = (some_list (2 ^ 64 - 9)).0

-- The length of no bytes, which 2 ^ 64 bytes have, too.
abbrev no_length : List ℕ
no_length = replicate 8 0

-- A key and a value of 2 ^ 64 bytes.
abbrev key : List ℕ
key = no_length ++ 1 ∷ more

abbrev value : List ℕ
value = 1 ∷ more ++ no_length

-- Two insertions of one entry.
abbrev pub long_key : List ℕ × List ℕ
long_key = (key, [])

abbrev pub long_value : List ℕ × List ℕ
long_value = ([], value)

key_length : length key ≡ 2 ^ 64
key_length = omega (arith, (some_list (2 ^ 64 - 9)).1)

value_length : length value ≡ 2 ^ 64
value_length = omega (arith, (some_list (2 ^ 64 - 9)).1, length-append more no_length)

pub same_entry : entry_of long_key ≡ entry_of long_value
same_entry =
    let as_key = ap (λ n. (to_be_bytes w64 n ++ key) ++ no_length) key_length in
    let as_value = ap (λ n. no_length ++ ((to_be_bytes w64 n ++ value) ++ [])) value_length in
    let between = ap (λ bytes. no_length ++ no_length ++ 1 ∷ bytes) (sym (append-nil (more ++ no_length))) in
    as_key ∙ between ∙ sym as_value

pub differ : ¬ (long_key ≡ long_value)
differ same = let keys : key ≡ [] = ap (λ e. e.0) same in cc

pub empty_is : IsPart []
empty_is = omega arith

-- An insertion of no bytes, and one under another key.
abbrev pub bare : List ℕ × List ℕ
bare = ([], [])

abbrev pub other : List ℕ × List ℕ
other = (0 ∷ [], [])

pub keys_differ : ¬ (bare ≡ other)
keys_differ same = let keys : bare.0 ≡ other.0 = ap (λ e. e.0) same in cc

-- Each list has one of them.
pub same_entries : entries_of (long_key ∷ []) ≡ entries_of (long_value ∷ [])
same_entries = ap (λ entry. entry ∷ []) same_entry

pub lists_differ : ¬ ((long_key ∷ []) ≡ (long_value ∷ []))
lists_differ same = let first : long_key ≡ long_value = cc in differ first

-- Ones where the second byte is there and not zero, and else zeros.
abbrev pub second : List ℕ → List ℕ
second [] = zeros
second (x ∷ []) = zeros
second (x ∷ zero ∷ bytes) = zeros
second (x ∷ suc y ∷ bytes) = ones

-- Such a digest of a branch is its left one, and so the root is what is held at the left.
left_root : (v : List ℕ) → ((r : List ℕ) → second (1 ∷ v ++ r) ≡ v) → (k : ℕ) (held : List Bool → Option (List ℕ))
    → held (replicate k false) ≡ Some v → root_of_levels second k held ≡ v
unfolding root_of_levels
left_root v left zero held is = rw is refl
left_root v left (suc k) held is = rw (left_root v left k (λ bits. held (false ∷ bits)) is) (left _)

-- The bits of a digest of zeros.
zero_bits : bits_from zeros 0 256 ≡ replicate 256 false
unfolding bits_from
zero_bits = refl

-- What a map of one insertion holds.
pub held_alone : (H : List ℕ → List ℕ) (e : List ℕ × List ℕ) → get (map_of H (e ∷ [])) (key_bits H e.0)
    ≡ Some (leaf_digest H e.1)
unfolding last_with
held_alone H e = last_held H (key_bits H e.0) (e ∷ []) ∙ rw (same_bits-itself (key_bits H e.0)) refl

root_alone : (e : List ℕ × List ℕ) (v : List ℕ) → second e.0 ≡ zeros → second (0 ∷ e.1) ≡ v
    → ((r : List ℕ) → second (1 ∷ v ++ r) ≡ v) → sparse_root second 256 (map_of second (e ∷ [])) ≡ v
root_alone e v key_is leaf left =
    let bits : key_bits second e.0 ≡ replicate 256 false = ap (λ d. bits_from d 0 256) key_is ∙ zero_bits in
    let held = ap (get (map_of second (e ∷ []))) (sym bits) ∙ held_alone second e ∙ ap Some leaf in
    left_root v left 256 (get (map_of second (e ∷ []))) held

lines_differ : ¬ (line_of zeros ≡ line_of ones)
lines_differ same =
    let digits = drop 4 (line_of zeros) in
    let first : decode_of standard digits ≡ Ok zeros = (root_is (line_of zeros) digits zeros refl zeros_are refl).1 in
    let other : decode_of standard digits ≡ Ok ones = (root_is (line_of zeros) digits ones refl ones_are same).1 in
    let digests : zeros ≡ ones = cc (sym first ∙ other) in
    cc

pub registries_differ : ¬ (said_of second [] (long_key ∷ []) ≡ said_of second [] (long_value ∷ []))
registries_differ same =
    let root = root_alone long_key zeros refl refl (λ r. refl) in
    let other = root_alone long_value ones refl refl (λ r. refl) in
    let both = ap (λ s. s.extensions) same in
    let lines : line_of (sparse_root second 256 (map_of second (long_key ∷ [])))
    ≡ line_of (sparse_root second 256 (map_of second (long_value ∷ []))) = cc in
    lines_differ (ap line_of (sym root) ∙ lines ∙ ap line_of other)

-- A digest function that gives no bytes.
abbrev pub nothing : List ℕ → List ℕ
nothing m = []

-- An insertion of no bytes, alone.
abbrev pub alone : List (List ℕ × List ℕ)
alone = ([], []) ∷ []

pub counts_differ : ¬ (said_of nothing [] [] ≡ said_of nothing [] alone)
counts_differ same = let counts : 0 ≡ length alone = ap (λ s. s.length) same in cc

pub first_version : 0 + 1 ≡ version nothing alone (key_bits nothing [])
unfolding last_place bits_from
first_version = refl

pub none_there : (entry : List ℕ) → ¬ (slice_get (entries_of alone) 1 ≡ Some entry)
none_there entry is = let no : None ≡ Some entry = is in cc

pub no_such_leaf : (bytes : List ℕ) → ¬ (leaf_digest nothing bytes ≡ 0 ∷ [])
no_such_leaf bytes is = cc
