-- Names that are left of others.
use Rattle.std.proofs.Common.{◌≡◌, ◌≢◌, ⊎_elim, ◌⊎◌, ℕ, ◌-◌, ◌<◌, List, [], ◌∷◌, ◌++◌, length, get_or, append_assoc, refl, sym, ap, ◌∙◌, arith}
use Rattle.std.specs.List.{All, Contains, remove}
use Rattle.std.specs.String.{string_bytes}
use Rattle.std.specs.declared.string.String.{String}
use Rattle.std.specs.declared.alloc.Global.{Global}
use Rattle.std.proofs.lemmas.List.{get_or-map, length-append, length-map, map-append}
use Rattle.std.proofs.lemmas.List.Edits.{remove-append_right}
use Rattle.std.proofs.lemmas.List.Elements.{Contains-append_cases, Contains-append_left, Contains-append_right}
use Rattle.std.proofs.lemmas.List.Quantifiers.{all_pairs_remove}
use Rattle.warg_registry.specs.Pruning.{bytes_of, AreSome}
use Rattle.warg_registry.proofs.Listed.{later_there}

-- the bytes of a name
abbrev text : String Global → List ℕ
text s = string_bytes s

-- a name of two lists is one of either
pub named_left : (xs ys : List (String Global)) (n : List ℕ) → Contains (bytes_of xs) n
    → Contains (bytes_of (xs ++ ys)) n
named_left xs ys n h = rw (map-append text xs ys) (Contains-append_left (bytes_of xs) (bytes_of ys) n h)

pub named_right : (xs ys : List (String Global)) (n : List ℕ) → Contains (bytes_of ys) n
    → Contains (bytes_of (xs ++ ys)) n
named_right xs ys n h = rw (map-append text xs ys) (Contains-append_right (bytes_of xs) (bytes_of ys) n h)

pub named_cases : (xs ys : List (String Global)) (n : List ℕ) → Contains (bytes_of (xs ++ ys)) n
    → Contains (bytes_of xs) n ⊎ Contains (bytes_of ys) n
named_cases xs ys n h = Contains-append_cases (bytes_of xs) (bytes_of ys) n (rw (map-append text xs ys) at h)

pub some_all : (names : List (String Global)) → AreSome names names
some_all names = record { within = λ n there. there; apart = λ apart. apart }

-- one that goes on to others leaves all in their order
pub moved : (others : List (String Global)) {after items rest : List (String Global)} {s : String Global}
    → after ≡ others ++ s ∷ [] → items ≡ s ∷ rest → others ++ items ≡ after ++ rest
moved others {rest = rest} {s = s} pushed e =
    rw e (sym (append_assoc others (s ∷ []) rest) ∙ ap (λ a. a ++ rest) (sym pushed))

-- one that is left out
pub some_passed : (names others items rest : List (String Global)) (s : String Global) → items ≡ s ∷ rest
    → AreSome (others ++ items) names → AreSome (others ++ rest) names
some_passed names others items rest s e some = record {
  within = λ n there. all.within n (added n there);
  apart = λ apart. rw without at (all_pairs_remove (λ (a b : String Global). string_bytes a ≢ string_bytes b)
      (others ++ s ∷ rest) (length others) (omega (arith, length-append others (s ∷ rest))) (all.apart apart));
}
  where
    all : AreSome (others ++ s ∷ rest) names
    all = rw e at some

    without : remove (others ++ s ∷ rest) (length others) ≡ others ++ rest
    without = remove-append_right others (s ∷ rest) (length others) (length others) refl (omega arith)
        ∙ ap (λ k. others ++ remove (s ∷ rest) k) (let none : length others - length others ≡ 0 = omega arith in none)

    added : (n : List ℕ) → Contains (bytes_of (others ++ rest)) n → Contains (bytes_of (others ++ s ∷ rest)) n
    added n there = ⊎_elim (named_left others (s ∷ rest) n)
        (λ new. named_right others (s ∷ rest) n (later_there (bytes_of rest) n (text s) new))
        (named_cases others rest n there)

-- what is so of each of the names is so of some of them
pub some_each : (P : List ℕ → Type 0) (these names : List (String Global)) → AreSome these names
    → All (λ name. P (string_bytes name)) names → All (λ name. P (string_bytes name)) these
some_each P these names some each = λ k d inside.
    let here = some.within (text (get_or these k d)) (
      k,
      omega (arith, length-map these text, inside),
      get_or-map text these k d (text (get_or these k d)) inside,
    ) in
    let low : here.0 < length names = omega (arith, here.1, length-map names text) in
    rw (sym (get_or-map text names here.0 d (text (get_or these k d)) low) ∙ here.2) at (each here.0 d low)
