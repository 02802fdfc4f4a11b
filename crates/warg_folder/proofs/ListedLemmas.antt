-- The names that a folder in memory lists.
use Rattle.std.proofs.Common.{◌≡◌, ◌≢◌, inl, inr, ℕ, ◌+◌, ◌<◌, List, [], ◌∷◌, ◌++◌, length, get_or, map, true, Some, IsSome, nat_eq, sym, ◌∙◌, arith, string_bytes}
use Rattle.std.specs.List.{All, Contains, starts_with}
use Rattle.std.proofs.lemmas.List.Quantifiers.{all_pairs_push}
use Rattle.std.proofs.lemmas.Bool.{cases_lt}
use Rattle.std.proofs.lemmas.List.{get_or-map, get_or_default, length-map, map-append}
use Rattle.std.proofs.lemmas.List.Elements.{All-push, Contains-append_left, Contains-push}
use Rattle.std.specs.declared.string.String.{String}
use Rattle.std.specs.declared.alloc.Global.{Global}
use Rattle.warg_folder.specs.declared.memory.Call.{Call}
use Rattle.warg_folder.specs.Files.{AreApart}
use Rattle.warg_folder.specs.Memory.{seen_after, name_put}
use Rattle.warg_folder.proofs.ListLemmas.{text}
use Rattle.warg_folder.proofs.MemoryLemmas.{was_put}

-- one name more
pub apart_more : (names new : List (String Global)) (x : String Global) → new ≡ names ++ x ∷ [] → AreApart names
    → (Contains (map text names) (text x) → ⊥) → AreApart new
apart_more names new x is apart other =
    rw is (all_pairs_push (λ (a b : String Global). string_bytes a ≢ string_bytes b) names x apart
    (λ k d below same. other
    (k, omega (arith, length-map names text, below), get_or-map text names k d (text x) below ∙ same)))

module _ (calls : List Call) (prefix : List ℕ) where
  -- each has a file and begins with the prefix
  abbrev pub AreThere : List (String Global) → Type 0
  AreThere names = All (λ name. IsSome (seen_after calls (text name))
      × (starts_with nat_eq (text name) prefix ≡ true)) names

  -- each such name that the first i calls put is among them
  abbrev pub AreAll : ℕ → List (String Global) → Type 0
  AreAll i names = (k : ℕ) (d : Call) (n : List ℕ) → k < i → name_put (get_or calls k d) ≡ Some n
      → IsSome (seen_after calls n) → starts_with nat_eq n prefix ≡ true → Contains (map text names) n

  pub there_more : (names new : List (String Global)) (x : String Global) → new ≡ names ++ x ∷ [] → AreThere names
      → IsSome (seen_after calls (text x)) → starts_with nat_eq (text x) prefix ≡ true → AreThere new
  there_more names new x is there some begins =
      rw is (All-push (λ (name : String Global). IsSome (seen_after calls (text name))
      × (starts_with nat_eq (text name) prefix ≡ true)) names x there (some, begins))

  at_call : (i k : ℕ) (call d : Call) → i < length calls → call ≡ get_or calls i call → k ≡ i → get_or calls k d ≡ call
  at_call i k call d below is here = rw (here, get_or_default calls i d call below) (sym is)

  pub all_more : (i : ℕ) (call : Call) (names new : List (String Global)) (x : String Global) → i < length calls
      → call ≡ get_or calls i call → new ≡ names ++ x ∷ []
      → AreAll i names → name_put call ≡ Some (text x) → AreAll (i + 1) new
  all_more i call names new x below is more all put k d n lt by some begins =
      rw (more, map-append text names (x ∷ [])) (elim (cases_lt k i) [
        | inl before ↦ Contains-append_left (map text names) (text x ∷ []) n (all k d n before by some begins)
        | inr here ↦
            let same : k ≡ i = omega arith in
            let one : text x ≡ n = let e = rw (at_call i k call d below is same, put) at by in cc in
            rw (← one) (Contains-push (map text names) (text x))
      ])

  pub all_same : (i : ℕ) (call : Call) (names : List (String Global)) → i < length calls → call ≡ get_or calls i call
      → AreAll i names → ((n : List ℕ) → name_put call ≡ Some n → IsSome (seen_after calls n)
      → starts_with nat_eq n prefix ≡ true → Contains (map text names) n) → AreAll (i + 1) names
  all_same i call names below is all none k d n lt by some begins = elim (cases_lt k i) [
    | inl before ↦ all k d n before by some begins
    | inr here ↦ let same : k ≡ i = omega arith in
        none n (rw (at_call i k call d below is same) at by) some begins
  ]

  -- a file that is there was put by some call
  pub all_put : (names : List (String Global)) (d : Call) → AreAll (length calls) names → (n : List ℕ)
      → IsSome (seen_after calls n) → starts_with nat_eq n prefix ≡ true → Contains (map text names) n
  all_put names d all n some begins = let by = was_put calls n d some in all by.0 d n by.1 by.2 some begins
