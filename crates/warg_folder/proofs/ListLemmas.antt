-- Names in a list.
use Rattle.std.proofs.Common.{◌≡◌, ◌⊎◌, ℕ, ◌+◌, ◌<◌, List, [], ◌∷◌, length, map, take, get_or, string_bytes}
use Rattle.std.specs.List.{Contains}
use Rattle.std.proofs.lemmas.List.{take_more, map-append}
use Rattle.std.proofs.lemmas.List.Elements.{Contains-push_cases}
use Rattle.std.specs.declared.string.String.{String}
use Rattle.std.specs.declared.alloc.Global.{Global}

-- the bytes of a name
abbrev pub text : String Global → List ℕ
text name = string_bytes name

-- one name more
pub contains_more : (names : List (String Global)) (i : ℕ) (name : String Global) (n : List ℕ) → i < length names
    → name ≡ get_or names i name → Contains (map text (take (i + 1) names)) n
    → Contains (map text (take i names)) n ⊎ (text name ≡ n)
contains_more names i name n below is contained = Contains-push_cases (map text (take i names)) (text name) n
    (rw (take_more names i name below, ← is, map-append text (take i names) (name ∷ [])) at contained)
