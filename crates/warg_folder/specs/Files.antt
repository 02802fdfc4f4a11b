-- What stands in a folder, and what a call makes of it.
use Rattle.std.specs.Prelude.{◌≡◌, ◌≢◌, ◌⊎◌, ℕ, nat_eq, List, [], ◌∷◌, Option, Some, None, if◌then◌else◌, AllPairs, string_bytes}
use Rattle.std.specs.declared.alloc.Global.{Global}
use Rattle.std.specs.declared.string.String.{String}
use Rattle.std.specs.Cmp.Lexicographic.{pointwise}
use Rattle.std.specs.Option.{option_or}

-- A name and its bytes.
abbrev pub File : Type 0
File = List ℕ × List ℕ

-- What stands at each name.
abbrev pub Files : Type 0
Files = List ℕ → Option (List ℕ)

-- With this file, and all else the same.
abbrev pub put : File → Files → Files
put f s = λ n. if pointwise nat_eq f.0 n then Some f.1 else s n

-- Without a file of this name, and all else the same.
abbrev pub without : List ℕ → Files → Files
without name s = λ n. if pointwise nat_eq name n then None else s n

-- The file of one name moved to another one, in the place of what stood there. Where there is none, all is the same.
abbrev pub moved : List ℕ → List ℕ → Files → Files
moved from to s = λ n. if pointwise nat_eq to n then option_or (s from) (s to) else without from s n

-- The same at every other name, where anything may stand at this one.
abbrev pub SameBut : List ℕ → Files → Files → Type 0
SameBut name old new = (n : List ℕ) → (name ≡ n → ⊥) → new n ≡ old n

-- As it was, or as the call makes it.
abbrev pub Either : (Files → Files) → Files → Files → Type 0
Either change old new = (new ≡ old) ⊎ (new ≡ change old)

-- One of these files has the name.
abbrev pub IsNameOf : List File → List ℕ → Type 0
IsNameOf [] n = ⊥
IsNameOf (f ∷ fs) n = (f.0 ≡ n) ⊎ IsNameOf fs n

-- No two of the names are one.
abbrev pub AreApart : List (String Global) → Type 0
AreApart names = AllPairs (λ (a b : String Global). string_bytes a ≢ string_bytes b) names
