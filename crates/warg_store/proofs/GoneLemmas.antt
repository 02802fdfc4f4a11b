-- Files that are removed, one after the other.
use Rattle.std.proofs.Common.{◌≡◌, ◌≢◌, ℕ, zero, suc, ◌+◌, add-one, add-zero, add-suc, ◌<◌, ◌≤◌, List, length, get_or, IsSome, string_bytes, sym, ap, ◌∙◌, arith}
use Rattle.std.specs.declared.string.String.{String}
use Rattle.std.specs.declared.alloc.Global.{Global}
use Rattle.std.proofs.lemmas.List.{get_or_default}
use Rattle.warg_folder.specs.Files.{Files, without, AreApart}
use Rattle.warg_folder.proofs.ForCallers.{without_apart}
use Rattle.warg_store.specs.Pruned.{AreGone}

-- one file more
pub gone_more : (n : ℕ) (old mid new : Files) (name : List ℕ) → AreGone n old mid → IsSome (mid name)
    → new ≡ without name mid → AreGone (n + 1) old new
gone_more n old mid new name gone there is = rw (add-one n) (name, mid, gone, there, is)

-- files that are removed, and then others
pub gone_then : (m n : ℕ) (old mid new : Files) → AreGone m old mid → AreGone n mid new → AreGone (m + n) old new
gone_then m zero old mid new one two = rw (add-zero m, two) one
gone_then m (suc n) old mid new one (name, before, two, there, is) =
    rw (add-suc m n) (name, before, gone_then m n old mid before one two, there, is)

-- Names from one on have a file.
abbrev pub AreLeft : ℕ → List (String Global) → Files → Type 0
AreLeft i names files = (k : ℕ) (d : String Global) → i ≤ k → k < length names
    → IsSome (files (string_bytes (get_or names k d)))

-- without the first of them those behind it still have
pub left_behind : (names : List (String Global)) (i : ℕ) (it : String Global) (name : List ℕ) (mid new : Files)
    → i < length names → it ≡ get_or names i it → name ≡ string_bytes it
    → AreApart names
    → AreLeft i names mid → new ≡ without name mid → AreLeft (i + 1) names new
left_behind names i it name mid new below is named apart left gone k d behind inside =
    let text : String Global → List ℕ = λ s. string_bytes s in
    let here : name ≡ text (get_or names i d) = named ∙ ap text (is ∙ get_or_default names i it d below) in
    let other : name ≢ text (get_or names k d) = λ same. apart i k d (omega (arith, behind)) inside (sym here ∙ same) in
    rw (gone, without_apart name mid (text (get_or names k d)) other) (left k d (omega (arith, behind)) inside)

pub left_after : (names : List (String Global)) (i : ℕ) (files : Files) → AreLeft i names files
    → AreLeft (i + 1) names files
left_after names i files left k d behind inside = left k d (omega (arith, behind)) inside

-- the first of them is there
pub first_left : (names : List (String Global)) (i : ℕ) (it : String Global) (name : List ℕ) (files : Files)
    → i < length names → it ≡ get_or names i it → name ≡ string_bytes it → AreLeft i names files → IsSome (files name)
first_left names i it name files below is named left =
    rw (named, is) (left i it (omega arith) below)
