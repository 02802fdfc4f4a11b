-- A folder whose pages of some names go.
use Rattle.std.proofs.Common.{◌≡◌, ◌⊎◌, inl, inr, ⊎_elim, ℕ, ◌<◌, List, length, map, get_or, true, false, None, Result, refl, sym, ap, ◌∙◌, arith, string_bytes}
use Rattle.std.specs.Prelude.{OnOk, Ok, Err}
use Rattle.std.specs.List.{Contains}
use Rattle.std.proofs.lemmas.List.{get_or-map, length-map}
use Rattle.std.proofs.lemmas.List.Elements.{Contains-get_or}
use Rattle.std.specs.declared.string.String.{String}
use Rattle.std.specs.declared.alloc.Global.{Global}
use Rattle.warg_folder.specs.Files.{Files, without}
use Rattle.warg_folder.specs.Moments.{Only, Follows}
use Rattle.warg_folder.specs.Names.{checkpoint, state, mark, staged, is_staged, is_page}
use Rattle.warg_folder.specs.Commits.{IsBeside}
use Rattle.warg_store.specs.Log.{LogOf, IsFileOf, Keeps, IsOneOf}
use Rattle.warg_store.specs.Growing.{LogIn, Has}
use Rattle.warg_store.specs.Pruned.{ArePagesNotOf, IsNoneOf, IsWithoutPages}
use Rattle.warg_store.specs.Private.Steps.{IsPageGone}
use Rattle.warg_folder.proofs.ForCallers.{one_name, apart, served_not_staged, without_here, without_apart}
use Rattle.warg_store.proofs.LeadLemmas.{file_served}
use Rattle.warg_store.proofs.PruneLemmas.{still_keeps, still_one_of, still_has}

-- no page is gone yet
pub all_pages : (names : List (List ℕ)) (s : Files) → IsWithoutPages names s s
all_pages names s n = inl refl

-- one page more that is gone, or none
pub one_gone : (names : List (List ℕ)) (name : List ℕ) (s d c : Files) → Contains names name
    → IsWithoutPages names s d → IsPageGone name d c → IsWithoutPages names s c
one_gone names name s d c has was (inl same) = rw same was
one_gone names name s d c has was (inr (page, gone)) =
    rw gone (λ n. elim (one_name name n) [
      | inl here ↦ rw (← here.1) (inr (without_here name d, has, page))
      | inr other ↦ elim (was n) [
        | inl same ↦ inl (without_apart name d n other.1 ∙ same)
        | inr lost ↦ inr (without_apart name d n other.1 ∙ lost.0, lost.1, lost.2)
      ]
    ])

pub follows_one : (names : List (List ℕ)) (name : List ℕ) (old mid new : Files → Type 0) → Contains names name
    → Follows (IsWithoutPages names) old mid → Follows (IsPageGone name) mid new
    → Follows (IsWithoutPages names) old new
follows_one names name old mid new has was now c left =
    let from = now c left in
    let first = was from.0 from.1 in
    (first.0, first.1, one_gone names name first.0 from.0 c has first.2 from.2)

-- what is gone stays so
pub still_gone : (name n : List ℕ) (d c : Files) → IsPageGone name d c → d n ≡ None → c n ≡ None
still_gone name n d c (inl same) none = rw same none
still_gone name n d c (inr (page, gone)) none = rw gone (elim (one_name name n)
    [ inl here ↦ rw (← here.1) (without_here name d) | inr other ↦ without_apart name d n other.1 ∙ none ])

-- a file that was removed is gone
pub gone_here : (name : List ℕ) (d c : Files) → c ≡ without name d → c name ≡ None
gone_here name d c gone = rw gone (without_here name d)

-- a page is no file of a log that has no page of its name
no_file : (names : List (List ℕ)) (log : LogOf) (n : List ℕ) → IsNoneOf names log.pages → Contains names n
    → is_page n ≡ true → IsFileOf log n → ⊥
no_file names log n none has page (inl (t, is_in, path)) = apart (sym page ∙ ap is_page (sym path))
no_file names log n none has page (inr (inl (t, is_in, path))) = apart (sym page ∙ ap is_page (sym path))
no_file names log n none has page (inr (inr (f, is_in, path))) = none n has f is_in path

-- What a folder keeps, and what it serves, stays.
module _ (names : List (List ℕ)) (served old next : LogOf) (clear : ArePagesNotOf names served old next) (s : Files)
    (keeps : Keeps served old s) (d : Files) (beside : IsBeside s d) (c : Files) (gone : IsWithoutPages names d c) where
  stays : (n : List ℕ) → is_staged n ≡ false → (Contains names n → is_page n ≡ true → ⊥) → c n ≡ s n
  stays n isnt kept = ⊎_elim (λ same. same ∙ beside.outside n isnt) (λ lost. absurd (kept lost.1 lost.2)) (gone n)

  file_stays : (n : List ℕ) → IsFileOf old n ⊎ IsFileOf served n → c n ≡ s n
  file_stays n (inl file) = stays n (served_not_staged n (file_served old n file))
      (λ has page. no_file names old n clear.not_kept has page file)
  file_stays n (inr file) = stays n (served_not_staged n (file_served served n file))
      (λ has page. no_file names served n clear.not_served has page file)

  no_mark : c mark ≡ None
  no_mark = ⊎_elim (λ same. same ∙ beside.no_mark) (λ lost. lost.0) (gone mark)

  pub without_keeps : Keeps served old c
  without_keeps = still_keeps keeps c no_mark file_stays
      (stays checkpoint refl (λ has page. apart (sym page))) (stays state refl (λ has page. apart (sym page)))

  pub without_one_of : IsOneOf served old old c
  without_one_of = still_one_of keeps c no_mark file_stays
      (stays checkpoint refl (λ has page. apart (sym page))) (stays state refl (λ has page. apart (sym page)))

-- a log whose pages of these names are gone
pub without_has : {F : Type 0} (seen : F → Files) (may_leave : F → Files → Type 0) (names : List (List ℕ))
    (served old next : LogOf) (l : LogIn F) (folder : F) → ArePagesNotOf names served old next
    → IsBeside (seen l.folder) (seen l.folder) → IsWithoutPages names (seen l.folder) (seen folder)
    → Only (seen folder) (may_leave folder)
    → Has seen may_leave served old next l → Has seen may_leave served old next (record l { folder = folder })
without_has seen may_leave names served old next l folder clear beside gone only has =
    still_has folder has
    (without_keeps names served old next clear (seen l.folder) has.keeps (seen l.folder) beside (seen folder) gone)
    (⊎_elim (λ same. same ∙ beside.no_mark) (λ lost. lost.0) (gone mark))
    (λ n. ⊎_elim (λ same. same) (λ lost. absurd (apart (sym lost.2))) (gone (staged n))) only

-- two facts of one result
pub both : {T E : Type 0} (P Q : Type 0) (r : Result T E) → OnOk r P → OnOk r Q → OnOk r (P × Q)
both P Q (Ok v) p q = (p, q)
both P Q (Err e) p q = p

-- a name out of a list is one of its names
pub named_in : (names : List (String Global)) (i : ℕ) (name : String Global) (n : List ℕ) → i < length names
    → name ≡ get_or names i name → n ≡ string_bytes name → Contains (map (λ name. string_bytes name) names) n
named_in names i name n below is value =
    let f : String Global → List ℕ = λ x. string_bytes x in
    rw (get_or-map f names i name (f name) below ∙ ap f (sym is) ∙ sym value) at
    (Contains-get_or (map f names) i (f name) (omega (arith, below, length-map names f)))
