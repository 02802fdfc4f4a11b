-- A registry that grows, as a log with further entries and pages.
use Rattle.std.proofs.Common.{◌≡◌, ◌⊎◌, ⊎_elim, ℕ, ◌+◌, ◌<◌, ◌≤◌, ◌^◌, List, [], ◌∷◌, ◌++◌, length, map, take, get_or, refl, sym, ap, ◌∙◌, subst, inl, inr, arith, append_assoc}
use Rattle.std.specs.List.{Contains}
use Rattle.std.proofs.lemmas.List.{take-map, take_more, get_or-map, get_or-take, length-map, map-append, length-append, length-take-le, get_or_default, append-nil}
use Rattle.warg_crypto.specs.Digests.{sha256}
use Rattle.warg_crypto.specs.EmptyTrees.{empty_root}
use Rattle.warg_map.specs.Sparse.{map_of, sparse_root, inserted}
use Rattle.warg_map.proofs.ForCallers.{empty_map_root}
use Rattle.warg_pages.specs.ChangedPages.{ChangedPageAt, page_at, ChangesAt, AreChangedPages}
use Rattle.warg_pages.specs.Prefixes.{bits_of_bytes, version}
use Rattle.warg_pages.proofs.ForCallers.{one_path_below, version_within}
use Rattle.warg_folder.specs.declared.device.Folder.{Ghosts}
use Rattle.warg_folder.specs.Files.{File}
use Rattle.warg_store.specs.Growing.{LogIn, Has, IsFresh, with_entry, with_page}
use Rattle.warg_store.proofs.ForCallers.{has_with}
use Rattle.warg_store.specs.Log.{LogOf, HasPage, Extends, no_entries_with}
use Rattle.warg_registry.specs.Insertions.{entry_of, entries_of}
use Rattle.warg_registry.specs.Registry.{line_of}
use Rattle.warg_registry.specs.Folder.{pages_of, registry_of, with_entries, with_pages, file_of, files_of, AreFresh, IsNextLog}
use Rattle.warg_registry.proofs.Listed.{of_mapped, there_cases, later_there, first_is}
use Rattle.warg_registry.proofs.RegistryPages.{later_path, old_or_changed, changed_there}

-- one entry more
pub entries_more : (log : LogOf) (es : List (List ℕ)) (e : List ℕ)
    → with_entries log (es ++ e ∷ []) ≡ with_entries (with_entries log es) (e ∷ [])
entries_more log es e = ap (λ (all : List (List ℕ)). record log { entries = all })
    (sym (append_assoc log.entries es (e ∷ [])))

pub no_entries_more : (log : LogOf) → log ≡ with_entries log []
no_entries_more log = ap (λ (all : List (List ℕ)). record log { entries = all }) (sym (append-nil log.entries))

-- one page more
pub pages_more : (log : LogOf) (fs : List File) (f : File)
    → with_pages log (fs ++ f ∷ []) ≡ with_page (with_pages log fs) f
pages_more log [] f = refl
pages_more log (g ∷ fs) f = pages_more (with_page log g) fs f

-- a log with further pages has the same entries, and these pages beside its own
pub pages_entries : (log : LogOf) (fs : List File) → (with_pages log fs).entries ≡ log.entries
pages_entries log [] = refl
pages_entries log (f ∷ fs) = pages_entries (with_page log f) fs

pub pages_origin : (log : LogOf) (fs : List File) → (with_pages log fs).origin ≡ log.origin
pages_origin log [] = refl
pages_origin log (f ∷ fs) = pages_origin (with_page log f) fs

pub of_pages : (log : LogOf) (fs : List File) (g : File) → Contains (with_pages log fs).pages g
    → Contains log.pages g ⊎ Contains fs g
of_pages log [] g h = inl h
of_pages log (f ∷ fs) g h = elim (of_pages (with_page log f) fs g h) [
  | inl was ↦ elim (there_cases log.pages g f was) [
    | inl e ↦ inr (first_is fs e)
    | inr old ↦ inl old
  ]
  | inr more ↦ inr (later_there fs g f more)
]

pub page_stays : (log : LogOf) (fs : List File) (g : File) → Contains log.pages g → Contains (with_pages log fs).pages g
page_stays log [] g h = h
page_stays log (f ∷ fs) g h = page_stays (with_page log f) fs g (later_there log.pages g f h)

pub page_put : (log : LogOf) (fs : List File) (g : File) → Contains fs g → Contains (with_pages log fs).pages g
page_put log [] g h = absurd (let lt = h.1 in omega arith)
page_put log (f ∷ fs) g h = elim (there_cases fs g f h) [
  | inl e ↦ page_stays (with_page log f) fs g (first_is log.pages e)
  | inr more ↦ page_put (with_page log f) fs g more
]

-- a page of no slots, for where an index is beyond a list
nowhere : ChangedPageAt
nowhere = record { prefix = []; version = 0; page = [] }

-- what is handed out for insertions is put at fresh paths
module _ (served kept more : List (List ℕ × List ℕ)) (changed : List ChangedPageAt)
    (are : AreChangedPages sha256 kept more changed) (older : length served ≤ length kept)
    (fits : length kept + length more < 2 ^ 64) where
  -- what is handed out at an index
  abbrev page : ℕ → ChangedPageAt
  page i = get_or changed i nowhere

  each_is : (i : ℕ) → i < length changed
      → ChangesAt sha256 kept more (page i).prefix × (page i ≡ page_at sha256 (kept ++ more) (page i).prefix)
  each_is i lt = are.each i nowhere lt

  version_is : (i : ℕ) → i < length changed
      → (page i).version ≡ version sha256 (kept ++ more) (bits_of_bytes (page i).prefix)
  version_is i lt = ap (λ (c : ChangedPageAt). c.version) (each_is i lt).1

  version_fits : (i : ℕ) → i < length changed → (page i).version < 2 ^ 64
  version_fits i lt = omega (
    arith,
    version_is i lt,
    version_within sha256 (kept ++ more) (bits_of_bytes (page i).prefix),
    length-append kept more,
    fits,
  )

  is_later : (i : ℕ) → i < length changed → length kept < (page i).version
  is_later i lt = omega (arith, version_is i lt, (each_is i lt).0.later)

  not_listed : (insertions : List (List ℕ × List ℕ)) → length insertions ≤ length kept → (i : ℕ) → i < length changed
      → HasPage (pages_of insertions) (file_of (page i)).0 → ⊥
  not_listed insertions few i lt = later_path insertions (page i).prefix (page i).version (each_is i lt).0.are_bytes
      (version_fits i lt) (omega (arith, is_later i lt, few))

  -- of those put before it none has its path
  not_before : (i : ℕ) → i < length changed → HasPage (take i (files_of changed)) (file_of (page i)).0 → ⊥
  not_before i lt has =
      let put = rw (take-map file_of i changed) at has.1 in
      let found = of_mapped file_of (take i changed) ((file_of (page i)).0, has.0) put in
      let size = length-take-le i changed (omega (arith, lt)) in
      let j = found.1.0 in
      let before : j < i = omega (arith, found.1.1, size) in
      let here : get_or changed j found.0 ≡ found.0 = sym (get_or-take i changed j found.0 before) ∙ found.1.2 in
      let there : page j ≡ found.0 = get_or_default changed j nowhere found.0 (omega (arith, before, lt)) ∙ here in
      let path : (file_of (page j)).0 ≡ (file_of (page i)).0 =
      rw there (ap (λ (f : File). f.0) found.2) in
      let below : j < length changed = omega (arith, before, lt) in
      are.once j i nowhere before lt (one_path_below (page j).prefix (page i).prefix (page j).version (page i).version
      (each_is j below).0.are_bytes (each_is i lt).0.are_bytes (version_fits j below) (version_fits i lt) path).0

  pub files_fresh : (origin : List ℕ) (next : LogOf) → length kept < length next.entries → next.pages ≡ pages_of kept
      → AreFresh (registry_of origin served) (registry_of origin kept) next (files_of changed)
  files_fresh origin next grown pages i d lt =
      let low : i < length changed = omega (arith, lt, length-map changed file_of) in
      let is : get_or (files_of changed) i d ≡ file_of (page i) = get_or-map file_of changed i nowhere d low in
      rw is
      (record {
        more = omega (
          arith,
          grown,
          length-map kept entry_of,
          ap length (pages_entries next (take i (files_of changed))),
        );
        not_served = not_listed served older i low;
        not_kept = not_listed kept (omega arith) i low;
        not_next = λ has. ⊎_elim
            (λ was. not_listed kept (omega arith) i low
            (has.0, subst (λ (ps : List File). Contains ps ((file_of (page i)).0, has.0)) pages was))
            (λ put. not_before i low (has.0, put))
            (of_pages next (take i (files_of changed)) ((file_of (page i)).0, has.0) has.1);
      })

-- the log of the longer list is the next one
pub next_log : (origin : List ℕ) (kept more : List (List ℕ × List ℕ)) (changed : List ChangedPageAt) (root : List ℕ)
    → 0 < length more → AreChangedPages sha256 kept more changed
    → root ≡ sparse_root sha256 256 (map_of sha256 (kept ++ more))
    → IsNextLog (registry_of origin kept) (registry_of origin (kept ++ more)) (entries_of more) (files_of changed) root
next_log origin kept more changed root some are is = record {
  some = omega (arith, some, length-map more entry_of);
  origin = refl;
  entries_are = map-append entry_of kept more;
  lines = ap (λ r. line_of r ∷ []) (sym is);
  new = λ f h. changed_there kept more changed f are h;
  each = λ f h. old_or_changed kept more changed f are h;
}

-- what is served is no longer than what is kept
pub served_older : (origin : List ℕ) (served kept : List (List ℕ × List ℕ))
    → Extends (registry_of origin served) (registry_of origin kept) → length served ≤ length kept
served_older origin served kept extends = omega (
  arith,
  ap length extends.entries.1,
  length-append (entries_of served) extends.entries.0,
  length-map served entry_of,
  length-map kept entry_of,
)

-- one element more, as an entry
pub pushed_more : {X : Type 0} (f : X → List ℕ) (log : LogOf) (xs : List X) (i : ℕ) (x : X) (entry : List ℕ)
    → i < length xs → x ≡ get_or xs i x → entry ≡ f x
    → with_entries log (map f (take (i + 1) xs)) ≡ with_entry (with_entries log (map f (take i xs))) entry
pushed_more f log xs i x entry lt at is =
    rw (take_more xs i x lt) (ap (λ l. with_entries log l) (map-append f (take i xs) (get_or xs i x ∷ []))
    ∙ entries_more log (map f (take i xs)) (f (get_or xs i x))
    ∙ ap (λ e. with_entry (with_entries log (map f (take i xs))) e) (sym (is ∙ ap f at)))

-- one page more of those that are put
pub put_more : (log : LogOf) (changed : List ChangedPageAt) (i : ℕ) (c : ChangedPageAt) → i < length changed
    → c ≡ get_or changed i c
    → with_pages log (files_of (take (i + 1) changed))
    ≡ with_page (with_pages log (files_of (take i changed))) (file_of c)
put_more log changed i c lt at =
    rw (take_more changed i c lt)
    (ap (λ l. with_pages log l) (map-append file_of (take i changed) (get_or changed i c ∷ []))
    ∙ pages_more log (files_of (take i changed)) (file_of (get_or changed i c))
    ∙ ap (λ d. with_page (with_pages log (files_of (take i changed))) (file_of d)) (sym at))

-- which is put at a fresh path
pub put_fresh : (served old next : LogOf) (changed : List ChangedPageAt) (i : ℕ) (c : ChangedPageAt)
    → i < length changed → c ≡ get_or changed i c → AreFresh served old next (files_of changed)
    → IsFresh served old (with_pages next (files_of (take i changed))) (file_of c).0
put_fresh served old next changed i c lt at fresh =
    let size = length-map changed file_of in
    let found = fresh i (file_of c) (omega (arith, lt, size)) in
    let here : get_or (files_of changed) i (file_of c) ≡ file_of c =
    get_or-map file_of changed i c (file_of c) lt ∙ ap file_of (sym at) in
    let before : take i (files_of changed) ≡ files_of (take i changed) = take-map file_of i changed in
    rw here at
    (subst (λ (fs : List File). IsFresh served old (with_pages next fs)
    (get_or (files_of changed) i (file_of c)).0) before found)

-- the root of the map of no insertions
pub no_insertions_root : (root : List ℕ) → root ≡ empty_root sha256 256
    → root ≡ sparse_root sha256 256 (map_of sha256 [])
unfolding inserted
no_insertions_root root is = is ∙ sym (empty_map_root sha256)

-- the empty registry is the log of no entries with the line of the empty map's root
pub empty_registry : (origin : List ℕ) (root : List ℕ) (lines : List (List ℕ)) → root ≡ empty_root sha256 256
    → lines ≡ line_of root ∷ []
    → no_entries_with origin lines ≡ registry_of origin []
empty_registry origin root lines is says = ap (λ (l : List (List ℕ)). no_entries_with origin l)
    (says ∙ ap (λ r. line_of r ∷ []) (no_insertions_root root is))

-- the log with these entries and pages more is the next one
pub next_has : {F : Type 0} (dev : Ghosts F) {served old next : LogOf} {l : LogIn F} {es : List (List ℕ)}
    {fs : List File}
    {root : List ℕ} → IsNextLog old next es fs root
    → Has dev.seen dev.may_leave served old (with_pages (with_entries old es) fs) l
    → Has dev.seen dev.may_leave served old next l
next_has dev {served = served} {old = old} {next = next} {l = l} {es = es} {fs = fs} is has =
    let more = with_entries old es in
    let put = with_pages more fs in
    let grown : length old.entries < length put.entries =
    omega (arith, ap length (pages_entries more fs), length-append old.entries es, is.some) in
    let within : (f : File) → Contains next.pages f → Contains put.pages f =
    λ f h. ⊎_elim (λ was. page_stays more fs f was) (λ new. page_put more fs f new) (is.each f h) in
    let rest : (f : File) → Contains put.pages f → Contains old.pages f ⊎ Contains next.pages f =
    λ f h. ⊎_elim (λ was. inl was) (λ new. inr (is.new f new)) (of_pages more fs f h) in
    let origin : put.origin ≡ next.origin = pages_origin more fs ∙ sym is.origin in
    let entries : put.entries ≡ next.entries = pages_entries more fs ∙ sym is.entries_are in
    let same : record put { lines = next.lines; pages = next.pages } ≡ next = λ i. record {
      origin = origin i;
      entries = entries i;
      lines = next.lines;
      pages = next.pages;
    } in
    rw same at
    (has_with dev.seen dev.may_leave served old put l next.lines next.pages grown within rest has)
