-- The pages that pruning keeps.
use Rattle.std.proofs.Common.{◌≡◌, ⊎_elim, ◌⊎◌, ℕ, ◌<◌, ◌^◌, Bool, true, false, ◌||◌, List, [], ◌∷◌, ◌++◌, refl, sym, ap, subst, ◌∙◌, inl, inr}
use Rattle.std.proofs.lemmas.Bool.{or_parts}
use Rattle.std.proofs.lemmas.List.Elements.{Contains-append_cases}
use Rattle.std.proofs.lemmas.Map.Text.{is_eq-slice_cmp}
use Rattle.std.proofs.lemmas.Slice.Eq.{bytes_eq-Decides}
use Rattle.std.specs.BTreeMap.{is_at}
use Rattle.std.specs.BTreeSet.{insert_key}
use Rattle.std.specs.Cmp.Lexicographic.{slice_cmp}
use Rattle.std.specs.List.{Contains, list_any}
use Rattle.std.specs.Ordering.{nat_cmp, is_eq, match_ordering}
use Rattle.std.specs.String.{string_bytes, string_cmp}
use Rattle.std.specs.declared.string.String.{String}
use Rattle.std.specs.declared.alloc.Global.{Global}
use Rattle.std.specs.declared.cmp.Ordering.{Ordering}
use Rattle.std.specs.declared.cmp.Ordering.TheVariants.{Less, Equal, Greater}
use Rattle.warg_crypto.specs.Digests.{sha256, IsDigest}
use Rattle.warg_crypto.specs.DigestFacts.{IsDigest-sha256}
use Rattle.warg_pages.specs.ChangedPages.{ChangedPageAt, page_at}
use Rattle.warg_pages.specs.PagePaths.{page_path}
use Rattle.warg_pages.specs.ProvedKeys.{IsOwnSource}
use Rattle.warg_pages.specs.Slots.{SlotAt}
use Rattle.warg_pages.specs.Visits.{AreAllPagesWhere, IsAllowed}
use Rattle.warg_pages.proofs.ForCallers.{own_visit, visit_own}
use Rattle.warg_tiles.specs.CheckpointText.{Said}
use Rattle.warg_folder.specs.Files.{File, Files}
use Rattle.warg_store.specs.Log.{Serves}
use Rattle.warg_store.specs.Log as log
use Rattle.warg_folder.specs.Names.{page_name}
use Rattle.warg_store.specs.Pruned.{IsNoneOf}
use Rattle.warg_registry.specs.Folder.{pages_of, page_read, registry_of}
use Rattle.warg_registry.specs.Registry.{line_of}
use Rattle.warg_registry.specs.Pruning.{bytes_of, ArePathsOf, AreOnlyPathsOf, HaveAllPages, IsPageOf, AreNone, AreAmong}
use Rattle.warg_registry.proofs.MapLines.{root_of_map}
use Rattle.warg_registry.proofs.Listed.{none_there, of_one, first_is, later_there, there_cases}
use Rattle.warg_registry.proofs.SomeNames.{named_left, named_right, named_cases}
use Rattle.warg_registry.proofs.RegistryPages.{page_of_list, read_source}

-- a set has what it had, and what was put in
pub name_there : (cmp : String Global → String Global → Ordering)
    → ((x y : String Global) → cmp x y ≡ Equal → string_bytes x ≡ string_bytes y) → (ks : List (String Global))
    (k : String Global) (n : List ℕ) → Contains (bytes_of ks) n ⊎ (string_bytes k ≡ n)
    → Contains (bytes_of (insert_key cmp ks k)) n
name_there cmp same [] k n h = ⊎_elim (λ old. absurd (none_there n old)) (λ new. first_is [] new) h
name_there cmp same (x ∷ xs) k n h = by_order (cmp k x) refl (name_there cmp same xs k n)
  where
    by_order : (o : Ordering) → cmp k x ≡ o
        → (Contains (bytes_of xs) n ⊎ (string_bytes k ≡ n) → Contains (bytes_of (insert_key cmp xs k)) n)
        → Contains (bytes_of (match_ordering o (k ∷ x ∷ xs) (x ∷ xs) (x ∷ insert_key cmp xs k))) n
    by_order Less e rest = ⊎_elim (λ old. later_there (bytes_of (x ∷ xs)) n (string_bytes k) old)
        (λ new. first_is (bytes_of (x ∷ xs)) new) h
    by_order Equal e rest = ⊎_elim (λ old. old) (λ new. first_is (bytes_of xs) (sym (same k x e) ∙ new)) h
    by_order Greater e rest = ⊎_elim (λ old. ⊎_elim (λ first. first_is (bytes_of (insert_key cmp xs k)) first)
        (λ more. later_there (bytes_of (insert_key cmp xs k)) n (string_bytes x) (rest (inl more)))
        (there_cases (bytes_of xs) n (string_bytes x) old))
        (λ new. later_there (bytes_of (insert_key cmp xs k)) n (string_bytes x) (rest (inr new))) h

-- and nothing else
pub name_from : (cmp : String Global → String Global → Ordering) (ks : List (String Global)) (k : String Global)
    (n : List ℕ)
    → Contains (bytes_of (insert_key cmp ks k)) n → Contains (bytes_of ks) n ⊎ (string_bytes k ≡ n)
name_from cmp [] k n h = inr (of_one (string_bytes k) n h)
name_from cmp (x ∷ xs) k n h = by_order (cmp k x) h (name_from cmp xs k n)
  where
    by_order : (o : Ordering)
        → Contains (bytes_of (match_ordering o (k ∷ x ∷ xs) (x ∷ xs) (x ∷ insert_key cmp xs k))) n
        → (Contains (bytes_of (insert_key cmp xs k)) n → Contains (bytes_of xs) n ⊎ (string_bytes k ≡ n))
        → Contains (bytes_of (x ∷ xs)) n ⊎ (string_bytes k ≡ n)
    by_order Less is rest = ⊎_elim (λ new. inr new) (λ old. inl old)
        (there_cases (bytes_of (x ∷ xs)) n (string_bytes k) is)
    by_order Equal is rest = inl is
    by_order Greater is rest = ⊎_elim (λ first. inl (first_is (bytes_of xs) first))
        (λ more. ⊎_elim (λ old. inl (later_there (bytes_of xs) n (string_bytes x) old)) (λ new. inr new) (rest more))
        (there_cases (bytes_of (insert_key cmp xs k)) n (string_bytes x) is)

-- texts that compare as equal have the same bytes
pub same_names : (x y : String Global) → string_cmp x y ≡ Equal → string_bytes x ≡ string_bytes y
same_names x y e = (bytes_eq-Decides (string_bytes x) (string_bytes y)).0
    (sym (is_eq-slice_cmp (string_bytes x) (string_bytes y)) ∙ ap is_eq e)

-- the test for a name
abbrev has_name : List ℕ → List (String Global) → Bool
has_name q ks = list_any (is_at (λ k. slice_cmp nat_cmp q (string_bytes k))) ks

-- what a set doesn't have
pub not_there : (q : List ℕ) (ks : List (String Global)) → has_name q ks ≡ false → Contains (bytes_of ks) q → ⊥
not_there q [] e h = none_there q h
not_there q (x ∷ xs) e h =
    let parts = or_parts (is_eq (slice_cmp nat_cmp q (string_bytes x))) (has_name q xs) e in
    ⊎_elim (λ here.
    let yes : is_eq (slice_cmp nat_cmp q (string_bytes x)) ≡ true = is_eq-slice_cmp q (string_bytes x)
    ∙ (bytes_eq-Decides q (string_bytes x)).1 (sym here) in
    let no : true ≡ false = sym yes ∙ parts.0 in cc)
    (λ more. not_there q xs parts.1 more) (there_cases (bytes_of xs) q (string_bytes x) h)

-- and what it has
pub is_there : (q : List ℕ) (ks : List (String Global)) → has_name q ks ≡ true → Contains (bytes_of ks) q
is_there q [] e = absurd (cc)
is_there q (x ∷ xs) e = by_test (is_eq (slice_cmp nat_cmp q (string_bytes x))) refl e (is_there q xs)
  where
    by_test : (b : Bool) → is_eq (slice_cmp nat_cmp q (string_bytes x)) ≡ b
        → (b || has_name q xs) ≡ true → (has_name q xs ≡ true → Contains (bytes_of xs) q)
        → Contains (bytes_of (x ∷ xs)) q
    by_test true t some rest =
        let same = (bytes_eq-Decides q (string_bytes x)).0 (sym (is_eq-slice_cmp q (string_bytes x)) ∙ t) in
        first_is (bytes_of xs) (sym same)
    by_test false t some rest = later_there (bytes_of xs) q (string_bytes x) (rest some)

-- names that are left to be looked at, one of which is one of the keys
pub among_passed : (names keys : List (List ℕ)) (others items rest : List (String Global)) (s : String Global)
    → items ≡ s ∷ rest → Contains keys (string_bytes s) → AreAmong names (bytes_of (others ++ items)) keys
    → AreAmong names (bytes_of (others ++ rest)) keys
among_passed names keys others items rest s e key all = λ n is.
    ⊎_elim (λ there. ⊎_elim (λ old. inl (named_left others rest n old))
    (λ later. ⊎_elim (λ same. inr (rw same at key)) (λ more. inl (named_right others rest n more))
    (there_cases (bytes_of rest) n (string_bytes s) later))
    (named_cases others (s ∷ rest) n (rw e at there)))
    (λ k. inr k) (all n is)

-- a name more that isn't among others
pub pushed_none : (names : List (List ℕ)) (others after : List (String Global)) (s : String Global)
    → after ≡ others ++ s ∷ [] → AreNone (bytes_of others) names → (Contains names (string_bytes s) → ⊥)
    → AreNone (bytes_of after) names
pushed_none names others after s e none new = λ n is there.
    ⊎_elim (λ old. none n old there) (λ last. new (rw (of_one (string_bytes s) n last) there))
    (named_cases others (s ∷ []) n (rw e at is))

module _ (IsLone : List ℕ → SlotAt → List ℕ × List ℕ → Type 0) (seen : Files) (tells_all : Type 0) (root : List ℕ)
    (count : ℕ) (es : List (List ℕ × List ℕ)) (pages : List ChangedPageAt) (fits : count < 2 ^ 64)
    (own : IsOwnSource sha256 (page_read seen) root count es)
    (all : AreAllPagesWhere sha256 IsLone (IsAllowed (page_read seen) tells_all) root count pages) where
  -- the pages of insertions are among those that were visited
  pub all_named : (names : List (List ℕ)) → ArePathsOf names pages → HaveAllPages names es
  all_named names named = λ f there.
      let found = page_of_list es f there in
      let at = own_visit sha256 IsLone (page_read seen) tells_all root count es pages found.0 IsDigest-sha256 fits own
      all found.1.are_bytes found.1.short found.1.is_there in
      subst (λ (g : File). Contains names (page_name g.0)) found.2 (named (page_at sha256 es found.0) at)

  -- and what was visited is one of them
  pub own_named : (p : ChangedPageAt) → Contains pages p → IsPageOf es (page_path p.prefix p.version)
  own_named p there =
      let at = visit_own sha256 IsLone (page_read seen) tells_all root count es pages IsDigest-sha256 fits own all p
      there in
      (p.prefix, at.0, ap (page_path p.prefix) (sym at.1))

-- names of visited pages, one list after the other, are those of needed ones
pub of_visits : (names : List (List ℕ)) (first second : List ChangedPageAt) (served kept : List (List ℕ × List ℕ))
    → AreOnlyPathsOf names (first ++ second)
    → ((p : ChangedPageAt) → Contains first p → IsPageOf kept (page_path p.prefix p.version))
    → ((p : ChangedPageAt) → Contains second p → IsPageOf served (page_path p.prefix p.version))
    → (n : List ℕ) → Contains names n → IsPageOf served n ⊎ IsPageOf kept n
of_visits names first second served kept only of_first of_second n is =
    let from = only n is in
    ⊎_elim (λ one. inr (rw from.2 at (of_first from.0 one)))
    (λ two. inl (rw from.2 at (of_second from.0 two)))
    (Contains-append_cases first second from.0 from.1)

pub no_paths : (names : List (List ℕ)) → ArePathsOf names []
no_paths names = λ p there. absurd (none_there p there)

pub none_named : (ks : List (String Global)) → ks ≡ [] → AreOnlyPathsOf (bytes_of ks) []
none_named ks e = λ n is. absurd (none_there n (rw e at is))

pub none_of : (names others : List (List ℕ)) (es : List (List ℕ × List ℕ)) → AreNone others names
    → HaveAllPages names es → IsNoneOf others (pages_of es)
none_of names others es none all = λ n is f there same. none n is (rw same at (all f there))

-- the pages that are served are those of the insertions that are
pub served_source : (origin : List ℕ) (served : List (List ℕ × List ℕ)) (files : Files) (root : List ℕ) (count : ℕ)
    (said : Said) → Serves (registry_of origin served) files → said ≡ log.said_of (registry_of origin served)
    → IsDigest root × (said.extensions ≡ line_of root ∷ []) → count ≡ said.length
    → IsOwnSource sha256 (page_read files) root count served
served_source origin served files root count said serves is found counts =
    read_source origin served files serves.holds root count said is counts (root_of_map origin root served is found)
