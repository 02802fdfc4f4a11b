-- A registry before and after insertions are published.
use Rattle.std.proofs.Common.{◌≡◌, ⊎_elim, ℕ, ◌+◌, ◌<◌, ◌^◌, Bool, true, List, [], ◌∷◌, ◌++◌, length, append-nil, refl, sym, ap, subst, ◌∙◌, arith}
use Rattle.std.proofs.lemmas.List.{length-append, length-map}
use Rattle.warg_crypto.specs.Digests.{sha256}
use Rattle.warg_map.specs.Sparse.{map_of, sparse_root}
use Rattle.warg_pages.specs.ChangedPages.{ChangedPageAt, AreChangedPages}
use Rattle.warg_pages.specs.ProvedKeys.{IsOwnSource}
use Rattle.warg_folder.specs.declared.device.Folder.{Ghosts}
use Rattle.warg_store.specs.Growing.{LogIn, Has, HasNext}
use Rattle.warg_store.specs.Log.{LogOf}
use Rattle.warg_store.proofs.ForCallers.{has_read}
use Rattle.warg_registry.specs.Insertions.{entry_of, entries_of}
use Rattle.warg_registry.specs.Folder.{registry_of, page_read, RegistryIn, HasRegistry, IsLogRead, with_entries, files_of, AreFresh, IsNextLog}
use Rattle.warg_registry.proofs.RegistryPages.{read_files}
use Rattle.warg_registry.proofs.RegistryGrowth.{files_fresh, next_log, served_older}
use Rattle.warg_registry.proofs.Sources.{with_map}

module _ {F : Type 0} (dev : Ghosts F) {origin : List ℕ} {served kept : List (List ℕ × List ℕ)} {old : RegistryIn F}
    (has : HasRegistry dev.seen dev.may_leave origin served kept old) where
  abbrev Logs : LogIn F → LogIn F → Type 0
  Logs one two = IsLogRead dev.seen dev.may_leave dev.moment dev.left_since one two

  -- the log of insertions
  abbrev Log : List (List ℕ × List ℕ) → LogOf
  Log es = registry_of origin es

  -- a registry that serves and keeps these insertions
  abbrev Stands : List (List ℕ × List ℕ) → List (List ℕ × List ℕ) → RegistryIn F → Type 0
  Stands these those r = HasRegistry dev.seen dev.may_leave origin these those r

  -- what the folder has are the pages of the insertions
  pub own_pages : IsOwnSource sha256 (page_read (dev.seen old.log.folder)) old.root old.count kept
  own_pages = record {
    pages = read_files origin kept (dev.seen old.log.folder) has.log.keeps.holds;
    all = sym has.count;
    is_root = has.root;
  }

  -- reading them changes nothing
  pub read_has : {mid : LogIn F} → Logs old.log mid → Has dev.seen dev.may_leave (Log served) (Log kept) (Log kept) mid
  read_has {mid = mid} read = has_read dev.seen dev.may_leave dev.moment dev.left_since (Log served) (Log kept)
      (Log kept) old.log mid read.same read.read has.log

  -- where there is no insertion, all is as it was
  pub none_published : (more : List (List ℕ × List ℕ)) → length more ≡ 0
      → (now : List (List ℕ × List ℕ)) × Stands now (kept ++ more) old
  none_published more none = (served, rw (nothing more none) has)
    where
      nothing : (es : List (List ℕ × List ℕ)) → length es ≡ 0 → kept ++ es ≡ kept
      nothing [] e = append-nil kept
      nothing (x ∷ xs) e = absurd (omega (arith, e))

  -- Insertions more were put into the map: the log is as it was, and these entries and pages make the next one.
  pub record IsGrowing (more : List (List ℕ × List ℕ)) (mid : LogIn F) (root : List ℕ) (entries : List (List ℕ))
      (changed : List ChangedPageAt) : Type 0 where
    pub read : Logs old.log mid
    pub at : Has dev.seen dev.may_leave (Log served) (Log kept) (Log kept) mid
    pub is_root : root ≡ sparse_root sha256 256 (map_of sha256 (kept ++ more))
    pub next : IsNextLog (Log kept) (Log (kept ++ more)) entries (files_of changed) root
    pub fresh : AreFresh (Log served) (Log kept) (with_entries (Log kept) entries) (files_of changed)

  pub grown_by : {more : List (List ℕ × List ℕ)} {new : RegistryIn F} {mid : LogIn F} {takes : Bool} {root : List ℕ}
      {count : ℕ} {entries : List (List ℕ)} {all changed : List ChangedPageAt} → with_map mid takes root count ≡ new
      → Logs old.log new.log
      → AreChangedPages sha256 kept more all × (new.root ≡ sparse_root sha256 256 (map_of sha256 (kept ++ more)))
      → changed ≡ all → entries ≡ entries_of more → 0 < length more → old.count + length more < 2 ^ 64
      → IsGrowing more mid root entries changed
  grown_by {more = more} {mid = mid} {root = root} {entries = entries} {changed = changed} view reads inserted same made
      some fits = record {
        read = here;
        at = read_has here;
        is_root = is_root;
        next = subst (λ es. IsNextLog (Log kept) (Log (kept ++ more)) es (files_of changed) root) (sym made)
            (next_log origin kept more changed root some are is_root);
        fresh = files_fresh served kept more changed are (served_older origin served kept has.log.keeps.begins)
            (omega (arith, has.count, fits)) origin (with_entries (Log kept) entries) (omega (
              arith,
              length-append (entries_of kept) entries,
              length-map kept entry_of,
              ap length made,
              length-map more entry_of,
              some,
            )) refl;
      }
    where
      here : Logs old.log mid
      here = subst (λ (r : RegistryIn F). Logs old.log r.log) (sym view) reads

      are : AreChangedPages sha256 kept more changed
      are = subst (λ cs. AreChangedPages sha256 kept more cs) (sym same) inserted.0

      is_root : root ≡ sparse_root sha256 256 (map_of sha256 (kept ++ more))
      is_root = ap (λ (r : RegistryIn F). r.root) view ∙ inserted.1

  -- and once they are committed, the registry has them
  pub published : (more : List (List ℕ × List ℕ)) {l : LogIn F} {root : List ℕ} {count : ℕ}
      → root ≡ sparse_root sha256 256 (map_of sha256 (kept ++ more))
      → HasNext dev.seen dev.may_leave (Log served) (Log (kept ++ more)) l → count ≡ old.count + length more
      → (now : List (List ℕ × List ℕ)) × Stands now (kept ++ more) (with_map l true root count)
  published more {l = l} {root = root} {count = count} is_root next counts = ⊎_elim
      (λ was. by_now served (rw was at next.2)) (λ is. by_now (kept ++ more) (rw is at next.2)) next.1
    where
      Serving : LogOf → Type 0
      Serving n = Has dev.seen dev.may_leave n (Log (kept ++ more)) (Log (kept ++ more)) l

      by_now : (now : List (List ℕ × List ℕ)) → Serving (Log now) → (now : List (List ℕ × List ℕ))
          × Stands now (kept ++ more) (with_map l true root count)
      by_now now all = (
        now,
        record {
          takes = refl;
          log = all;
          root = is_root;
          count = omega (arith, counts, has.count, length-append kept more);
        },
      )
