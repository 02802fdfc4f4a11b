-- A registry while it is pruned: its pages are read, its log is pruned, and pages are removed.
use Rattle.std.proofs.Common.{◌≡◌, ◌⊎◌, ℕ, Bool, true, List, length, sym, subst}
use Rattle.std.specs.Prelude.{IsSome}
use Rattle.std.specs.List.{Contains}
use Rattle.std.specs.declared.alloc.Global.{Global}
use Rattle.std.specs.declared.string.String.{String}
use Rattle.warg_folder.specs.Files.{Files}
use Rattle.warg_folder.specs.Moments.{LeavesOnly}
use Rattle.warg_folder.specs.Names.{is_page}
use Rattle.warg_folder.specs.declared.device.Folder.{Ghosts}
use Rattle.warg_folder.proofs.ForCallers.{leaves_then}
use Rattle.warg_store.specs.Growing.{LogIn, Has}
use Rattle.warg_store.specs.Log.{LogOf, IsOneOf}
use Rattle.warg_store.specs.Pruned.{IsNoneOf, ArePagesNotOf, IsPruned, IsWithoutPages}
use Rattle.warg_registry.specs.Folder.{registry_of, pages_of, RegistryIn, HasRegistry, IsLogRead, ReadsOn}
use Rattle.warg_registry.specs.Pruning.{bytes_of, IsPageOf, OfBoth}
use Rattle.warg_registry.proofs.FolderMoments.{one_read}
use Rattle.warg_registry.proofs.LeftPages.{ArePagesGone, left}
use Rattle.warg_registry.proofs.Publishing.{own_pages, read_has}
use Rattle.warg_registry.proofs.Sources.{with_map, log_is_read}

module _ {F : Type 0} (dev : Ghosts F) where
  abbrev Logs : LogIn F → LogIn F → Type 0
  Logs old new = IsLogRead dev.seen dev.may_leave dev.moment dev.left_since old new

  -- what is said by the pages that a log's own map, with this root, and its served one need
  abbrev OfPages : LogIn F → List ℕ → ℕ → (LogIn F → List (List ℕ × List ℕ) → List (List ℕ × List ℕ) → Type 0) → Type 0
  OfPages old root count Said = OfBoth dev.seen dev.may_leave dev.moment dev.left_since old root count Said

  -- a page that is there is one of these names', or is needed
  abbrev AreAll : List (List ℕ) → LogIn F → List (List ℕ × List ℕ) → List (List ℕ × List ℕ) → Type 0
  AreAll names known these those = (n : List ℕ) → is_page n ≡ true → IsSome (dev.seen known.folder n)
      → Contains names n ⊎ IsPageOf these n ⊎ IsPageOf those n

module _ {F : Type 0} (dev : Ghosts F) (origin : List ℕ) (served kept : List (List ℕ × List ℕ)) where
  abbrev Served : LogOf
  Served = registry_of origin served

  abbrev Kept : LogOf
  Kept = registry_of origin kept

  abbrev Stands : RegistryIn F → Type 0
  Stands r = HasRegistry dev.seen dev.may_leave origin served kept r

  -- a run from one log to another serves the registry at each moment
  abbrev RunsFrom : LogIn F → LogIn F → Type 0
  RunsFrom old new = LeavesOnly dev.moment dev.left_since old.folder new.folder (IsOneOf Served Kept Kept)

  then : (one two three : LogIn F) → RunsFrom one two → RunsFrom two three → RunsFrom one three
  then one two three run more = leaves_then dev.moment dev.left_since one.folder two.folder three.folder
      (IsOneOf Served Kept Kept) (IsOneOf Served Kept Kept) (IsOneOf Served Kept Kept) run more
      (λ c was. was) (λ c was. was)

  -- The log is as it was once its pages were looked at; the registry is served at each moment, also while the log is
  -- pruned and pages are removed that no state needs; and each page that is left then is needed.
  pub record IsPruning (r : RegistryIn F) (old mid : LogIn F) (takes : Bool) (root : List ℕ) (count : ℕ) : Type 0 where
    pub at : Has dev.seen dev.may_leave Served Kept Kept mid
    pub has : (l : LogIn F) → Has dev.seen dev.may_leave Served Kept Kept l → Stands (with_map l takes root count)
    pub reading : RunsFrom r.log mid
    pub pruning : (pruned : LogIn F) → RunsFrom mid pruned → RunsFrom r.log pruned
    pub removing : (pruned new : LogIn F) → RunsFrom mid pruned → RunsFrom pruned new → RunsFrom r.log new
    pub none : {slice names : List (String Global)} → slice ≡ names
        → OfPages dev old root count
        (λ known these those. IsNoneOf (bytes_of names) (pages_of these) × IsNoneOf (bytes_of names) (pages_of those))
        → ArePagesNotOf (bytes_of slice) Served Kept Kept
    pub remaining : (pruned new : LogIn F) {slice names : List (String Global)} → slice ≡ names
        → IsPruned (length Kept.entries) (length Served.entries) (dev.seen mid.folder) (dev.seen pruned.folder)
        → IsWithoutPages (bytes_of slice) (dev.seen pruned.folder) (dev.seen new.folder)
        → ArePagesGone (dev.seen new.folder) slice → OfPages dev old root count (AreAll dev (bytes_of names))
        → (n : List ℕ) → is_page n ≡ true → IsSome (dev.seen new.folder n) → IsPageOf served n ⊎ IsPageOf kept n

  module _ {r : RegistryIn F} {old : LogIn F} {takes : Bool} {root : List ℕ} {count : ℕ}
      (view : with_map old takes root count ≡ r) (has : Stands r) where
    inside : Stands (with_map old takes root count)
    inside = subst (λ (x : RegistryIn F). Stands x) (sym view) has

    -- what is said of each log that serves and keeps a registry with this root is said of it
    pub of_registry : (Said : LogIn F → List (List ℕ × List ℕ) → List (List ℕ × List ℕ) → Type 0)
        → OfPages dev old root count Said → Said old served kept
    of_registry Said said =
        said old origin served kept (log_is_read dev old) inside.log.keeps.serves (own_pages dev inside)

    pub looked_at : {mid : LogIn F}
        → ((c : Files) → dev.left_since r.log.folder (dev.moment r.log.folder) c → dev.may_leave r.log.folder c)
        → ReadsOn dev.seen dev.may_leave dev.moment dev.left_since old mid → IsPruning r old mid takes root count
    looked_at {mid = mid} now read = record {
      at = read_has dev inside here;
      has = λ l still. record { takes = inside.takes; log = still; root = inside.root; count = inside.count };
      reading = while_read;
      pruning = λ pruned run. then r.log mid pruned while_read run;
      removing = λ pruned new one two. then r.log pruned new (then r.log mid pruned while_read one) two;
      none = λ same spare.
          let none = of_registry _ spare in
          subst (λ ns. ArePagesNotOf (bytes_of ns) Served Kept Kept) (sym same)
          (record { not_served = none.0; not_kept = none.1; not_next = none.1 });
      remaining = λ pruned new {slice} same prunes without removed spare. left (dev.seen old.folder)
          (dev.seen mid.folder) (dev.seen pruned.folder) (dev.seen new.folder) slice (length Kept.entries)
          (length Served.entries) (λ n. IsPageOf served n ⊎ IsPageOf kept n) here.read.found prunes without removed
          (subst (λ ns. AreAll dev (bytes_of ns) old served kept) (sym same) (of_registry _ spare));
    }
      where
        here : Logs dev old mid
        here = read old (log_is_read dev old)

        while_read : RunsFrom r.log mid
        while_read = one_read dev now has.log.keeps has.log.staging
            (subst (λ (x : RegistryIn F). Logs dev x.log mid) view here).read
