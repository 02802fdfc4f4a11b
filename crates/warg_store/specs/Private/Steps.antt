-- What a crash leaves while files are removed.
use Rattle.std.specs.Prelude.{◌≡◌, ◌⊎◌, ℕ, List, true, false, None}
use Rattle.warg_folder.specs.Moments.{LeavesOnly}
use Rattle.warg_folder.specs.Files.{Files, without}
use Rattle.warg_folder.specs.Names.{mark, is_staged, is_page}
use Rattle.warg_store.specs.Pruned.{IsSpare}

-- Spare files are gone, and staged ones may be anything but a commit's.
pub record IsPruning (kept served : ℕ) (s c : Files) : Type 0 where
  pub outside : (n : List ℕ) → is_staged n ≡ false → (c n ≡ s n) ⊎ ((c n ≡ None) × IsSpare kept served s n)
  pub no_mark : c mark ≡ None

-- Where a crash before a run leaves no more than spare files gone, one during it and one behind it leave no more.
pub record PrunesOn {D : Type 0} (moment : D → ℕ) (left_since : D → ℕ → Files → Type 0) (may_leave : D → Files → Type 0)
    (kept served : ℕ) (old new : D) : Type 0 where
  pub any_moment : (s : Files) → ((d : Files) → may_leave old d → IsPruning kept served s d)
      → LeavesOnly moment left_since old new (IsPruning kept served s)
  pub crash : (s : Files) → ((d : Files) → may_leave old d → IsPruning kept served s d)
      → (c : Files) → may_leave new c → IsPruning kept served s c

-- A file is as it was, or is a page and is gone.
abbrev pub IsPageGone : List ℕ → Files → Files → Type 0
IsPageGone name s c = (c ≡ s) ⊎ ((is_page name ≡ true) × (c ≡ without name s))
