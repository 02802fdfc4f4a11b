-- Folders that are used, one time after the other.
use Rattle.std.proofs.Common.{◌≡◌, ℕ, ◌≤◌, refl, ◌∙◌}
use Rattle.warg_tiles.specs.TilePaths.{entries_path}
use Rattle.warg_folder.specs.Files.{Files}
use Rattle.warg_folder.specs.Moments.{IsRead}
use Rattle.warg_folder.specs.Commits.{IsBeside}
use Rattle.warg_folder.proofs.ForCallers.{in_end, read_leaves, read_then, served_not_staged}
use Rattle.warg_store.specs.Log.{LogOf}
use Rattle.warg_store.specs.Private.Used.{IsReadyFor, IsUsed, IsEnough}
use Rattle.warg_store.specs.declared.auditing.Use.{Use}
use Rattle.warg_store.specs.declared.auditing.Use.TheVariants.{Compare, Stage}
use Rattle.warg_store.proofs.ReadyRuns.{staging_kept, stages_twice}

pub not_compared : Stage ≡ Compare → ⊥
not_compared e = cc

module _ {D : Type 0} (seen : D → Files) (may_leave : D → Files → Type 0) (moment : D → ℕ)
    (left_since : D → ℕ → Files → Type 0)
    (counts : (folder : D) (t : ℕ) (c : Files) → t ≤ moment folder → may_leave folder c → left_since folder t c)
    (only : (folder : D) (c : Files) → left_since folder (moment folder) c → may_leave folder c)
    (stays : (folder : D) → may_leave folder (seen folder)) where
  -- a folder that was only read was used
  pub used_read : (how : Use) (old new : D) → IsReadyFor how (seen old) (may_leave old)
      → IsRead seen may_leave moment left_since old new → IsUsed how seen may_leave moment left_since old new
  used_read Compare old new ready read = read
  used_read Stage old new ready read = record {
    staging = staging_kept (seen old) (seen new) (may_leave old) (may_leave new) read.found read.crash ready;
    run = read_leaves seen may_leave moment left_since old new (IsBeside (seen old)) (only old) ready read;
  }

  pub used_then : (how : Use) (old mid new : D) → IsUsed how seen may_leave moment left_since old mid
      → IsUsed how seen may_leave moment left_since mid new → IsUsed how seen may_leave moment left_since old new
  used_then Compare old mid new one two = read_then seen may_leave moment left_since old mid new (counts old) one two
  used_then Stage old mid new one two = record {
    staging = two.staging;
    run = stages_twice counts stays one.run two.run;
  }

  -- a folder that was used is ready for more
  pub used_ready : (how : Use) (old new : D) → IsUsed how seen may_leave moment left_since old new
      → IsReadyFor how (seen new) (may_leave new)
  used_ready Compare old new used = tt
  used_ready Stage old new used = used.staging

  -- and has enough for it
  pub used_enough : (how : Use) (log : LogOf) (old new : D) → IsUsed how seen may_leave moment left_since old new
      → IsEnough how log (seen old) → IsEnough how log (seen new)
  used_enough Compare log old new used enough = rw used.found enough
  used_enough Stage log old new used enough =
      let now = in_end moment left_since may_leave counts old new (IsBeside (seen old)) used.run (seen new) (stays new)
      in
      record {
        most = enough.most;
        short = enough.short;
        bundle = λ t is. now.outside (entries_path t) (served_not_staged (entries_path t) refl) ∙ enough.bundle t is;
        whole = λ e. absurd (not_compared e);
      }
