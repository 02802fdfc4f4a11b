-- Runs of calls during which a crash leaves only files that have P.
use Rattle.std.proofs.Common.{ℕ}
use Rattle.warg_folder.specs.Files.{Files}
use Rattle.warg_folder.specs.Moments.{Within, Elapses, LeavesOnly}
use Rattle.warg_folder.proofs.ForCallers.{begins, leaves_then}

module _ {D : Type 0} {moment : D → ℕ} {left_since : D → ℕ → Files → Type 0} {P : Files → Type 0} where
  -- a run that begins with a call that only reads
  pub begins_reading : {may_leave : D → Files → Type 0} {old new : D}
      → ((c : Files) → left_since old (moment old) c → may_leave old c)
      → Elapses moment left_since may_leave old new → Within (may_leave old) (may_leave new)
      → ((c : Files) → may_leave old c → P c) → LeavesOnly moment left_since old new P
  begins_reading only time crash first = begins _ _ _ _ _ _ only time first (λ c left. first c (crash c left))

  -- a run behind another
  pub runs_on : {old mid new : D} → LeavesOnly moment left_since old mid P → LeavesOnly moment left_since mid new P
      → LeavesOnly moment left_since old new P
  runs_on one two = leaves_then _ _ _ _ _ _ _ _ one two (λ c is. is) (λ c is. is)
