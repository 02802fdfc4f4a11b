-- What a crash may leave, from moment to moment.
use Rattle.std.specs.Prelude.{◌≡◌, ◌⊎◌, ◌≤◌, ◌<◌, ℕ, Result, IsErrOf}
use Rattle.warg_folder.specs.declared.device.FolderError.{FolderError}
use Rattle.warg_folder.specs.declared.device.FolderError.TheVariants.{Failed}
use Rattle.warg_folder.specs.Files.{Files}

-- A crash leaves this and nothing else.
abbrev pub Only : Files → (Files → Type 0) → Type 0
Only files outcomes = (c : Files) → outcomes c → c ≡ files

-- Each new outcome of a crash is an old outcome.
abbrev pub Within : (Files → Type 0) → (Files → Type 0) → Type 0
Within old new = (c : Files) → new c → old c

-- Each new outcome of a crash is an old outcome after a step.
abbrev pub Follows : (Files → Files → Type 0) → (Files → Type 0) → (Files → Type 0) → Type 0
Follows step old new = (c : Files) → new c → (d : Files) × old d × step d c

-- Time goes on: a crash since t might have left what it might have left before, or what it may leave now.
pub record Elapses {D : Type 0} (moment : D → ℕ) (left_since : D → ℕ → Files → Type 0) (may_leave : D → Files → Type 0) (old new : D) : Type 0 where
  pub later : moment old ≤ moment new
  pub nothing_else : (t : ℕ) (c : Files) → t ≤ moment old → left_since new t c → left_since old t c ⊎ may_leave new c
  pub keeps : (t : ℕ) (c : Files) → t ≤ moment old → left_since old t c → left_since new t c

-- A folder was only read: a reader finds the same, and a crash leaves no more than before.
pub record IsRead {D : Type 0} (seen : D → Files) (may_leave : D → Files → Type 0) (moment : D → ℕ)
    (left_since : D → ℕ → Files → Type 0) (old new : D) : Type 0 where
  pub found : seen new ≡ seen old
  pub crash : Within (may_leave old) (may_leave new)
  pub time : Elapses moment left_since may_leave old new

-- A crash at any moment since old leaves files that have P.
pub record LeavesOnly {D : Type 0} (moment : D → ℕ) (left_since : D → ℕ → Files → Type 0) (old new : D) (P : Files → Type 0) : Type 0 where
  pub later : moment old ≤ moment new
  pub each : (c : Files) → left_since new (moment old) c → P c
  -- for a run that began earlier
  pub before : (t : ℕ) (c : Files) → t ≤ moment old → left_since new t c → left_since old t c ⊎ P c

-- What a faithful device's failure is told by comes only where it has failed since.
pub record HasCauseOf {T E : Type 0} (told : E) (IsFaithful : Type 0) (before now : ℕ) (r : Result T E) : Type 0 where
  pub later : before ≤ now
  pub failed : IsFaithful → IsErrOf r told → before < now

-- The same of a folder's own calls, which tell it by `Failed`.
abbrev pub HasCause : {T : Type 0} → Type 0 → ℕ → ℕ → Result T FolderError → Type 0
HasCause IsFaithful before now result = HasCauseOf Failed IsFaithful before now result

-- The same where the folder is lost with the refusal: in some state of it the device had failed.
abbrev pub HasLostCause : {F T E : Type 0} → (F → ℕ) → E → Type 0 → F → Result T E → Type 0
HasLostCause {F = F} faults told IsFaithful old result =
    IsFaithful → IsErrOf result told → (last : F) × (faults old < faults last)
