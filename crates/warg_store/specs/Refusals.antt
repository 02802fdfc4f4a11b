-- Why a call on a log in files is refused.
use Rattle.std.specs.Prelude.{◌≢◌, ℕ, Result}
use Rattle.warg_folder.specs.declared.device.FolderError.TheVariants.{Failed}
use Rattle.warg_folder.specs.Moments.{HasCauseOf}
use Rattle.warg_store.specs.declared.error.LogError.{LogError}
use Rattle.warg_store.specs.declared.error.LogError.TheVariants.{NoLog, Damaged, RolledBack, OutOfRange, Folder}

-- None of the log's files is at fault: memory was refused, the device failed, or what was asked for is beyond the log.
abbrev pub IsNoFault : Type 0 → LogError → Type 0
IsNoFault beyond NoLog = ⊥
IsNoFault beyond (Damaged damage) = ⊥
IsNoFault beyond (RolledBack found newest) = ⊥
IsNoFault beyond (OutOfRange bound) = beyond
IsNoFault beyond (Folder cause) = Unit {0}

-- The device hasn't failed.
abbrev pub IsNoFailure : LogError → Type 0
IsNoFailure error = error ≢ Folder Failed

-- A call on a log says that a faithful device has failed only where it has since.
abbrev pub HasLogCause : {T : Type 0} → Type 0 → ℕ → ℕ → Result T LogError → Type 0
HasLogCause IsFaithful before now result = HasCauseOf (Folder Failed) IsFaithful before now result
