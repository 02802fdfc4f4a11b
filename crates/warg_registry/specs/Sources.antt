-- What is known of a log whose pages are read.
use Rattle.std.specs.Prelude.{◌≡◌, ℕ, ◌≤◌, ◌<◌, Bool, Option, Some}
use Rattle.warg_registry.specs.declared.error.ReadFault.{ReadFault}
use Rattle.warg_registry.specs.declared.error.ReadFault.TheVariants.{DeviceFailed}

-- The log as it was before, whether its device is known to be faithful, and how often it had failed.
pub record LogBefore (L : Type 0) : Type 0 where
  pub log : L
  pub is_faithful : Bool
  pub faults : ℕ

-- The device has failed no less often than before; and if it is faithful, more often where the last reading met that.
pub record IsFailureTold (IsFaithful : Type 0) (before now : ℕ) (fault : Option ReadFault) : Type 0 where
  pub later : before ≤ now
  pub failed : IsFaithful → fault ≡ Some DeviceFailed → before < now
