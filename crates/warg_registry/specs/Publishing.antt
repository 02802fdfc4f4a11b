-- Why insertions aren't published.
use Rattle.warg_store.specs.Refusals.{IsNoFault}
use Rattle.warg_folder.specs.declared.device.FolderError.TheVariants.{Memory}
use Rattle.warg_store.specs.declared.error.LogError.TheVariants.{Folder}
use Rattle.warg_store.specs.declared.log_folder.CommitError.{CommitError}
use Rattle.warg_store.specs.declared.log_folder.CommitError.TheVariants as commit
use Rattle.warg_store.specs.declared.log_folder.PushError.{PushError}
use Rattle.warg_store.specs.declared.log_folder.PushError.TheVariants as push
use Rattle.warg_registry.specs.declared.error.PublishError.{PublishError}
use Rattle.warg_registry.specs.declared.error.PublishError.TheVariants.{TooLong, Full, Closed, Log}

-- Of a registry that takes insertions: an entry is too long, where the first says so; the longer registry can't be kept, where
-- the second does; or memory was refused, or the device failed.
abbrev pub IsRefusedFor : Type 0 → Type 0 → PublishError → Type 0
IsRefusedFor long full TooLong = long
IsRefusedFor long full Full = full
IsRefusedFor long full Closed = ⊥
IsRefusedFor long full (Log error) = IsNoFault ⊥ error

-- What a refused push of its log is to a registry.
abbrev pub of_push : PushError → PublishError
of_push push.TooLong = TooLong
of_push push.Full = Full
of_push push.Closed = Closed
of_push (push.Folder error) = Log (Folder error)

-- What a refused commit of its log is to a registry.
abbrev pub of_commit : CommitError → PublishError
of_commit commit.Memory = Log (Folder Memory)
of_commit commit.TooLong = Full
of_commit commit.Closed = Closed
of_commit (commit.Folder error) = Log (Folder error)
