-- What a refused entry of a bundle is to a log.
use Rattle.warg_tiles.specs.declared.error.EntryError.{EntryError}
use Rattle.warg_tiles.specs.declared.error.EntryError.TheVariants as entry
use Rattle.warg_folder.specs.declared.device.FolderError.TheVariants as folder
use Rattle.warg_store.specs.declared.log_folder.PushError.{PushError}
use Rattle.warg_store.specs.declared.log_folder.PushError.TheVariants.{TooLong, Folder}

-- Too long, or out of memory.
abbrev pub push_error : EntryError → PushError
push_error entry.TooLong = TooLong
push_error entry.Memory = Folder folder.Memory
