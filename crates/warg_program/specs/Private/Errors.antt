-- Which errors reading words, inserting and an input can end with.
use Rattle.std.specs.Prelude.{◌≡◌, Option, None}
use Rattle.warg_map.specs.declared.map.MapError.{MapError}
use Rattle.warg_map.specs.declared.map.MapError.TheVariants as map
use Rattle.warg_program.specs.declared.line_error.LineError.{LineError}
use Rattle.warg_program.specs.declared.line_error.LineError.TheVariants.{BadLine, Memory, Full}
use Rattle.warg_program.specs.declared.program.RunError.{RunError}
use Rattle.warg_program.specs.declared.program.RunError.TheVariants as run

-- Why words weren't read: they say nothing of the kind, or memory was refused.
abbrev pub IsUnread : {X : Type 0} → Option X → LineError → Type 0
IsUnread said BadLine = said ≡ None
IsUnread said Memory = Unit {0}
IsUnread said Full = ⊥

-- Why a line isn't answered whose insertion was refused.
abbrev pub map_error : MapError → LineError
map_error map.Full = Full
map_error map.Memory = Memory

-- Why a run ended: memory was refused, or there was no room.
abbrev pub IsRefusal : Type 0 → RunError → Type 0
IsRefusal full run.Read = ⊥
IsRefusal full run.Write = ⊥
IsRefusal full run.Memory = Unit {0}
IsRefusal full run.Full = full
