-- What reading the further lines of a checkpoint text answers.
use Rattle.std.specs.Prelude.{◌≢◌, List, ℕ, Option}
use Rattle.std.specs.List.{AllByRecursion}
use Rattle.warg_tiles.specs.CheckpointText.{IsLine, lines, behind}
use Rattle.warg_tiles.specs.declared.error.CheckpointTextError.{CheckpointTextError}
use Rattle.warg_tiles.specs.declared.error.CheckpointTextError.TheVariants.{Origin, Length, Root, Extension, Memory}

-- The bytes are no further lines before an empty one or the end, or memory was refused.
abbrev pub IsExtensionFault : List ℕ → CheckpointTextError → Type 0
IsExtensionFault bytes Extension = (more : List (List ℕ)) (rest : Option (List ℕ)) → AllByRecursion IsLine more → bytes ≢ lines more (behind rest)
IsExtensionFault bytes Memory = Unit {0}
IsExtensionFault bytes Origin = ⊥
IsExtensionFault bytes Length = ⊥
IsExtensionFault bytes Root = ⊥
