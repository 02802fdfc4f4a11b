-- Why bytes are no checkpoint text: the first fault by name.
use Rattle.std.specs.Prelude.{◌≡◌, ℕ, ◌^◌, ◌≤◌, List, Option}
use Rattle.warg_crypto.specs.Digests.{IsDigest}
use Rattle.warg_tiles.specs.CheckpointText.{Said, IsLine, CanBeSaid, line, length_line, root_line, text_before}
use Rattle.warg_tiles.specs.declared.error.CheckpointTextError.{CheckpointTextError}
use Rattle.warg_tiles.specs.declared.error.CheckpointTextError.TheVariants.{Origin, Length, Root, Extension, Memory}

-- The bytes begin with an origin's line.
abbrev pub HasOrigin : List ℕ → Type 0
HasOrigin bytes = (origin rest : List ℕ) × IsLine origin × (bytes ≡ line origin rest)

-- They begin with an origin's line and a length's.
abbrev pub HasLength : List ℕ → Type 0
HasLength bytes = (origin : List ℕ) × (length : ℕ) × (rest : List ℕ) × IsLine origin × (length ≤ 2 ^ 63) × (bytes ≡ line origin (length_line length rest))

-- They begin with an origin's line, a length's and a root's.
abbrev pub HasRoot : List ℕ → Type 0
HasRoot bytes = (origin : List ℕ) × (length : ℕ) × (root rest : List ℕ) × IsLine origin × (length ≤ 2 ^ 63) × IsDigest root
    × (bytes ≡ line origin (length_line length (root_line root rest)))

-- They are a checkpoint text, with what stands behind it.
abbrev pub HasText : List ℕ → Type 0
HasText bytes = (said : Said) × (rest : Option (List ℕ)) × CanBeSaid said × (bytes ≡ text_before said rest)

-- The fault is the first that the bytes have. Memory is refused for bytes that have none before the further lines.
abbrev pub IsFirstFault : List ℕ → CheckpointTextError → Type 0
IsFirstFault bytes Origin = HasOrigin bytes → ⊥
IsFirstFault bytes Length = HasOrigin bytes × (HasLength bytes → ⊥)
IsFirstFault bytes Root = HasLength bytes × (HasRoot bytes → ⊥)
IsFirstFault bytes Extension = HasRoot bytes × (HasText bytes → ⊥)
IsFirstFault bytes Memory = HasRoot bytes
