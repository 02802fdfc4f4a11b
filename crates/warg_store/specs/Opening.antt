-- What opening a log takes and leaves.
use Rattle.std.specs.Prelude.{◌≡◌, ◌⊎◌, ℕ, ◌^◌, ◌≤◌, true, false, List, length, Option, Some, None, IsSome}
use Rattle.warg_tiles.specs.CheckpointText.{Said, CanBeSaid, text_of, text_before}
use Rattle.warg_folder.specs.Files.{Files, put}
use Rattle.warg_folder.specs.Names.{checkpoint, state, mark, is_of_log}
use Rattle.warg_folder.specs.Commits.{is_signed, opened, IsBetween}

-- What a checkpoint that a folder serves can say: its text has at most 2 ^ 20 bytes.
pub record CanBeServed (said : Said) : Type 0 where
  pub can : CanBeSaid said
  pub text : length (text_of said) ≤ 2 ^ 20

-- A served checkpoint can be of the log whose state says this: it has the origin, and fewer entries, or as many and the root.
pub record AgreesWith (state served : Said) : Type 0 where
  pub origin : served.origin ≡ state.origin
  pub length : served.length ≤ state.length
  pub root : served.length ≡ state.length → served.root ≡ state.root

-- No commit stands, the log's state says this, and the checkpoint has no signatures.
pub record IsAtRest (said : Said) (s : Files) : Type 0 where
  pub no_mark : s mark ≡ None
  pub can : CanBeServed said
  pub says : s state ≡ Some (text_of said)
  pub unsigned : is_signed (s checkpoint) ≡ false

-- A folder that had no state is taken over: the text that its checkpoint says is put as its state.
pub record IsTakenOver (old c : Files) : Type 0 where
  pub none : old state ≡ None
  pub text : List ℕ
  pub says : (said : Said) (behind : Option (List ℕ)) → CanBeServed said
      → old checkpoint ≡ Some (text_before said behind) → text ≡ text_of said
  pub put : c ≡ put (state, text) old

-- What a crash leaves while a folder is opened: files between the old ones and those that they stand for, or these
-- taken over.
abbrev pub IsOpening : Files → Files → Type 0
IsOpening old c = IsBetween old (opened old) c ⊎ IsTakenOver (opened old) c

-- No file of a log is there, besides its lock.
abbrev pub HasNoLogFile : Files → Type 0
HasNoLogFile s = (n : List ℕ) → is_of_log n ≡ true → s n ≡ None

-- One is.
abbrev pub HasLogFile : Files → Type 0
HasLogFile s = (n : List ℕ) × (is_of_log n ≡ true) × IsSome (s n)
