-- What a commit makes of a folder, and what a folder stands for: its files once it has been opened.
use Rattle.std.specs.Prelude.{◌≡◌, ◌⊎◌, ℕ, ◌^◌, ◌==◌, nat_eq, nat_lt, Bool, ◌&&◌, ◌||◌, true, false, List, [], ◌∷◌, length, Option, Some, None, if◌then◌else◌}
use Rattle.std.specs.Cmp.Lexicographic.{pointwise}
use Rattle.std.specs.Option.{option_or}
use Rattle.warg_folder.specs.Files.{Files, put}
use Rattle.warg_folder.specs.Names.{checkpoint, state, mark, staged, is_staged, is_own, is_served}

-- Without what is staged.
abbrev pub without_staged : Files → Files
without_staged s = λ n. if is_staged n then None else s n

-- With each staged file at its name.
abbrev pub published : Files → Files
published s = λ n. if is_served n then option_or (s (staged n)) (s n) else s n

-- The bytes begin with a newline.
abbrev pub begins_line : List ℕ → Bool
begins_line [] = false
begins_line (byte ∷ bytes) = byte == 10

-- An empty line stands in the bytes.
unfoldable pub has_empty_line : List ℕ → Bool
has_empty_line [] = false
has_empty_line (byte ∷ bytes) = (byte == 10 && begins_line bytes) || has_empty_line bytes

-- A checkpoint is signed where an empty line stands in it, behind which signatures are, or where it is longer than any text.
unfoldable pub is_signed : Option (List ℕ) → Bool
is_signed None = false
is_signed (Some bytes) = nat_lt (2 ^ 20) (length bytes) || has_empty_line bytes

-- The checkpoint once a text is the log's state: a signed one stays until another is signed.
abbrev pub checkpoint_after : List ℕ → Option (List ℕ) → Option (List ℕ)
checkpoint_after text old = if is_signed old then old else Some text

-- With this text as the log's state and, where that isn't signed, its checkpoint.
abbrev pub told : List ℕ → Files → Files
told text s = λ n. if pointwise nat_eq checkpoint n then checkpoint_after text (s checkpoint) else put (state, text) s n

-- With each staged file at its name, and this text as the log's state and checkpoint.
abbrev pub finished : List ℕ → Files → Files
finished text s = told text (published s)

-- No file is staged.
abbrev pub NothingStaged : Files → Type 0
NothingStaged s = (n : List ℕ) → is_staged n ≡ true → s n ≡ None

-- A commit that stands is finished, and one that doesn't is dropped.
abbrev pub opened_by : Option (List ℕ) → Files → Files
opened_by None s = without_staged s
opened_by (Some text) s = without_staged (finished text s)

-- The files of a folder once it has been opened.
abbrev pub opened : Files → Files
opened s = opened_by (s mark) s

-- The files once a commit with this text stands over what is staged.
abbrev pub committed : List ℕ → Files → Files
committed text s = opened (put (mark, text) s)

-- No commit stands, and nothing but staged files can differ.
pub record IsBeside (s c : Files) : Type 0 where
  pub outside : (n : List ℕ) → is_staged n ≡ false → c n ≡ s n
  pub no_mark : c mark ≡ None

-- Files are being staged: a crash leaves what is seen, but for staged files.
abbrev pub IsStaging : Files → (Files → Type 0) → Type 0
IsStaging seen may_leave = (c : Files) → may_leave c → IsBeside seen c

-- Files between old ones and next ones, for those who open them and for those who read: opened they are the old ones,
-- with every served file as it was, or the next ones; each served file, and the state, is the old one or the next one;
-- the checkpoint is the old one unless all of them are the next ones.
pub record IsBetween (old next c : Files) : Type 0 where
  pub stands_for : ((opened c ≡ opened old) × ((n : List ℕ) → is_own n ≡ false → c n ≡ old n)) ⊎ (opened c ≡ next)
  pub each : (n : List ℕ) → is_own n ≡ false → (c n ≡ old n) ⊎ (c n ≡ next n)
  pub state : (c state ≡ old state) ⊎ (c state ≡ next state)
  pub whole : (c checkpoint ≡ old checkpoint) ⊎ ((n : List ℕ) → is_own n ≡ false → c n ≡ next n)
