-- Checkpoint texts (C2SP tlog-checkpoint): what a log says of its length and its root.
use Rattle.std.specs.Prelude.{◌≢◌, ℕ, ◌^◌, ◌<◌, ◌≤◌, List, [], ◌∷◌, ◌++◌, length, Option, Some, None}
use Rattle.std.specs.Fmt.{decimal}
use Rattle.std.specs.List.{AllByRecursion}
use Rattle.base64.specs.Engines.{standard}
use Rattle.base64.specs.GeneralPurpose.{encode_of}
use Rattle.warg_crypto.specs.Digests.{IsDigest}

-- What a checkpoint text says: the log's origin, its length, its root, and further lines.
pub record Said : Type 0 where
  pub origin : List ℕ
  pub length : ℕ
  pub root : List ℕ
  pub extensions : List (List ℕ)

-- Bytes with no newline (10) in them.
abbrev pub HasNoNewline : List ℕ → Type 0
HasNoNewline bytes = AllByRecursion (λ b. b ≢ 10) bytes

-- Bytes that a line of the text can have: one at least, and no newline.
pub record IsLine (bytes : List ℕ) : Type 0 where
  pub some : 0 < length bytes
  pub no_newline : HasNoNewline bytes

-- What a text can say: origin and further lines are lines, the length is at most 2 ^ 63, and the root is a digest.
pub record CanBeSaid (said : Said) : Type 0 where
  pub origin : IsLine said.origin
  pub length : said.length ≤ 2 ^ 63
  pub root : IsDigest said.root
  pub extensions : AllByRecursion IsLine said.extensions

-- Bytes as a line, with the newline, before others.
abbrev pub line : List ℕ → List ℕ → List ℕ
line bytes rest = bytes ++ 10 ∷ rest

-- Lines, each with its newline, before other bytes.
unfoldable pub lines : List (List ℕ) → List ℕ → List ℕ
lines [] rest = rest
lines (bytes ∷ more) rest = line bytes (lines more rest)

-- The length's line, in decimal, before other bytes.
abbrev pub length_line : ℕ → List ℕ → List ℕ
length_line n rest = line (decimal n) rest

-- The root's line, in base64 with padding (RFC 4648, section 4), before other bytes.
abbrev pub root_line : List ℕ → List ℕ → List ℕ
root_line root rest = line (encode_of standard root) rest

-- What stands behind a text: nothing, or an empty line and then any bytes.
abbrev pub behind : Option (List ℕ) → List ℕ
behind None = []
behind (Some rest) = 10 ∷ rest

-- The text that says this, with what stands behind it.
abbrev pub text_before : Said → Option (List ℕ) → List ℕ
text_before said rest = line said.origin (length_line said.length (root_line said.root (lines said.extensions (behind rest))))

-- The text that says this.
abbrev pub text_of : Said → List ℕ
text_of said = text_before said None
