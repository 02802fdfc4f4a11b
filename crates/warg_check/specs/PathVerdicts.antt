-- Verdicts on the bytes of paths.
use Rattle.std.specs.Prelude.{ℕ, Bool, false, ◌&&◌, List, Option, Some, None, Result, Ok, Err}
use Rattle.warg_crypto.specs.Tree.{leaf_digest}
use Rattle.warg_crypto.specs.Bytes.{same_bytes}
use Rattle.warg_protobuf.specs.declared.value_error.DecodeError.TheVariants as decoding
use Rattle.warg_paths.specs.Paths.{inclusion_root, consistency_roots}
use Rattle.warg_paths.specs.Pieces.{hashes_of}
use Rattle.warg_paths.specs.declared.error.HashesError.{HashesError}
use Rattle.warg_paths.specs.declared.error.HashesError.TheVariants as reading
use Rattle.warg_check.specs.declared.verdict.CheckError.{CheckError}
use Rattle.warg_check.specs.declared.verdict.CheckError.TheVariants as fault

-- Bytes that are no path, or out of memory, as what a check answers.
abbrev pub path_fault : HashesError → CheckError
path_fault reading.HashLength = fault.Decode decoding.HashLength
path_fault reading.Memory = fault.Memory

-- The root is there, and is this one.
abbrev pub is_found : List ℕ → Option (List ℕ) → Bool
is_found root None = false
is_found root (Some found) = same_bytes found root

-- A path leads from the value's leaf digest, at this index and length, to the root (RFC 6962, section 2.1.1).
abbrev pub shows_record : (List ℕ → List ℕ) → ℕ → List ℕ → ℕ → List ℕ → List (List ℕ) → Bool
shows_record H index value length root path = is_found root (inclusion_root H index length (leaf_digest H value) path)

-- The two roots are there, and are these.
abbrev pub are_both : List ℕ → List ℕ → Option (List ℕ × List ℕ) → Bool
are_both old new None = false
are_both old new (Some roots) = same_bytes roots.0 old && same_bytes roots.1 new

-- A path leads from the old root, between these lengths, to both roots (RFC 6962, section 2.1.2).
abbrev pub shows_tree : (List ℕ → List ℕ) → ℕ → List ℕ → ℕ → List ℕ → List (List ℕ) → Bool
shows_tree H old_length old new_length new path = are_both old new (consistency_roots H old_length new_length old path)

-- The verdict on a path, if the bytes are one: whether it holds.
abbrev pub judged_path : (List (List ℕ) → Bool) → Option (List (List ℕ)) → Result Bool CheckError
judged_path holds None = Err (fault.Decode decoding.HashLength)
judged_path holds (Some path) = Ok (holds path)

-- The verdict on a path's bytes.
abbrev pub path_verdict : (List (List ℕ) → Bool) → List ℕ → Result Bool CheckError
path_verdict holds bytes = judged_path holds (hashes_of bytes)
