-- What a map's proof claims of given insertions, and when the claim is met: where the evaluation leads to the
-- plain sparse root of them.
use Rattle.std.specs.Prelude.{◌≡◌, ℕ, List, [], Option}
use Rattle.std.specs.Option.{option_map_or}
use Rattle.warg_crypto.specs.Bytes.{same_bytes}
use Rattle.warg_crypto.specs.EmptyTrees.{empty_root}
use Rattle.warg_map.specs.Bits.{key_bits}
use Rattle.warg_crypto.specs.Tree.{leaf_digest}
use Rattle.warg_map.specs.Sparse.{sparse_root, map_of}
use Rattle.warg_map.specs.Last.{last_with}
use Rattle.warg_map.specs.ProofValue.{proof_value}

-- The last of the insertions of a key, by the key's bytes, or nothing.
abbrev pub last_insertion : List ℕ → List (List ℕ × List ℕ) → Option (List ℕ × List ℕ)
last_insertion key insertions = last_with (λ e. same_bytes key e.0) insertions

-- The value of an insertion, and no bytes where there is none.
abbrev pub value_in : Option (List ℕ × List ℕ) → List ℕ
value_in insertion = option_map_or (λ e. e.1) insertion []

-- The claim of a key: its last value is this one. A key that is inserted nowhere has no bytes. The claim of an
-- absence is that of no bytes.
abbrev pub IsLastValue : List ℕ → List ℕ → List (List ℕ × List ℕ) → Type 0
IsLastValue key value insertions = value_in (last_insertion key insertions) ≡ value

-- The claim of a key is met: the proof leads from the value to the plain sparse root of the insertions.
abbrev pub IsKeyMet : (List ℕ → List ℕ) → List (Option (List ℕ)) → List ℕ → List ℕ → List (List ℕ × List ℕ) → Type 0
IsKeyMet H peers key value insertions = proof_value H peers (leaf_digest H value) (key_bits H key) ≡ sparse_root H 256 (map_of H insertions)

-- The claim of an absence is met: the proof leads from an empty leaf to the plain sparse root of the insertions.
abbrev pub IsAbsenceMet : (List ℕ → List ℕ) → List (Option (List ℕ)) → List ℕ → List (List ℕ × List ℕ) → Type 0
IsAbsenceMet H peers key insertions = proof_value H peers (empty_root H 0) (key_bits H key) ≡ sparse_root H 256 (map_of H insertions)

-- The agreement of two proofs of one key, each with a value, is met: both lead to one root.
abbrev pub IsKeyAgreement : (List ℕ → List ℕ) → List ℕ → List (Option (List ℕ)) → List ℕ → List (Option (List ℕ)) → List ℕ → Type 0
IsKeyAgreement H key peers value other_peers other = proof_value H peers (leaf_digest H value) (key_bits H key) ≡ proof_value H other_peers (leaf_digest H other) (key_bits H key)
