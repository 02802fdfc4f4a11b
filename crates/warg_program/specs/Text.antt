-- What the program writes, as a fold over its lines whose state has the entries pushed and the insertions made.
use Rattle.std.specs.Prelude.{◌≡◌, ℕ, suc, ◌*◌, ◌^◌, nat_lt, Bool, true, false, ◌&&◌, if◌then◌else◌, List, [], ◌∷◌, ◌++◌, length, codes, Result, Ok, Err}
use Rattle.std.specs.Fmt.{decimal}
use Rattle.std.specs.List.{list_all}
use Rattle.std.specs.FinMap as finite
use Rattle.hex.specs.Hex.{encode_lower}
use Rattle.warg_crypto.specs.Digests.{sha256}
use Rattle.warg_crypto.specs.EmptyTrees.{empty_root}
use Rattle.warg_protobuf.specs.HashEntry.{Entry}
use Rattle.warg_protobuf.specs.LogProofBundle.{LogBundle, log_bytes}
use Rattle.warg_log.specs.Tree.{root_of, own_digest}
use Rattle.warg_log.specs.declared.proof.InclusionProofError.{InclusionProofError}
use Rattle.warg_log.specs.declared.proof.InclusionProofError.TheVariants as unproved
use Rattle.warg_log.specs.Inclusion.{inclusion}
use Rattle.warg_log.specs.Consistency.{consistency}
use Rattle.warg_bundle.specs.LogBundles.{Bundle, bundle_message}
use Rattle.warg_bundle.specs.Bundling.{bundled}
use Rattle.warg_bundle.specs.declared.log.error.BundleError.{BundleError}
use Rattle.warg_bundle.specs.declared.log.error.BundleError.TheVariants as failure
use Rattle.warg_log.specs.declared.consistency.ConsistencyProofError.{ConsistencyProofError}
use Rattle.warg_log.specs.declared.consistency.ConsistencyProofError.TheVariants.{PointsOutOfOrder, HashNotKnown, InclusionError, DivergingRoots, OldLengthZero, Memory}
use Rattle.warg_map.specs.Bits.{key_bits}
use Rattle.warg_crypto.specs.Tree.{leaf_digest}
use Rattle.warg_crypto.specs.Bytes.{same_bytes}
use Rattle.warg_map.specs.Sparse.{leaf_at, sparse_root}
use Rattle.warg_program.specs.Words.{lines_of}
use Rattle.warg_check.specs.Verdicts.{inclusion_verdict}
use Rattle.warg_check.specs.declared.verdict.CheckError.{CheckError}
use Rattle.warg_check.specs.declared.verdict.CheckError.TheVariants as check
use Rattle.warg_program.specs.declared.program.RunError.{RunError}
use Rattle.warg_program.specs.declared.program.RunError.TheVariants as run
use Rattle.warg_program.specs.Orders.{Order, push, log, include, consistent, bundle, verify, insert, map, prove, absent, Line, empty, bad, good, line_of}
use Rattle.warg_program.specs.States.{State, start, log_at, map_at, after, after_line, FindsFull}

-- The answer to `include`.
abbrev pub root_or_refusal : Result (List ℕ) InclusionProofError → List ℕ
root_or_refusal (Ok root) = codes "root " ++ encode_lower root
root_or_refusal (Err unproved.LeafTooNew) = codes "refused leaf too new"
root_or_refusal (Err unproved.HashNotKnown) = codes "refused hash not known"
root_or_refusal (Err unproved.Memory) = []

-- Why a consistency proof leads to no roots.
abbrev pub refusal : ConsistencyProofError → List ℕ
refusal PointsOutOfOrder = codes "refused points out of order"
refusal HashNotKnown = codes "refused hash not known"
refusal (InclusionError _) = codes "refused hash not known"
refusal DivergingRoots = codes "refused diverging roots"
refusal OldLengthZero = codes "refused old length zero"
refusal Memory = []

-- Both roots of a consistency proof, the old one first, or why there are none.
abbrev pub roots_or_refusal : Result (List ℕ × List ℕ) ConsistencyProofError → List ℕ
roots_or_refusal (Ok roots) = codes "roots " ++ encode_lower roots.0 ++ 32 ∷ encode_lower roots.1
roots_or_refusal (Err fault) = refusal fault

-- The numbers of a message's nodes fit in its 32 bits.
abbrev pub numbers_fit : LogBundle → Bool
numbers_fit m = list_all (λ x. nat_lt x (2 ^ 32)) m.included_indices && list_all (λ (e : Entry). nat_lt e.index (2 ^ 32)) m.hashes

-- The written form of a message, or that a node's number doesn't fit in it.
abbrev pub bytes_or_refusal : LogBundle → List ℕ
bytes_or_refusal m = if numbers_fit m then codes "bundle " ++ encode_lower (log_bytes m) else codes "refused too large"

-- Why there is no bundle. One inclusion proof has a new leaf, a large length or a lacking digest at most.
abbrev pub bundle_refusal : BundleError → List ℕ
bundle_refusal (failure.Consistency fault) = refusal fault
bundle_refusal (failure.Inclusion _) = codes "refused leaf too new"
bundle_refusal failure.DifferentRoots = codes "refused different roots"
bundle_refusal failure.NoProofs = codes "refused no proofs"
bundle_refusal failure.TooLarge = codes "refused too large"
bundle_refusal failure.HashNotFound = codes "refused hash not known"
bundle_refusal failure.Memory = []

-- The written form of a bundle, or why there is none.
abbrev pub bundle_or_refusal : Result Bundle BundleError → List ℕ
bundle_or_refusal (Ok b) = bytes_or_refusal (bundle_message b)
bundle_or_refusal (Err fault) = bundle_refusal fault

-- A verdict, or why there is none.
abbrev pub verdict_or_refusal : Result Bool CheckError → List ℕ
verdict_or_refusal (Ok true) = codes "true"
verdict_or_refusal (Ok false) = codes "false"
verdict_or_refusal (Err (check.Decode _)) = codes "refused not decoded"
verdict_or_refusal (Err check.NoSuchProof) = codes "refused no such proof"
verdict_or_refusal (Err check.Memory) = []

-- The answer to an order, by the log and the map of the state before it: the number of the new leaf's node,
-- twice the log's length; the length and the root of the log; the root that the log's own digests give with
-- the value at the node, or why there is none; the roots of two lengths by the log's own digests, or why there
-- are none; the bundle of an inclusion proof with the log's own digests, or why there is none; the verdict on
-- the first inclusion proof of a bundle's bytes, on which no state bears; the count of keys after an insertion;
-- the count of keys and the root of the map; the root of the map with the value in the place of what is held
-- under the key, or that nothing is; the root of the map where the key's leaf is an empty one, or that it isn't.
unfoldable pub answer : State → Order → List ℕ
answer s (push entry) = codes "node " ++ decimal (2 * length s.entries)
answer s log = codes "log " ++ decimal (length s.entries) ++ 32 ∷ encode_lower (root_of sha256 (log_at s))
answer s (include node length value) =
    root_or_refusal (inclusion sha256 (own_digest sha256 (log_at s)) (record { leaf = record { 0 = node }; log_length = length }) (leaf_digest sha256 value))
answer s (consistent old new) = roots_or_refusal (consistency sha256 (own_digest sha256 (log_at s)) old new)
answer s (bundle node length) = bundle_or_refusal (bundled (own_digest sha256 (log_at s)) [] (record { leaf = record { 0 = node }; log_length = length } ∷ []))
answer s (verify root value bytes) = verdict_or_refusal (inclusion_verdict sha256 bytes 0 value root)
answer s (insert key value) = codes "len " ++ decimal (finite.len (map_at (after s (insert key value))))
answer s map = codes "map " ++ decimal (finite.len (map_at s)) ++ 32 ∷ encode_lower (sparse_root sha256 256 (map_at s))
answer s (prove key value) =
    if finite.contains_key (map_at s) (key_bits sha256 key)
    then codes "root " ++ encode_lower (sparse_root sha256 256 (finite.insert (map_at s) (key_bits sha256 key) (leaf_digest sha256 value)))
    else codes "absent"
answer s (absent key) =
    if same_bytes (leaf_at sha256 (map_at s) (key_bits sha256 key)) (empty_root sha256 0)
    then codes "empty " ++ encode_lower (sparse_root sha256 256 (map_at s))
    else codes "refused present"

-- What is written for a line of this number, an LF (10) at its end.
abbrev pub said : ℕ → State → Line → List ℕ
said number s empty = []
said number s bad = codes "bad line " ++ decimal number ++ 10 ∷ []
said number s (good order) = answer s order ++ 10 ∷ []

-- Whether a line is empty or an order.
abbrev pub is_not_bad : Line → Bool
is_not_bad empty = true
is_not_bad bad = false
is_not_bad (good order) = true

-- The text for the lines from this number on. Nothing follows a bad line.
unfoldable pub text_from : ℕ → State → List (List ℕ) → List ℕ
text_from number s [] = []
text_from number s (line ∷ lines) =
    said number s (line_of line)
    ++ (if is_not_bad (line_of line) then text_from (suc number) (after_line s (line_of line)) lines else [])

-- No line is bad.
unfoldable pub all_good : List (List ℕ) → Bool
all_good [] = true
all_good (line ∷ lines) = is_not_bad (line_of line) && all_good lines

-- The state after some lines.
unfoldable pub after_lines : State → List (List ℕ) → State
after_lines s [] = s
after_lines s (line ∷ lines) = after_lines (after_line s (line_of line)) lines

-- The text that the program writes for an input.
abbrev pub text_of : List ℕ → List ℕ
text_of input = text_from 1 start (lines_of input)

-- A run formed its whole text: it returned, or only writing the text failed.
abbrev pub HasText : Result Bool RunError → Type 0
HasText (Ok _) = Unit {0}
HasText (Err run.Write) = Unit {0}
HasText (Err _) = ⊥

-- An order in the input finds no room for what it pushes or inserts.
pub record MeetsFull (input : List ℕ) : Type 0 where
  pub before : List (List ℕ)
  pub line : List ℕ
  pub behind : List (List ℕ)
  pub order : Order
  pub parts : lines_of input ≡ before ++ line ∷ behind
  pub all_good : all_good before ≡ true
  pub is_order : line_of line ≡ good order
  pub full : FindsFull (after_lines start before) order
