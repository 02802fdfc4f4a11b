-- Images of the two logs: their messages, and what messages and bytes are read as.
use Rattle.std.specs.Prelude.{ℕ, ◌^◌, ◌<◌, ◌&&◌, Bool, ◌==◌, nat_eq, if◌then◌else◌, List, length, map, Option, Some, None, Result}
use Rattle.std.specs.List.{AllByRecursion, zip}
use Rattle.std.specs.Cmp.Lexicographic.{pointwise}
use Rattle.warg_protobuf.specs.HashEntry.{Entry}
use Rattle.warg_protobuf.specs.StackLog.{StackImage, stack_schema}
use Rattle.warg_protobuf.specs.VecLog.{VecImage, vec_schema}
use Rattle.warg_protobuf.specs.Schema.{message_of}
use Rattle.warg_protobuf.specs.declared.value_error.DecodeError.{DecodeError}
use Rattle.warg_protobuf.specs.declared.value_error.DecodeError.TheVariants.{NotALog, NotAStack}
use Rattle.warg_log.specs.Nodes.{balanced_roots}
use Rattle.warg_log.specs.Tree.{slice_of, leaves_in}
use Rattle.warg_log.specs.Blocks.{Blocks}
use Rattle.warg_protobuf.specs.Decoding.{held_in, unless, earlier, first_fault, digest_fault}

-- ---- a log that keeps its balanced roots

-- A node's number with its digest, as an entry of a message.
abbrev pub root_entry : ℕ × List ℕ → Entry
root_entry p = record { index = p.0; hash = p.1 }

-- The message of such a log: its length, and each balanced root with its digest, from left to right.
abbrev pub stack_message : Blocks → StackImage
stack_message b = record { length = b.len; stack = map root_entry (zip (balanced_roots b.len) b.digests) }

-- The length and the balanced roots' numbers fit in the 32 bits of a message.
abbrev pub RootsFit : Blocks → Type 0
RootsFit b = (b.len < 2 ^ 32) × AllByRecursion (λ t. t < 2 ^ 32) (balanced_roots b.len)

-- The fault of numbers that aren't the balanced roots of the length, in order.
abbrev pub numbers_fault : StackImage → Option DecodeError
numbers_fault m = if pointwise nat_eq (map (λ (e : Entry). e.index) m.stack) (balanced_roots m.length) then None else Some NotAStack

-- The log that a message holds, or the first fault of its contents: a digest that isn't 32 bytes, and then
-- numbers that aren't the balanced roots.
abbrev pub stack_in : StackImage → Result Blocks DecodeError
stack_in m = unless (earlier (first_fault digest_fault (map (λ (e : Entry). e.hash) m.stack)) (numbers_fault m)) (record {
  len = m.length;
  digests = map (λ (e : Entry). e.hash) m.stack;
})

-- The log that bytes spell, or their first fault: that of the message (proto3 encoding), and then that of
-- its contents.
abbrev pub stack_of : List ℕ → Result Blocks DecodeError
stack_of bytes = held_in stack_in (message_of stack_schema bytes)

-- ---- a log that keeps the digest of every node

-- The message of such a log: its length, and its slice.
abbrev pub vec_message : (List ℕ → List ℕ) → List (List ℕ) → VecImage
vec_message H ds = record { length = length ds; tree = slice_of H ds }

-- The tree is the slice of a log of this length.
abbrev pub is_slice_of_length : (List ℕ → List ℕ) → ℕ → List (List ℕ) → Bool
is_slice_of_length H n tree = length (leaves_in tree) == n && pointwise (pointwise nat_eq) tree (slice_of H (leaves_in tree))

-- The fault of a tree that isn't the slice of a log of the length.
abbrev pub tree_fault : (List ℕ → List ℕ) → VecImage → Option DecodeError
tree_fault H m = if is_slice_of_length H m.length m.tree then None else Some NotALog

-- The log that a message holds, by its leaf digests, or the first fault of its contents: a digest that isn't
-- 32 bytes, and then a tree that isn't the slice of a log of the length.
abbrev pub vec_in : (List ℕ → List ℕ) → VecImage → Result (List (List ℕ)) DecodeError
vec_in H m = unless (earlier (first_fault digest_fault m.tree) (tree_fault H m)) (leaves_in m.tree)

-- The log that bytes spell, or their first fault: that of the message (proto3 encoding), and then that of
-- its contents.
abbrev pub vec_of : (List ℕ → List ℕ) → List ℕ → Result (List (List ℕ)) DecodeError
vec_of H bytes = held_in (vec_in H) (message_of vec_schema bytes)
