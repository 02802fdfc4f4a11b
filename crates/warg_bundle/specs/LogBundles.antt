-- Log bundles: their messages, and what messages and bytes are read as.
use Rattle.std.specs.Prelude.{ℕ, suc, ◌^◌, ◌<◌, Bool, nat_eq, nat_le, if◌then◌else◌, List, [], ◌∷◌, map, Option, Some, None, Result}
use Rattle.std.specs.Ordering.{on, eq_of_both}
use Rattle.std.specs.Cmp.Lexicographic.{pointwise}
use Rattle.std.specs.List.{AllByRecursion}
use Rattle.warg_protobuf.specs.HashEntry.{Entry}
use Rattle.warg_protobuf.specs.LogProofBundle.{LogBundle, log_schema}
use Rattle.warg_protobuf.specs.Schema.{message_of}
use Rattle.warg_log.specs.declared.node.Node.{Node}
use Rattle.warg_protobuf.specs.declared.value_error.DecodeError.{DecodeError}
use Rattle.warg_protobuf.specs.declared.value_error.DecodeError.TheVariants.{NotAscending}
use Rattle.warg_log.specs.Claims.{same_node}
use Rattle.warg_log.specs.Sparse.{Pairs}
use Rattle.warg_protobuf.specs.Decoding.{held_in, unless, earlier, digest_fault}

-- Proofs that all have one length: the old length of each consistency proof, the node of each inclusion
-- proof, and digests by node.
pub record Bundle : Type 0 where
  pub log_length : ℕ
  pub consistent_lengths : List ℕ
  pub included_nodes : List Node
  pub hashes : Pairs

-- A digest with its node, as an entry of a message.
abbrev pub entry_of : Node × List ℕ → Entry
entry_of p = record { index = p.0.0; hash = p.1 }

-- An entry's digest with its node.
abbrev pub pair_of : Entry → Node × List ℕ
pair_of e = (record { 0 = e.index }, e.hash)

-- The message of a bundle: each length, node and digest in its own field, in order.
abbrev pub bundle_message : Bundle → LogBundle
bundle_message b = record {
  log_length = b.log_length;
  consistent_lengths = b.consistent_lengths;
  included_indices = map (λ (node : Node). node.0) b.included_nodes;
  hashes = map entry_of b.hashes;
}

-- The nodes' numbers fit in the 32 bits of a message. Its lengths always do.
abbrev pub NodesFit : Bundle → Type 0
NodesFit b = AllByRecursion (λ (node : Node). node.0 < 2 ^ 32) b.included_nodes × AllByRecursion (λ (p : Node × List ℕ). p.0.0 < 2 ^ 32) b.hashes

-- The fault of an entry whose number has to be at least `least`: a digest that isn't 32 bytes, and then a
-- number below it.
abbrev pub entry_fault : ℕ → Entry → Option DecodeError
entry_fault least e = earlier (digest_fault e.hash) (if nat_le least e.index then None else Some NotAscending)

-- The first fault of entries in order, of which each number has to be above the one before.
abbrev pub entries_fault : ℕ → List Entry → Option DecodeError
entries_fault least [] = None
entries_fault least (e ∷ es) = earlier (entry_fault least e) (entries_fault (suc e.index) es)

-- The bundle that a message holds, or the first fault of its contents.
abbrev pub log_bundle_in : LogBundle → Result Bundle DecodeError
log_bundle_in m = unless (entries_fault 0 m.hashes) (record {
  log_length = m.log_length;
  consistent_lengths = m.consistent_lengths;
  included_nodes = map (λ n. record { 0 = n }) m.included_indices;
  hashes = map pair_of m.hashes;
})

-- The bundle that bytes spell, or their first fault: that of the message (proto3 encoding), and then that
-- of its contents.
abbrev pub bundle_of : List ℕ → Result Bundle DecodeError
bundle_of bytes = held_in log_bundle_in (message_of log_schema bytes)

-- Whether two pairs have one node and one digest.
abbrev pub same_pair : Node × List ℕ → Node × List ℕ → Bool
same_pair = eq_of_both (on (λ (p : Node × List ℕ). p.0) same_node) (on (λ (p : Node × List ℕ). p.1) (pointwise nat_eq))

-- Whether two bundles have one length, and the same old lengths, nodes and digests, each in order.
abbrev pub same_bundle : Bundle → Bundle → Bool
same_bundle = eq_of_both
    (eq_of_both
    (eq_of_both (on (λ (b : Bundle). b.log_length) nat_eq) (on (λ (b : Bundle). b.consistent_lengths) (pointwise nat_eq)))
    (on (λ (b : Bundle). b.included_nodes) (pointwise same_node)))
    (on (λ (b : Bundle). b.hashes) (pointwise same_pair))
