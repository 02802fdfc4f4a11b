use Rattle.std.proofs.Common.{◌≡◌, ℕ, List, ◌++◌, take}
use Rattle.warg_crypto.specs.WeakDigests.{Keeps}
use Rattle.warg_crypto.proofs.weak.Own32ByteVisitor.visit_bytes.Given as goal

abbrev pub invariant-loop-byte : goal.invariant-loop-byte
invariant-loop-byte l = record {
  hashed : l.self.hasher ≡ l.initial.self.hasher;
  kept : (m : List ℕ) → Keeps l.initial.self.first l.initial.self.count m
      → Keeps l.self.first l.self.count (m ++ take l.byte-index l.bytes);
}
