use Rattle.std.proofs.Common.{ℕ, ◌<◌, List, vec_len}
use Rattle.std.specs.Prelude.{vec_capacity}
use Rattle.warg_log.specs.Private.Growth.{Grows}
use Rattle.warg_log.proofs.StackLemmas.{IsJoined}
use Rattle.warg_log.proofs.stack_log.join_blocks.Given as goal

abbrev pub invariant-up : goal.invariant-up
invariant-up g l = record {
  room : vec_len l.blocks < vec_capacity l.blocks;
  joined : (G : ℕ → ℕ → List ℕ) → Grows g.D.SupportedDigest.digest l.count l.fn.digest l.initial.blocks.items G
      → IsJoined l.count G l.rest l.blocks.items l.digest;
}

abbrev pub decreases-up : goal.decreases-up
decreases-up g l = l.rest
