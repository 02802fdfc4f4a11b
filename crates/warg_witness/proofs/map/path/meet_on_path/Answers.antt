use Rattle.std.proofs.Common.{sym}
use Rattle.warg_map.proofs.ForCallers.{last_bits-more, last_bits-none, length-last_bits}
use Rattle.warg_witness.proofs.KeyLemmas.{bits_start, bit_up}
use Rattle.warg_witness.proofs.map.path.meet_on_path.Goals as goal

pub loop-height-init : goal.loop-height-init
loop-height-init g c = (
  c.empty_tree-empty.ensures,
  rw last_bits-none (bits_start _ _ _ _ _ c.new-climb.ensures),
)

pub loop-height-preserved : goal.loop-height-preserved
loop-height-preserved g c =
    let few = c.loop-height-test.true in (
      c.empty_above-empty.ensures,
      rw (last_bits-more, ← c.bit-right.ensures)
          (bit_up _ _ _ _ _ _ (rw length-last_bits (sym c.peer_at-first_peer.ensures))
          (rw length-last_bits (sym c.peer_at-second_peer.ensures)) c.loop-height.invariant.1 c.up-climb.ensures),
    )
