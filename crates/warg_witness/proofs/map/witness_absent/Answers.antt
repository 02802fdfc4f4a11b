use Rattle.warg_crypto.specs.EmptyTrees.{empty_root}
use Rattle.warg_witness.proofs.map.witness_absent.Goals as goal

pub returns : goal.returns
unfolding empty_root
returns g c = record { found = rw c.peers.ensures.value at c.find.ensures }
