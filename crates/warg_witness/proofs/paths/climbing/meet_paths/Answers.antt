use Rattle.std.proofs.Common.{arith}
use Rattle.warg_witness.proofs.RecordLemmas.{paths_met}
use Rattle.warg_witness.proofs.paths.climbing.meet_paths.Goals as goal

pub returns : goal.returns
returns g c = paths_met _ _ _ c.args.first_path.now c.args.second_path.now _ _ c.in_ok-climb_paths.ensures
    (omega arith) c.met.result c.met.ensures
