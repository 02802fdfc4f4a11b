use Rattle.std.proofs.Common.{◌%◌, arith}
use Rattle.std.proofs.lemmas.List.{append_assoc}
use Rattle.warg_tiles.proofs.PathLemmas.{groups_step, three_padded}
use Rattle.warg_tiles.proofs.path.+push_groups.Goals as goal

pub returns : goal.returns
returns g t c =
    let written = rw (c.laid_out.ensures, c.in_ok-push_groups.ensures) at c.write.ensures.bytes in
    let padded = rw (three_padded (c.args.groups % 1000) (omega arith)) at written in
    rw (groups_step c.args.groups (omega (arith, c.if-groups-eq0.false)), ← append_assoc) padded
