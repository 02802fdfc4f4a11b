use Rattle.std.proofs.Common.{length}
use Rattle.warg_protobuf.specs.Field.{SpellsField}
use Rattle.warg_protobuf.specs.Schema.{check_by}
use Rattle.warg_protobuf.proofs.Loops.{Collects}
use Rattle.warg_protobuf.proofs.message.read_message.Given as goal

abbrev pub invariant-loop-rest : goal.invariant-loop-rest
invariant-loop-rest g l =
    Collects SpellsField (check_by g.M.Message.schema.table) g.M.Message.schema.message l.bytes l.rest
    (g.M.Message.view l.message)

abbrev pub decreases-loop-rest : goal.decreases-loop-rest
decreases-loop-rest g l = length l.rest
