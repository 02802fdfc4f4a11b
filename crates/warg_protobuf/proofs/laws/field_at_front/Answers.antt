use Rattle.warg_protobuf.proofs.Readers.{found, begins}
use Rattle.warg_protobuf.proofs.Fields.{fields}
use Rattle.warg_protobuf.proofs.laws.field_at_front.Goals as goal

pub returns : goal.returns
returns c bytes rest f = (
  λ e. let b = found fields bytes f rest e in (b.front, b.spelled, b.parts),
  λ h. begins fields bytes f rest (record { front = h.0; spelled = h.1; parts = h.2 }),
)
