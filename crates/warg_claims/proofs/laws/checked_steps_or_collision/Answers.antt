use Rattle.std.specs.FinMap.{empty}
use Rattle.warg_map.specs.Sparse.{sparse_root}
use Rattle.warg_claims.specs.Audits.{steps_of}
use Rattle.warg_claims.proofs.AuditLemmas.{lead_through}
use Rattle.warg_claims.proofs.laws.checked_steps_or_collision.Goals as goal

pub returns : goal.returns
returns c = λ H steps end gives checked.
    c.steps_or_collision.ensures H (steps_of steps) end gives
    (lead_through H (c.update_is_shown.ensures H) (c.insertion_is_shown.ensures H) steps
    (sparse_root H 256 empty) end checked)
