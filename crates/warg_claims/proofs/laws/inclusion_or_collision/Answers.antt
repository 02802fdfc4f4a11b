use Rattle.warg_log.specs.Sparse.{held_digest}
use Rattle.warg_claims.proofs.ConvictLemmas.{included}
use Rattle.warg_claims.proofs.laws.inclusion_or_collision.Goals as goal

pub returns : goal.returns
returns c = λ H bytes place value root b node entries gives shown reads there log untrue.
    c.value_or_collision.ensures H (held_digest b.hashes)
    (record { leaf = node; log_length = b.log_length }) value entries gives
    (included H bytes place value root entries b node reads there shown log) untrue
