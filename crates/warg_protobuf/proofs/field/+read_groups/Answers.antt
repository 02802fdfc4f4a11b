use Rattle.std.proofs.Common.{arith}
use Rattle.std.proofs.lemmas.Result.{err_from_is_err_and}
use Rattle.std.proofs.lemmas.List.{take_rest}
use Rattle.warg_protobuf.proofs.Varints.{low_fits, high_fits, high_fails}
use Rattle.warg_protobuf.proofs.field.+read_groups.Goals as goal

pub returns-then-first-lt128-clause-below : goal.returns-then-first-lt128-clause-below
returns-then-first-lt128-clause-below t c = omega (arith, low_fits c.args.more c.if-more-eq0.false)

pub returns-in_err-high-clause-exact : goal.returns-in_err-high-clause-exact
returns-in_err-high-clause-exact t c =
    let p = err_from_is_err_and c.from_residual.result c.from_residual.ensures.1 in
    rw (p.1, p.2) (high_fails c.in_err-high.field-0.0 c.args.more c.args.bytes.now c.if-more-eq0.false
    c.in-len1-up.len_at_least c.if-first-lt128.false (rw take_rest at c.in_err-high.ensures.exact))

pub overflow_mul-result : goal.overflow_mul-result
overflow_mul-result t c = omega
    (arith, high_fits c.args.more c.in_ok-high.high c.if-more-eq0.false c.requires c.in_ok-high.ensures.below)

pub overflow_add-result : goal.overflow_add-result
overflow_add-result t c = omega
    (arith, high_fits c.args.more c.in_ok-high.high c.if-more-eq0.false c.requires c.in_ok-high.ensures.below)

pub returns-clause-below : goal.returns-clause-below
returns-clause-below t c = omega
    (arith, high_fits c.args.more c.in_ok-high.high c.if-more-eq0.false c.requires c.in_ok-high.ensures.below)
