use Rattle.std.proofs.Common.{◌<◌, length, refl, arith}
use Rattle.warg_pages.proofs.Refused.{source_refused}
use Rattle.warg_pages.proofs.update.update_below.Goals as goal

pub returns-in_err-page-clause-err : goal.returns-in_err-page-clause-err
returns-in_err-page-clause-err g c =
    source_refused _ _ c.from_residual-in_err-page.ensures.1
    (λ fault lt known es is_known own. fault known es is_known own)
    (rw (c.as_slice.ensures.value, c.in_ok-below.ensures.ok) at c.in_err-page.ensures.err)

pub returns-clause-ok : goal.returns-clause-ok
returns-clause-ok g c =
    let low : length c.args.prefix.now < 31 = omega arith in (
      low,
      c.in_ok-below.ensures.ok,
      refl,
      c.digest_named.ensures,
      refl,
      rw (c.as_slice.ensures.value, c.in_ok-below.ensures.ok) at c.in_ok-page.ensures.ok,
    )
