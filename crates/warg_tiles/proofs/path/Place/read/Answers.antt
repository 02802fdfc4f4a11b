use Rattle.std.proofs.Common.{Some, None, ◌∙◌, arith}
use Rattle.warg_tiles.proofs.PathLemmas.{place_parts}
use Rattle.warg_tiles.proofs.path.Place.read.Goals as goal

pub returns-in_err-number-in-Some : goal.returns-in_err-number-in-Some
returns-in_err-number-in-Some c =
    rw c.from_residual.ensures (λ number width small some most is.
    c.in_err-number-in-Some.ensures number small
    (c.as_bytes.ensures.value ∙ (place_parts c.args.place.now number width
    (Some (c.in-Some.number, c.in-Some.width)) c.in-Some.ensures.cases is).1))

pub returns-in_err-width-in-Some : goal.returns-in_err-width-in-Some
returns-in_err-width-in-Some c =
    rw c.from_residual-in_err-width-in-Some.ensures (λ number width small some most is.
    let parts = place_parts c.args.place.now number width (Some (c.in-Some.number, c.in-Some.width))
    c.in-Some.ensures.cases is in
    c.in_err-width-in-Some.ensures width some (omega (arith, parts.0)) parts.2)

pub returns-in_err-number-in-None : goal.returns-in_err-number-in-None
returns-in_err-number-in-None c =
    rw c.from_residual-in_err-number-in-None.ensures (λ number width small some most is.
    c.in_err-number-in-None.ensures number small (c.as_bytes-in-None.ensures.value
    ∙ place_parts c.args.place.now number width None c.in-None.ensures.cases is))
