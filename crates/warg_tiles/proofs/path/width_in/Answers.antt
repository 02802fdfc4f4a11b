use Rattle.std.proofs.Common.{◌≡◌, sym, ◌∙◌, ⊎_elim, arith}
use Rattle.std.specs.Fmt.{decimal}
use Rattle.std.proofs.lemmas.Fmt.{decimal_injective}
use Rattle.warg_tiles.proofs.path.width_in.Goals as goal

pub returns-else-width-gt0 : goal.returns-else-width-gt0
returns-else-width-gt0 c = λ width some most is.
    let text : c.in_ok-strip_prefix.field-0.now ≡ decimal width =
    cc (c.in_ok-strip_prefix.ensures.cases.1.1, c.in_ok-strip_prefix.ensures.cases.2, is) in
    let same = decimal_injective c.in_ok-width.width width (omega arith) (omega arith)
    (sym c.in_ok-width.ensures ∙ text) in
    ⊎_elim (λ large. omega (arith, same, large.1)) (λ none. omega (arith, same, none)) c.else-width-gt0.either
