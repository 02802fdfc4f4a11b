use Rattle.std.proofs.Common.{sym, ap, length, ◌∙◌, arith}
use Rattle.std.proofs.lemmas.Bool.{eqb-true}
use Rattle.warg_tiles.proofs.TextLemmas.{no_line, line_once}
use Rattle.warg_tiles.proofs.checkpoint_text.first_line.Goals as goal

pub returns-in_err-line : goal.returns-in_err-line
returns-in_err-line c = rw c.from_residual.ensures (λ h. no_line c.args.bytes.now h.0 h.1 c.in_err-line.ensures h.3)

pub returns-then-is_empty : goal.returns-then-is_empty
returns-then-is_empty c = λ h. let same = line_once h.0 h.1 c.in_ok-line.line.now c.in_ok-line.rest.now h.2.no_newline
    c.in_ok-line.ensures.0 (sym h.3 ∙ c.in_ok-line.ensures.1) in
    omega (
      arith,
      h.2.some,
      ap length same.0,
      eqb-true (length c.in_ok-line.line.now) 0
          (sym c.is_empty.ensures ∙ c.if-is_empty.true),
    )
