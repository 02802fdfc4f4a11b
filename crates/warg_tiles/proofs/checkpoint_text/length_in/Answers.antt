use Rattle.std.proofs.Common.{◌≡◌, sym, ◌∙◌, arith}
use Rattle.std.specs.Fmt.{decimal}
use Rattle.std.proofs.lemmas.Fmt.{decimal_injective, IsAscii-decimal}
use Rattle.std.proofs.lemmas.Str.{IsUtf8-from_ascii}
use Rattle.warg_tiles.proofs.TextLemmas.{no_line, decimal_line, not_utf8, text_read}
use Rattle.warg_tiles.proofs.checkpoint_text.length_in.Goals as goal

pub returns-in_err-line : goal.returns-in_err-line
returns-in_err-line c = rw c.from_residual.ensures
    (λ n rest most is. no_line c.args.bytes.now (decimal n) rest c.in_err-line.ensures is)

pub returns-in_err-ok : goal.returns-in_err-ok
returns-in_err-ok c =
    rw c.from_residual-in_err-ok.ensures (λ n rest most is.
    let at = decimal_line c.args.bytes.now c.in_ok-line.line.now c.in_ok-line.rest.now rest n c.in_ok-line.ensures.0
    c.in_ok-line.ensures.1 most is in
    not_utf8 _ _ c.in_ok-line.line.now c.from_utf8.result c.ok.result c.from_utf8.ensures.cases c.ok.ensures.value
    c.in_err-ok.was (rw at (IsUtf8-from_ascii (decimal n) (IsAscii-decimal n (omega arith)))))

pub returns-in_err-length : goal.returns-in_err-length
returns-in_err-length c =
    rw c.from_residual-in_err-length.ensures (λ n rest most is.
    let at = decimal_line c.args.bytes.now c.in_ok-line.line.now c.in_ok-line.rest.now rest n c.in_ok-line.ensures.0
    c.in_ok-line.ensures.1 most is in
    let text = text_read _ _ c.in_ok-line.line.now c.from_utf8.result c.ok.result c.in_ok-ok.field-0
    c.from_utf8.ensures.cases c.ok.ensures.value c.in_ok-ok.was in
    c.in_err-length.ensures n (omega arith) (text ∙ at))

pub returns-then-length-gt-GREATEST_LENGTH : goal.returns-then-length-gt-GREATEST_LENGTH
returns-then-length-gt-GREATEST_LENGTH c = λ n rest most is.
    let at = decimal_line c.args.bytes.now c.in_ok-line.line.now c.in_ok-line.rest.now rest n c.in_ok-line.ensures.0
    c.in_ok-line.ensures.1 most is in
    let text = text_read _ _ c.in_ok-line.line.now c.from_utf8.result c.ok.result c.in_ok-ok.field-0
    c.from_utf8.ensures.cases c.ok.ensures.value c.in_ok-ok.was in
    let same : c.in_ok-length.length ≡ n = decimal_injective c.in_ok-length.length n (omega arith) (omega arith)
    (sym c.in_ok-length.ensures ∙ text ∙ at) in
    omega (arith, same)
