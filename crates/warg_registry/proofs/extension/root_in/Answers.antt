use Rattle.std.proofs.Common.{sym, ◌∙◌, arith}
use Rattle.warg_registry.proofs.MapLines.{root_is, root_read, decoded_length}
use Rattle.warg_registry.proofs.extension.root_in.Goals as goal

pub returns-then-digits-gt44 : goal.returns-then-digits-gt44
returns-then-digits-gt44 g c = λ root digest is.
    let fine = root_is c.args.line.now c.in_ok-digits.digits.now root c.in_ok-digits.ensures.cases.1 digest is in
    omega (arith, c.if-digits-gt44.true, fine.0)

pub returns-in_default : goal.returns-in_default
returns-in_default g c = λ root digest is.
    let fine = root_is c.args.line.now c.in_ok-digits.digits.now root c.in_ok-digits.ensures.cases.1 digest is in
    cc (sym fine.1 ∙ c.in_default.ensures.err)

pub returns-in-Ok-try_from : goal.returns-in-Ok-try_from
returns-in-Ok-try_from g c =
    root_read c.args.line.now c.in_ok-digits.digits.now _ c.in-Ok-try_from.root
    (λ i. let f = c.type_inv.line i in omega arith)
    c.in_ok-digits.ensures.cases.0 c.in_ok-digits.ensures.cases.1 c.in-Ok.ensures.ok.0 c.in-Ok-try_from.ensures.ok

pub returns-in-Err : goal.returns-in-Err
returns-in-Err g c = λ root digest is.
    let fine = root_is c.args.line.now c.in_ok-digits.digits.now root c.in_ok-digits.ensures.cases.1 digest is in
    let none = c.in-Err.ensures.exactly.1 (decoded_length _ root _ fine.1 c.in-Ok.ensures.ok.0 digest) in
    cc none
