use Rattle.std.proofs.Common.{◌≡◌, ◌+◌, ◌-◌, ◌*◌, get_or, arith, sym, ◌∙◌}
use Rattle.warg_tiles.proofs.PathLemmas.{read_digit, read_other}
use Rattle.warg_tiles.proofs.path.number_of_digits.Goals as goal
use Rattle.warg_tiles.proofs.path.number_of_digits.Goals.{then-is_ascii_digit+in_ok-checked_mul+in_ok-number, else-is_ascii_digit}

pub returns-in_err-checked_mul : goal.returns-in_err-checked_mul
returns-in_err-checked_mul c =
    let digit = read_digit c.bytes.number c.bytes.byte-index c.args.text.now c.bytes-test.true
    (sym c.is_ascii_digit.ensures.value ∙ c.if-is_ascii_digit.true) c.bytes.invariant.read in
    rw c.from_residual.ensures (omega (arith, digit.1, c.in_err-checked_mul.ensures))

pub returns-in_err-number : goal.returns-in_err-number
returns-in_err-number c =
    let digit = read_digit c.bytes.number c.bytes.byte-index c.args.text.now c.bytes-test.true
    (sym c.is_ascii_digit.ensures.value ∙ c.if-is_ascii_digit.true) c.bytes.invariant.read in
    rw c.from_residual-in_err-number.ensures
    (omega (arith, digit.1, c.in_err-number.ensures, c.in_ok-checked_mul.ensures))

pub bytes-preserved : goal.bytes-preserved
bytes-preserved c = elim c.if-is_ascii_digit.branch [
  | then-is_ascii_digit+in_ok-checked_mul+in_ok-number w ↦
      let digit = read_digit c.bytes.number c.bytes.byte-index c.args.text.now c.bytes-test.true
      (sym c.is_ascii_digit.ensures.value ∙ w.if-is_ascii_digit.true) c.bytes.invariant.read in
      let product = w.in_ok-checked_mul.ensures in
      let total = w.in_ok-number.ensures in
      let number : c.if-is_ascii_digit.number ≡ 10 * c.bytes.number +
      (get_or c.args.text.now c.bytes.byte-index 0 - 48) = omega (arith, w.number-is, product.1, total.1) in
      record { read = rw number digit.0; fits = rw w.number-is (omega (arith, total.0, total.1)) }
  | else-is_ascii_digit w ↦
      let read = read_other c.bytes.number c.bytes.byte-index c.args.text.now c.bytes-test.true
      (sym c.is_ascii_digit.ensures.value ∙ w.if-is_ascii_digit.false) c.bytes.invariant.read in
      record { read = rw w.number-is read; fits = rw w.number-is c.bytes.invariant.fits }
]
