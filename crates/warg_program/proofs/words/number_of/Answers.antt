use Rattle.std.proofs.Common.{◌≡◌, ℕ, ◌<◌, ◌≤◌, ◌^◌, length, SomeIff, Option, Some, None, ◌∙◌, refl, sym, ap, true, drop, [], arith}
use Rattle.std.proofs.lemmas.List.{drop_all}
use Rattle.std.proofs.lemmas.Grind.{common_steps}
use Rattle.std.specs.List.{list_all}
use Rattle.std.specs.Char.{is_ascii_digit}
use Rattle.warg_program.specs.Words.{value_from}
use Rattle.warg_program.proofs.WordLemmas.{number, too_great}
use Rattle.warg_program.proofs.words.number_of.Goals as goal

-- what a sum or a product that doesn't fit is
refused : (o : Option ℕ) (v : ℕ) → SomeIff o (v < 2 ^ 64) v → o ≡ None → 2 ^ 64 ≤ v
refused None v gives none = omega (arith, gives)
refused (Some x) v gives none = absurd (cc)

made : (o : Option ℕ) (v x : ℕ) → SomeIff o (v < 2 ^ 64) v → o ≡ Some x → x ≡ v
made None v x gives some = absurd (cc)
made (Some y) v x gives some = let is = gives.1 in cc

pub returns-in_err-tenfold : goal.returns-in_err-tenfold
returns-in_err-tenfold c =
    let great = refused _ _ c.checked_mul.ensures c.in_err-tenfold.was in
    let none = too_great _ c.loop-digit.value c.loop-digit.digit-index c.loop-digit.invariant.value
    c.loop-digit-test.true (omega arith) in
    c.from_residual.ensures ∙ sym none

pub returns-in_err-value : goal.returns-in_err-value
returns-in_err-value c =
    let great = refused _ _ c.checked_add.ensures c.in_err-value.was in
    let tenfold = made _ _ _ c.checked_mul.ensures c.in_ok-tenfold.was in
    let none = too_great _ c.loop-digit.value c.loop-digit.digit-index c.loop-digit.invariant.value
    c.loop-digit-test.true (omega arith) in
    c.from_residual-in_err-value.ensures ∙ sym none

pub returns : goal.returns
unfolding value_from
returns c =
    let w = c.args.word.now in
    let ended : drop c.loop-digit.digit-index w ≡ [] = drop_all c.loop-digit.digit-index w c.loop-digit-test.false in
    let some : 0 < length w = grind (arith, common_steps, c.if-is_empty.ensures) in
    let digits : list_all is_ascii_digit w ≡ true = c.loop-digit.invariant.digits
    ∙ ap (list_all is_ascii_digit) ended in
    let value : value_from 0 w ≡ c.loop-digit.value = c.loop-digit.invariant.value
    ∙ ap (value_from c.loop-digit.value) ended in
    rw (number w c.loop-digit.value some c.if-word-gt20.false digits value c.loop-digit.invariant.fits) refl
