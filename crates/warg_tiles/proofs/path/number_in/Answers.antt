use Rattle.std.proofs.Common.{◌/◌, ◌%◌, refl, sym, ◌∙◌, arith}
use Rattle.std.proofs.lemmas.List.{append_cancel_left}
use Rattle.warg_tiles.specs.TilePaths.{groups_of, three_digits}
use Rattle.std.proofs.lemmas.Bool.{true≢false}
use Rattle.std.proofs.lemmas.Bool.Decides.{Decides-eqb}
use Rattle.std.proofs.lemmas.Slice.Eq.{slice_eq-Decides}
use Rattle.warg_tiles.proofs.PathLemmas.{path_of_digits}
use Rattle.warg_tiles.proofs.path.number_in.Goals as goal

pub returns-in_err-number : goal.returns-in_err-number
returns-in_err-number c = rw c.from_residual.ensures
    (λ n small is. omega (arith, (path_of_digits c.args.text.now _ n refl is).0, c.in_err-number.ensures))

pub returns-in_err-last : goal.returns-in_err-last
returns-in_err-last c = rw c.from_residual-in_err-last.ensures
    (λ n small is. c.in_err-last.ensures _
    (path_of_digits c.args.text.now c.in_ok-number.number n (sym c.in_ok-number.ensures) is).1)

pub returns-else-eq : goal.returns-else-eq
returns-else-eq c =
    let tells = slice_eq-Decides Decides-eqb _ _ _ c.eq.ensures in
    λ n small is.
    let last = append_cancel_left (groups_of (c.in_ok-number.number / 1000)) c.in_ok-last.last.now
    (three_digits (c.in_ok-number.number % 1000))
    (sym c.in_ok-last.ensures ∙ (path_of_digits c.args.text.now c.in_ok-number.number n
    (sym c.in_ok-number.ensures) is).1) in
    true≢false (sym (tells.1 (last ∙ sym (c.as_slice.ensures ∙ c.digits_of.ensures))) ∙ c.if-eq.false)
