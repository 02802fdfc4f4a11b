use Rattle.std.proofs.Common.{refl, sym, arith}
use Rattle.std.proofs.lemmas.List.{take-append-drop}
use Rattle.warg_pages.proofs.PageFormat.{taken_digest}
use Rattle.warg_pages.proofs.bytes.first_hash.Goals as goal

pub returns : goal.returns
returns g c =
    let cases = c.in_ok-digest.ensures.cases in
    rw (c.from_array.ensures, cases.0, cases.1) (
      taken_digest _ (λ i. omega (arith, c.type_inv.bytes i))
          (c.in_ok-digest.ensures.variant.0 refl),
      sym (take-append-drop 32 c.args.bytes.now),
    )
