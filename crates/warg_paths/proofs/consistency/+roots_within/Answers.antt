use Rattle.std.proofs.Common.{Some, refl, sym, ap, ◌∙◌, arith}
use Rattle.warg_paths.proofs.PathLemmas.{both_one, both_short, both_front, both_rest}
use Rattle.warg_paths.proofs.consistency.+roots_within.Goals as goal

pub returns-in_err-root : goal.returns-in_err-root
returns-in_err-root g t c =
    rw (
      c.if-old_length-new_length.true,
      both_one g.D.SupportedDigest.digest c.args.old_root c.args.new_length
          c.args.path.now,
      ← c.in_err-root.ensures,
    ) c.from_residual.ensures

pub returns-then-old_length-new_length : goal.returns-then-old_length-new_length
returns-then-old_length-new_length g t c =
    rw (
      c.if-old_length-new_length.true,
      both_one g.D.SupportedDigest.digest c.args.old_root c.args.new_length
          c.args.path.now,
      ← c.in_ok-root.ensures,
      c.copied.ensures,
    ) refl

pub returns-in_err-top : goal.returns-in_err-top
returns-in_err-top g t c = c.from_residual-in_err-top.ensures
    ∙ sym (both_short _ _ _ _ _ (omega arith) c.in_err-top.ensures.cases)

pub returns-in_err-old : goal.returns-in_err-old
returns-in_err-old g t c =
    rw (
      c.in_ok-top.ensures.cases.0,
      both_front g.D.SupportedDigest.digest c.args.old_root c.args.old_length
          c.args.new_length c.in_ok-top.top.now c.in_ok-top.below.now (omega arith)
          (rw (← c.front_of-front.ensures.value) c.if-old_length-front.true),
      ← c.front_of-front.ensures.value,
      ← c.in_err-old.ensures,
    )
    c.from_residual-in_err-old.ensures

pub returns-in_err-old-2 : goal.returns-in_err-old-2
returns-in_err-old-2 g t c =
    rw (
      c.in_ok-top.ensures.cases.0,
      both_rest g.D.SupportedDigest.digest c.args.old_root c.args.old_length
          c.args.new_length c.in_ok-top.top.now c.in_ok-top.below.now (omega arith)
          (rw (← c.front_of-front.ensures.value) c.if-old_length-front.false),
      ← c.front_of-front.ensures.value,
      ← c.in_err-old-2.ensures,
    )
    c.from_residual-in_err-old-2.ensures

pub returns-in_ok-old : goal.returns-in_ok-old
returns-in_ok-old g t c =
    rw (
      c.in_ok-top.ensures.cases.0,
      both_front g.D.SupportedDigest.digest c.args.old_root c.args.old_length
          c.args.new_length c.in_ok-top.top.now c.in_ok-top.below.now (omega arith)
          (rw (← c.front_of-front.ensures.value) c.if-old_length-front.true),
      ← c.front_of-front.ensures.value,
      ← c.in_ok-old.ensures,
    )
    (ap (λ r. Some (c.in_ok-old.old, r)) c.hash_branch.ensures)

pub returns-in_ok-old-2 : goal.returns-in_ok-old-2
returns-in_ok-old-2 g t c =
    rw (
      c.in_ok-top.ensures.cases.0,
      both_rest g.D.SupportedDigest.digest c.args.old_root c.args.old_length
          c.args.new_length c.in_ok-top.top.now c.in_ok-top.below.now (omega arith)
          (rw (← c.front_of-front.ensures.value) c.if-old_length-front.false),
      ← c.front_of-front.ensures.value,
      ← c.in_ok-old-2.ensures,
    )
    (rw (c.hash_branch-else-old_length-front.ensures, c.hash_branch-else-old_length-front-2.ensures) refl)
