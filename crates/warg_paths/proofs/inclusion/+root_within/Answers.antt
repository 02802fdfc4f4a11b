use Rattle.std.proofs.Common.{Some, sym, ap, ◌∙◌, arith}
use Rattle.std.proofs.lemmas.Bool.{eqb-true, eqb-false}
use Rattle.warg_paths.proofs.PathLemmas.{root_one, root_long, root_short, root_front, root_rest}
use Rattle.warg_paths.proofs.inclusion.+root_within.Goals as goal

pub returns-then-is_empty : goal.returns-then-is_empty
returns-then-is_empty g t c = rw c.if-length-eq1.true
    (ap Some c.copied.ensures ∙ sym (root_one _ _ _ _ (eqb-true _ _ (sym (c.if-is_empty.ensures)))))

pub returns-else-is_empty : goal.returns-else-is_empty
returns-else-is_empty g t c = rw c.if-length-eq1.true
    (sym (root_long _ _ _ _ (eqb-false _ _ (sym (c.if-is_empty.ensures)))))

pub returns-in_err-top : goal.returns-in_err-top
returns-in_err-top g t c = c.from_residual.ensures ∙ sym (root_short _ _ _ _ _ (omega arith) c.in_err-top.ensures.cases)

pub returns-in_err-root : goal.returns-in_err-root
returns-in_err-root g t c =
    rw (
      c.in_ok-top.ensures.cases.0,
      root_front g.D.SupportedDigest.digest c.args.index c.args.length c.args.leaf.now
          c.in_ok-top.top.now c.in_ok-top.below.now (omega arith)
          (rw (← c.front_of-front.ensures.value) c.if-index-front.true),
      ← c.front_of-front.ensures.value,
      ← c.in_err-root.ensures,
    )
    c.from_residual-in_err-root.ensures

pub returns-then-index-front : goal.returns-then-index-front
returns-then-index-front g t c =
    rw (
      c.in_ok-top.ensures.cases.0,
      root_front g.D.SupportedDigest.digest c.args.index c.args.length c.args.leaf.now
          c.in_ok-top.top.now c.in_ok-top.below.now (omega arith)
          (rw (← c.front_of-front.ensures.value) c.if-index-front.true),
      ← c.front_of-front.ensures.value,
      ← c.in_ok-root.ensures,
    )
    (ap Some c.hash_branch.ensures)

pub returns-in_err-root-2 : goal.returns-in_err-root-2
returns-in_err-root-2 g t c =
    rw (
      c.in_ok-top.ensures.cases.0,
      root_rest g.D.SupportedDigest.digest c.args.index c.args.length c.args.leaf.now
          c.in_ok-top.top.now c.in_ok-top.below.now (omega arith)
          (rw (← c.front_of-front.ensures.value) c.if-index-front.false),
      ← c.front_of-front.ensures.value,
      ← c.in_err-root-2.ensures,
    )
    c.from_residual-in_err-root-2.ensures

pub returns : goal.returns
returns g t c =
    rw (
      c.in_ok-top.ensures.cases.0,
      root_rest g.D.SupportedDigest.digest c.args.index c.args.length c.args.leaf.now
          c.in_ok-top.top.now c.in_ok-top.below.now (omega arith)
          (rw (← c.front_of-front.ensures.value) c.if-index-front.false),
      ← c.front_of-front.ensures.value,
      ← c.in_ok-root-2.ensures,
    )
    (ap Some c.hash_branch-2.ensures)
