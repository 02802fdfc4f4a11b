use Rattle.std.proofs.Common.{◌≡◌, sym, ap, Some, ◌∙◌}
use Rattle.std.proofs.lemmas.Bool.{false≢true}
use Rattle.warg_log.specs.Ranges.{front_part, rest_part}
use Rattle.warg_log.specs.Cut.{joined, old_over}
use Rattle.warg_log.proofs.CutLemmas.{old_full, old_split}
use Rattle.warg_log.proofs.leaf_range.+stored_root.Goals as goal
use Rattle.warg_log.proofs.leaf_range.+stored_root.Goals.{Else-is_full}

pub returns-then-is_full-clause-root : goal.returns-then-is_full-clause-root
returns-then-is_full-clause-root g t c = rw (c.hash_for.ensures, c.over.ensures)
    (sym (old_full g.D.SupportedDigest.digest _ _ (c.is_full.ensures.full.0 c.if-is_full.true)))

parts : (g : _) (t : _) (c : Else-is_full g t)
    → let old = old_over g.D.SupportedDigest.digest (g.L.LogData.digest_at c.args.hashes.now) in
    old c.args.range.now
    ≡ joined g.D.SupportedDigest.digest (old (front_part c.args.range.now)) (old (rest_part c.args.range.now))
parts g t c = old_split g.D.SupportedDigest.digest _ _ c.is_full.ensures.some
    (λ full. false≢true (sym c.if-is_full.false ∙ c.is_full.ensures.full.1 full))

pub returns-in_err-left-clause-root : goal.returns-in_err-left-clause-root
returns-in_err-left-clause-root g t c = rw (
  parts g t (goal.at.returns-in_err-left-clause-root g t c).Else-is_full,
  ← (rw c.split-front.ensures.front at c.in_err-left.ensures.root),
) c.from_residual.ensures

pub returns-in_err-right-clause-root : goal.returns-in_err-right-clause-root
returns-in_err-right-clause-root g t c = rw (
  parts g t (goal.at.returns-in_err-right-clause-root g t c).Else-is_full,
  ← (rw c.split-front.ensures.front at c.in_ok-left.ensures.root),
  ← (rw c.split-front.ensures.rest at c.in_err-right.ensures.root),
) c.from_residual-in_err-right.ensures

pub returns-clause-root : goal.returns-clause-root
returns-clause-root g t c = rw (
  parts g t (goal.at.returns-clause-root g t c).Else-is_full,
  ← (rw c.split-front.ensures.front at c.in_ok-left.ensures.root),
  ← (rw c.split-front.ensures.rest at c.in_ok-right.ensures.root),
) (ap Some c.hash_branch.ensures)
