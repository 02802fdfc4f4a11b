use Rattle.std.proofs.Common.{◌≡◌, sym, ap, Some, ◌∙◌}
use Rattle.std.proofs.lemmas.Bool.{false≢true}
use Rattle.warg_log.specs.Ranges.{front_part, rest_part}
use Rattle.warg_log.specs.Cut.{with_target, joined, cut_over}
use Rattle.warg_log.proofs.CutLemmas.{cut_found, cut_read, cut_split}
use Rattle.warg_log.proofs.branches.+range_root_by.Goals as goal
use Rattle.warg_log.proofs.branches.+range_root_by.Goals.{Else-is_read}

pub returns-then-eq : goal.returns-then-eq
returns-then-eq g t c = rw (cut_found g.D.SupportedDigest.digest _ _ c.args.hash.now _
    (sym c.eq.ensures ∙ c.if-eq.true))
    (ap Some c.copied.ensures)

pub returns-then-is_read : goal.returns-then-is_read
returns-then-is_read g t c = rw (c.hash_for.ensures, c.over.ensures)
    (sym (cut_read g.D.SupportedDigest.digest _ _ _ _ (sym c.eq.ensures ∙ c.if-eq.false)
    (c.is_read.ensures.read.0 c.if-is_read.true)))

parts : (g : _) (t : _) (c : Else-is_read g t)
    → let H = g.D.SupportedDigest.digest in
    let e = with_target (g.L.LogData.digest_at c.args.hashes.now) c.args.target.now c.args.hash.now in
    cut_over H e c.args.range.now
    ≡ joined H (cut_over H e (front_part c.args.range.now)) (cut_over H e (rest_part c.args.range.now))
parts g t c = cut_split g.D.SupportedDigest.digest _ _ _ _ c.is_read.ensures.some (sym c.eq.ensures ∙ c.if-eq.false)
    (λ read. false≢true (sym c.if-is_read.false ∙ c.is_read.ensures.read.1 read))

pub returns-in_err-left : goal.returns-in_err-left
returns-in_err-left g t c = rw (
  parts g t (goal.at.returns-in_err-left g t c).Else-is_read,
  ← (rw c.split-front.ensures.front at c.in_err-left.ensures),
) c.from_residual.ensures

pub returns-in_err-right : goal.returns-in_err-right
returns-in_err-right g t c = rw (
  parts g t (goal.at.returns-in_err-right g t c).Else-is_read,
  ← (rw c.split-front.ensures.front at c.in_ok-left.ensures),
  ← (rw c.split-front.ensures.rest at c.in_err-right.ensures),
) c.from_residual-in_err-right.ensures

pub returns : goal.returns
returns g t c = rw (
  parts g t (goal.at.returns g t c).Else-is_read,
  ← (rw c.split-front.ensures.front at c.in_ok-left.ensures),
  ← (rw c.split-front.ensures.rest at c.in_ok-right.ensures),
) (ap Some c.join_parts.ensures)
