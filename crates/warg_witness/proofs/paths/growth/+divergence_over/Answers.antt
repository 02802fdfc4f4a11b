use Rattle.std.proofs.Common.{◌≡◌, ◌-◌, ◌∙◌, sym, ap, subst, reverse, None, arith}
use Rattle.warg_log.specs.Ranges.{front_part, rest_part}
use Rattle.warg_log.specs.Tree.{front_of, root_over}
use Rattle.warg_log.proofs.ForCallers.{counts}
use Rattle.warg_paths.proofs.ForCallers.{both_short}
use Rattle.warg_witness.specs.Ranges.{IsPart}
use Rattle.warg_witness.specs.Ranges.IsPart.{whole, front, rest}
use Rattle.warg_paths.specs.Ways.IsOnGrowth.{front as grown_front, rest as grown_rest}
use Rattle.warg_witness.specs.Private.Meeting.{descent}
use Rattle.warg_witness.proofs.RecordLemmas.{turned}
use Rattle.warg_witness.proofs.GrowthLemmas.{all_old, both_diverge, deeper, rest_leads, same_front, still_more}
use Rattle.warg_witness.proofs.paths.growth.+divergence_over.Goals as goal

pub divergence_below-requires-clause-same : goal.divergence_below-requires-clause-same
divergence_below-requires-clause-same g t c =
    let n = c.args.range.now.count in
    let all : c.args.old_count ≡ n = c.if-old_count-range.true ∙ counts c.range.view_is in
    ap (root_over g.D.SupportedDigest.digest c.args.trees.now.old c.args.range.now.start) (sym all)
    ∙ all_old g.D.SupportedDigest.digest c.args.old_root.now c.args.old_count n (reverse c.args.path.now) _ _ all
    c.requires.leads

pub returns-then-old_count-range : goal.returns-then-old_count-range
returns-then-old_count-range g t c =
    let a = c.args.range.now.start in
    let n = c.args.range.now.count in
    let all : c.args.old_count ≡ n = c.if-old_count-range.true ∙ counts c.range.view_is in
    both_diverge (descent c.args.old_root.now c.args.old_count c.args.range.now (reverse c.args.path.now))
    c.args.range.now c.divergence_below.result (subst (λ k. IsPart a k a n) (sym all) whole) whole
    c.divergence_below.ensures

pub unreachable-requires : goal.unreachable-requires
unreachable-requires g t c =
    let more = still_more c.requires.around c.requires.order c.if-old_count-range.false (counts c.range.view_is) in
    let none = both_short g.D.SupportedDigest.digest c.args.old_root.now c.args.old_count c.args.range.now.count
    c.args.path.now more.1 c.in_default.ensures.cases in
    let some = c.requires.leads in absurd (cc (none, some))

pub returns-in-Some-apart_in_front : goal.returns-in-Some-apart_in_front
returns-in-Some-apart_in_front g t c =
    rw (turned _ _ _ c.in-Some.ensures.cases.0) (c.in-Some-apart_in_front.ensures c.args.place)

pub returns-then-old_count-front : goal.returns-then-old_count-front
returns-then-old_count-front g t c =
    let more = still_more c.requires.around c.requires.order c.if-old_count-range.false (counts c.range.view_is) in
    let low = rw (counts (c.front.view_is ∙ c.split-front.ensures.front)) at c.if-old_count-front.true in
    rw (turned _ _ _ c.in-Some.ensures.cases.0) (deeper _ _ _ _ _ c.args.range.now c.in-Some.top.now
    (reverse c.in-Some.below.now) more.0 more.1 c.divergence_over.result
    (descent c.args.old_root.now c.args.old_count (front_part c.args.range.now) (reverse c.in-Some.below.now))
    (λ _ _ _ _ way. grown_front _ _ _ _ _ _ way more.1 low) whole (front _ _ whole more.2)
    (rw c.split-front.ensures.front at c.divergence_over.ensures))

pub apart_in_rest-requires-clause-leads : goal.apart_in_rest-requires-clause-leads
apart_in_rest-requires-clause-leads g t c =
    let more = still_more c.requires.around c.requires.order c.if-old_count-range.false (counts c.range.view_is) in
    let high = rw (counts (c.front.view_is ∙ c.split-front.ensures.front)) at c.if-old_count-front.false in
    rest_leads g.D.SupportedDigest.digest c.args.old_root.now c.args.old_count c.args.range.now.count
    (reverse c.args.path.now) c.in-Some.top.now (reverse c.in-Some.below.now) (turned _ _ _ c.in-Some.ensures.cases.0)
    more.1 high c.requires.leads

pub returns-in-Some-apart_in_rest : goal.returns-in-Some-apart_in_rest
returns-in-Some-apart_in_rest g t c =
    rw (turned _ _ _ c.in-Some.ensures.cases.0) (c.in-Some-apart_in_rest.ensures c.args.old_root.now c.args.place)

pub returns-then-place-rest : goal.returns-then-place-rest
returns-then-place-rest g t c =
    let more = still_more c.requires.around c.requires.order c.if-old_count-range.false (counts c.range.view_is) in
    let high = rw (counts (c.front.view_is ∙ c.split-front.ensures.front)) at c.if-old_count-front.false in
    let split = same_front c.args.old_count c.args.range.now.count more.2 high c.requires.order in
    both_diverge (descent c.args.old_root.now c.args.old_count c.args.range.now (reverse c.args.path.now))
    (front_part c.args.range.now) c.divergence_below-then-place-rest.result
    (rw split at (front c.args.range.now.start c.args.old_count whole (omega (arith, more, high))))
    (front _ _ whole more.2)
    (rw c.split-front.ensures.front at c.divergence_below-then-place-rest.ensures)

pub returns : goal.returns
returns g t c =
    let more = still_more c.requires.around c.requires.order c.if-old_count-range.false (counts c.range.view_is) in
    let turn = counts (c.front.view_is ∙ c.split-front.ensures.front) in
    let high = rw turn at c.if-old_count-front.false in
    let split = same_front c.args.old_count c.args.range.now.count more.2 high c.requires.order in
    rw (turned _ _ _ c.in-Some.ensures.cases.0) (deeper _ _ _ _ _ c.args.range.now c.in-Some.top.now
    (reverse c.in-Some.below.now) more.0 more.1 c.divergence_over-2.result
    (descent None (c.args.old_count - front_of c.args.range.now.count) (rest_part c.args.range.now)
    (reverse c.in-Some.below.now)) (λ _ _ _ _ way. grown_rest _ _ _ _ _ _ way more.1 high)
    (rw split at (rest c.args.range.now.start c.args.old_count whole (omega (arith, more, high))))
    (rest _ _ whole more.2)
    (rw (c.split-front.ensures.rest, turn) at c.divergence_over-2.ensures))
