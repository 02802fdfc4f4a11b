use Rattle.std.proofs.Common.{◌<◌, ◌∙◌, sym, reverse, arith}
use Rattle.warg_log.proofs.ForCallers.{starts, counts}
use Rattle.warg_witness.proofs.RangeLemmas.{front_aligned, rest_aligned}
use Rattle.warg_witness.proofs.GrowthLemmas.{match_apart, new_apart, old_apart, rest_is_led, rest_led, same_front}
use Rattle.warg_paths.proofs.ForCallers.{rest_takes}
use Rattle.warg_witness.proofs.paths.growth.apart_in_rest.Goals as goal

pub unreachable-requires : goal.unreachable-requires
unreachable-requires g c =
    let turn = counts (c.front.view_is ∙ c.split-front.ensures.front) in
    rest_is_led _ _ _ _ _ c.args.below.now (omega (arith, c.requires.in_rest)) c.requires.order c.requires.leads turn
    (counts (c.old_rest.view_is ∙ c.new-old_rest.ensures)) (counts (c.rest.view_is ∙ c.split-front.ensures.rest))
    (rw turn c.requires.in_rest) (sym c.roots_of_subproof.ensures ∙ c.in_default.is)

pub branches_apart-requires-clause-rest_aligned : goal.branches_apart-requires-clause-rest_aligned
branches_apart-requires-clause-rest_aligned g c =
    let rest = c.rest.view_is ∙ c.split-front.ensures.rest in
    rw (c.new-old_rest.ensures, starts rest)
    (front_aligned (rest_aligned c.requires.aligned c.requires.more)
    (omega (arith, counts (c.front.view_is ∙ c.split-front.ensures.front))))

pub returns-in-Some-branches_apart : goal.returns-in-Some-branches_apart
returns-in-Some-branches_apart g c = λ known place.
    let some : 0 < c.args.old_count = omega (arith, c.requires.in_rest) in
    let turn = counts (c.front.view_is ∙ c.split-front.ensures.front) in
    let rest_is = c.rest.view_is ∙ c.split-front.ensures.rest in
    let led = rest_led _ _ _ _ _ c.args.below.now some c.requires.order c.requires.leads turn
    (counts (c.old_rest.view_is ∙ c.new-old_rest.ensures)) (counts rest_is) (rw turn c.requires.in_rest)
    c.in-Some.ensures in
    let split = same_front c.args.old_count c.args.range.now.count c.requires.more c.requires.in_rest (omega arith) in
    let apart = rw (c.split-front.ensures.front, c.new-old_rest.ensures, starts rest_is, turn, ← split)
    at c.in-Some-branches_apart.ensures in
    old_apart _ _ place known _ c.args.range.now _ _ some c.requires.order c.requires.in_rest c.requires.in_old
    led.3 led.1
    apart

pub returns : goal.returns
returns g c =
    let H = g.D.SupportedDigest.digest in
    let some : 0 < c.args.old_count = omega (arith, c.requires.in_rest) in
    let turn = counts (c.front.view_is ∙ c.split-front.ensures.front) in
    let rest_is = c.rest.view_is ∙ c.split-front.ensures.rest in
    let led = rest_led _ _ _ _ _ c.args.below.now some c.requires.order c.requires.leads turn
    (counts (c.old_rest.view_is ∙ c.new-old_rest.ensures)) (counts rest_is) (rw turn c.requires.in_rest)
    c.in-Some.ensures in
    let old = rw (c.split-front.ensures.front, c.new-old_rest.ensures, starts rest_is, turn)
    at c.in_default-branches_apart.ensures in
    match_apart c.branches_apart-2.result (λ same. (sym old.0 ∙ same.0, rw (old.1, same.1) at led.0))
    (λ _ apart known place. new_apart _ _ place known _ c.args.range.now _ _ some c.requires.order c.requires.in_new
    (rest_takes H known _ _ _ (reverse c.args.below.now) _ _ c.requires.in_rest led.0) led.2 apart)
    (rw (c.split-front.ensures.front, c.split-front.ensures.rest) at c.branches_apart-2.ensures)
