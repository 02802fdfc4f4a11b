use Rattle.std.proofs.Common.{◌<◌, ◌∙◌, sym, arith}
use Rattle.warg_log.proofs.ForCallers.{counts, front_is_greatest}
use Rattle.warg_witness.proofs.GrowthLemmas.{front_is_led, front_led, match_apart, new_apart}
use Rattle.warg_witness.proofs.paths.growth.apart_in_front.Goals as goal

pub unreachable-requires : goal.unreachable-requires
unreachable-requires g c =
    let f = front_is_greatest c.args.range.now.count c.requires.more in
    let less : c.args.old_count < c.args.range.now.count = omega (arith, f.1) in
    let turn = counts (c.front.view_is ∙ c.split-front.ensures.front) in
    front_is_led _ _ _ _ _ c.args.below.now c.requires.some less c.requires.leads turn (rw turn c.requires.in_front)
    (rw c.copy_of.ensures at (sym c.roots_of_subproof-led.ensures ∙ c.in_default.is))

pub returns : goal.returns
returns g c =
    let f = front_is_greatest c.args.range.now.count c.requires.more in
    let less : c.args.old_count < c.args.range.now.count = omega (arith, f.1) in
    let turn = counts (c.front.view_is ∙ c.split-front.ensures.front) in
    let led = front_led _ _ _ _ _ c.args.below.now c.requires.some less c.requires.leads turn
    (rw turn c.requires.in_front)
    (rw c.copy_of.ensures at c.in-Some.ensures) in
    match_apart c.branches_apart.result (λ same. rw same.0 at led.0)
    (λ _ apart place. new_apart _ _ place _ _ c.args.range.now _ _ c.requires.some less c.requires.in_new led.2
    led.1 apart)
    (rw (c.split-front.ensures.front, c.split-front.ensures.rest) at c.branches_apart.ensures)
