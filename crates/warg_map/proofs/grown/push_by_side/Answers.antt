use Rattle.std.proofs.Common.{◌≡◌, [], not, refl, sym, ap, ◌∙◌}
use Rattle.std.proofs.lemmas.List.{append-nil}
use Rattle.warg_crypto.specs.Sides.{side_bit}
use Rattle.warg_map.specs.Bits.{bit_at}
use Rattle.warg_map.specs.Private.Grown.{on_side}
use Rattle.warg_map.proofs.SideBits.{same_bit, other_bit}
use Rattle.warg_map.proofs.ManyLeaves.{push_near, push_far}
use Rattle.warg_map.proofs.grown.push_by_side.Goals as goal

pub returns-then-eq : goal.returns-then-eq
unfolding on_side
returns-then-eq g c =
    let bit = ap (λ k. bit_at k c.args.at) (sym c.key.ensures) ∙ sym c.side_at.ensures
    ∙ same_bit _ _ (ap not (sym c.eq.ensures ∙ c.if-eq.true)) in
    let one = push_near c.args.at (side_bit c.args.side) [] c.args.leaf bit in
    (rw (one.0, c.in_ok-push.ensures.items) refl, rw (one.1, append-nil) refl)

pub returns : goal.returns
unfolding on_side
returns g c =
    let bit : ¬ (bit_at c.args.leaf.key c.args.at ≡ side_bit c.args.side) =
    λ h. other_bit _ _ (ap not (sym c.eq.ensures ∙ c.if-eq.false))
    (c.side_at.ensures ∙ ap (λ k. bit_at k c.args.at) c.key.ensures ∙ h) in
    let one = push_far c.args.at (side_bit c.args.side) [] c.args.leaf bit in
    (rw (one.0, append-nil) refl, rw (one.1, c.in_ok-push-2.ensures.items) refl)
