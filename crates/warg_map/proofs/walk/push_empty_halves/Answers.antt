use Rattle.std.proofs.Common.{suc, refl, ◌≡◌, ◌+◌, ◌-◌, Some, sym, ap, ◌∙◌, arith}
use Rattle.std.proofs.lemmas.Option.{cond_some}
use Rattle.warg_map.specs.Private.Walk.{empty_halves}
use Rattle.std.proofs.lemmas.List.{append-nil, append_assoc}
use Rattle.warg_map.proofs.walk.push_empty_halves.Goals as goal
use Rattle.warg_map.proofs.walk.push_empty_halves.Goals.{then-held, else-held, in-Some, in-None}

pub loop-height-init : goal.loop-height-init
unfolding empty_halves
loop-height-init g c =
    let z : c.args.from - c.args.from ≡ 0 = omega arith in record {
      peers = rw (z, append-nil) refl;
      half = elim c.if-held.branch [
        | then-held w ↦ w.half-is
            ∙ rw w.if-held.true (ap Some w.empty_tree.ensures)
        | else-held w ↦ rw w.if-held.false w.half-is
      ];
    }

pub loop-height-preserved : goal.loop-height-preserved
unfolding empty_halves
loop-height-preserved g c =
    let H = g.D.SupportedDigest.digest in
    let at : c.args.from + (c.loop-height.height - c.args.from) ≡ c.loop-height.height = omega arith in
    let next : c.loop-height.height + 1 - c.args.from ≡ suc (c.loop-height.height - c.args.from) = omega arith in
    record {
      peers = rw (
        next,
        at,
        ← append_assoc,
        c.in_ok-push.ensures.items,
        c.replace.ensures.value,
        c.loop-height.invariant.half,
        c.loop-height.invariant.peers,
      ) refl;
      half = c.replace.ensures.after ∙ elim c.match-half.branch [
        | in-Some w ↦ (let yes = cond_some c.args.held _ _ (sym c.loop-height.invariant.half ∙ w.in-Some.is) in
            w.above-is ∙ rw yes.0 (ap Some w.empty_above.ensures))
        | in-None w ↦ grind (arith, w.above-is, c.loop-height.invariant.half, w.in-None.is)
      ];
    }
