use Rattle.std.proofs.Common.{◌≡◌, ◌+◌, ◌-◌, ap, ◌∙◌, arith}
use Rattle.warg_crypto.specs.EmptyTrees.{empty_root}
use Rattle.warg_map.specs.Bits.{bits_from}
use Rattle.warg_map.specs.Private.Under.{stem_root}
use Rattle.warg_map.proofs.BitsInFront.{stem_root-more}
use Rattle.warg_map.proofs.node.stem_digest.Goals as goal

pub loop-above-init : goal.loop-above-init
unfolding stem_root bits_from
loop-above-init g c =
    let z : 256 - (c.args.from + c.args.len) ≡ 256 - (c.args.from + c.args.len) + 0 = omega arith in
    (c.copied-hash.ensures, c.empty_tree-empty.ensures ∙ ap (empty_root g.D.SupportedDigest.digest) z)

pub loop-above-preserved : goal.loop-above-preserved
loop-above-preserved g c =
    let k = 256 - (c.args.from + c.args.len) in
    let n = c.loop-above.above in
    let i = c.args.from + (c.args.len - (n + 1)) in
    let up : c.args.from + (c.args.len - n) ≡ i + 1 = omega arith in
    let at : c.args.from + (c.args.len - 1 - n) ≡ i = omega arith in
    let z : k + n + 1 ≡ k + (n + 1) = omega arith in (
      rw (
        c.branch-hash.ensures,
        c.side_at.ensures,
        at,
        c.loop-above.invariant.1,
        c.loop-above.invariant.0,
        up,
        stem_root-more g.D.SupportedDigest.digest k c.args.below.now c.args.key.now i n,
      ),
      rw (c.empty_above-empty.ensures, z),
    )
