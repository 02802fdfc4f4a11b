use Rattle.std.proofs.Common.{◌≡◌, ◌^◌, ◌*◌, ◌%◌, take, drop, ap, ◌∙◌, arith}
use Rattle.std.proofs.Math.Nat.{pow-suc}
use Rattle.warg_tiles.proofs.RootLemmas.{root_parts}
use Rattle.warg_tiles.proofs.root.+root_over.Goals as goal

pub returns : goal.returns
returns g t c =
    let whole : 1 * 2 ^ c.ilog2.result % 2 ^ 64 ≡ 2 ^ c.ilog2.result = omega (arith, c.ilog2.ensures.power_le) in
    let front = c.split_at.ensures.front ∙ ap (λ n. take n c.args.digests.now) whole in
    let rest = c.split_at.ensures.back ∙ ap (λ n. drop n c.args.digests.now) whole in
    rw (
      root_parts g.D.SupportedDigest.digest c.args.digests.now c.split_at.result.0.now c.split_at.result.1.now
          c.ilog2.result c.ilog2.ensures.power_le
          (omega (arith, c.ilog2.ensures.next_power_gt, pow-suc 2 c.ilog2.result)) (omega arith) front rest,
      ← c.root_over.ensures,
      ← c.root_over-2.ensures,
    ) c.hash_branch-2.ensures
