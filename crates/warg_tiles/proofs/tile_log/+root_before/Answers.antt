use Rattle.std.proofs.Common.{◌≡◌, ◌*◌, ◌^◌, ◌%◌, take, drop, ap, ◌∙◌, arith}
use Rattle.std.proofs.Math.Nat.{pow-suc}
use Rattle.warg_tiles.proofs.ChunkLemmas.{root_behind}
use Rattle.warg_tiles.proofs.tile_log.+root_before.Goals as goal

pub returns : goal.returns
returns g t c =
    let whole : 1 * 2 ^ c.ilog2.result % 2 ^ 64 ≡ 2 ^ c.ilog2.result = omega (arith, c.ilog2.ensures.power_le) in
    let front = c.split_at.ensures.front ∙ ap (λ n. take n c.args.digests.now) whole in
    let rest = c.split_at.ensures.back ∙ ap (λ n. drop n c.args.digests.now) whole in
    root_behind g.D.SupportedDigest.digest c.args.digests.now c.split_at.result.0.now c.split_at.result.1.now
    c.args.last c.root_over.result c.root_before.result c.hash_branch.result c.ilog2.result
    (omega (arith, c.ilog2.ensures.power_le)) (omega (arith, c.ilog2.ensures.next_power_gt, pow-suc 2 c.ilog2.result))
    front rest c.root_over.ensures c.root_before.ensures c.hash_branch.ensures
