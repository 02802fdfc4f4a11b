use Rattle.std.proofs.Common.{◌≡◌, ◌+◌, ◌-◌, ◌∙◌, arith}
use Rattle.std.proofs.lemmas.Result.{on_ok_weaker}
use Rattle.warg_map.proofs.StemRoots.{root-stem}
use Rattle.warg_map.proofs.walk.collect_beside.Goals as goal

pub returns-clause-peers : goal.returns-clause-peers
returns-clause-peers g c =
    let s = c.args.stem.now in
    let z : 256 - (c.args.stem.now.from + (c.args.shared + 1) + (c.args.stem.now.len - (c.args.shared + 1)))
    ≡ c.args.stem.now.below.0 = omega (arith, c.requires.level, c.requires.shared) in
    let far = c.stem_digest-far.ensures ∙ root-stem g.D.SupportedDigest.digest s.key
    (s.from + (c.args.shared + 1)) (s.len - (c.args.shared + 1)) s.below.1 z c.hash-below.ensures in
    on_ok_weaker c.push_beside.result (λ added. rw (c.requires.none, far) at added) c.push_beside.ensures
