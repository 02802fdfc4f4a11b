use Rattle.std.proofs.Common.{◌∙◌, ap}
use Rattle.warg_map.specs.Private.Lone.{Lone, held_alone}
use Rattle.warg_map.specs.Sparse.{sparse_root}
use Rattle.warg_map.proofs.StemRoots.{root-kept}
use Rattle.warg_map.proofs.singleton.Singleton.hash.Goals as goal

pub returns : goal.returns
returns g c =
    let H = g.D.SupportedDigest.digest in
    let s = c.self.inside in
    let k = c.self.invariant in
    c.stem_digest.ensures ∙ root-kept H s.value s.key s.four_below.height s.height k.0 k.3 k.4
    ∙ ap (λ (l : Lone). sparse_root H l.height (held_alone l)) c.self.view_is
