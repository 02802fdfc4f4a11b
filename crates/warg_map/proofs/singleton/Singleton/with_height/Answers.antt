use Rattle.warg_map.specs.Private.Lone.{IsKept}
use Rattle.warg_map.proofs.StemRoots.{root-leaf}
use Rattle.warg_map.proofs.singleton.Singleton.with_height.Goals as goal

pub invariant_of-result : goal.invariant_of-result
invariant_of-result g c =
    let H = g.D.SupportedDigest.digest in
    let s = c.self.inside in
    let k = c.self.invariant in
    let leaf : IsKept H s.key s.value c.leaf-leaf.result = rw c.leaf-leaf.ensures (root-leaf H s.value s.key) in
    let twelve = c.for_top-twelve_below.ensures.digest s.value k.2 leaf in
    let four = c.for_top-four_below.ensures.digest s.value k.4 twelve in
    rw (c.copied.ensures, c.copied-2.ensures) (
      c.requires,
      c.for_top-twelve_below.ensures.height,
      twelve,
      c.for_top-four_below.ensures.height,
      four,
    )
