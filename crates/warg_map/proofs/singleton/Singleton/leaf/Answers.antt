use Rattle.std.proofs.Common.{◌≡◌, ◌≤◌, arith}
use Rattle.warg_map.specs.declared.singleton.Kept.{Kept}
use Rattle.warg_map.specs.Private.Lone.{IsKept}
use Rattle.warg_map.proofs.StemRoots.{root-leaf}
use Rattle.warg_map.proofs.singleton.Singleton.leaf.Goals as goal

pub invariant_of-result : goal.invariant_of-result
invariant_of-result g c =
    let of_leaf : (k : Kept _) → k ≡ record { digest = c.args.value; height = 0 } → (k.height ≤ 256)
    × IsKept g.D.SupportedDigest.digest c.args.key c.args.value k = λ k e.
    rw e (omega arith, root-leaf g.D.SupportedDigest.digest c.args.value c.args.key) in
    let twelve = of_leaf _ c.leaf-twelve_below.ensures in
    let four = of_leaf _ c.leaf-four_below.ensures in
    (omega arith, twelve.0, twelve.1, four.0, four.1)
