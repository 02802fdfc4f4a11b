use Rattle.std.proofs.Common.{◌≡◌, [], refl, arith, below_more}
use Rattle.std.specs.Cmp.Lexicographic.{bytes_decides}
use Rattle.std.proofs.lemmas.List.{ext_get_or, get_or_default}
use Rattle.warg_log.proofs.vec_log.image.are_digests.Goals as goal

pub places-preserved : goal.places-preserved
places-preserved g c = below_more _ _ c.places.invariant (
    let same : c.as_slice.result.now ≡ c.bytes.result.now =
    grind (arith, bytes_decides c.as_slice.result.now c.bytes.result.now) in
    let digest = get_or_default c.args.digests.now c.places.place c.index-digests-place.result [] c.places-test.true in
    let hash = get_or_default c.args.tree.now c.places.place c.index-tree-place.result [] (omega arith) in
    cc)

pub returns : goal.returns
returns g c = (λ _. ext_get_or [] _ _ (omega arith) (λ i lt. c.places.invariant i (omega arith)), λ _. refl)
