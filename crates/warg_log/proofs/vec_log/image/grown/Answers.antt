use Rattle.std.proofs.Common.{arith, ap, ◌∙◌, length, take, sym, refl, eq-eqb}
use Rattle.std.proofs.lemmas.List.{length-take-le}
use Rattle.warg_protobuf.specs.Decoding.{digest_fault}
use Rattle.warg_protobuf.proofs.ForCallers.{fault_after}
use Rattle.warg_log.proofs.AppendLemmas.{leaves_more}
use Rattle.warg_log.proofs.TreeLemmas.{leaves_count}
use Rattle.warg_log.proofs.vec_log.image.grown.Goals as goal
use Rattle.warg_log.proofs.vec_log.image.grown.Goals.{then-place-eq0+in_ok-push_leaf, else-place-eq0}

pub push_leaf-requires : goal.push_leaf-requires
push_leaf-requires g c = omega (
  arith,
  ap length c.places.invariant.grown,
  leaves_count (take c.places.place c.args.tree.now),
  length-take-le c.places.place c.args.tree.now (omega arith),
)

pub places-preserved : goal.places-preserved
places-preserved g c =
    let more = leaves_more c.args.tree.now c.places.place c.index-tree-place.result c.places-test.true
    c.index-tree-place.is in
    record {
      grown = elim c.if-place-eq0.branch [
        | then-place-eq0+in_ok-push_leaf w ↦ rw (
          w.log-is,
          w.in_ok-push_leaf.ensures.ok,
          c.places.invariant.grown,
          c.in_ok-hash.ensures.ok,
          c.as_slice.ensures,
        )
            (sym (more.0 w.if-place-eq0.true))
        | else-place-eq0 w ↦ rw (w.log-is, c.places.invariant.grown) (sym (more.1 (omega arith)))
      ];
      good = c.places.invariant.good ∙ fault_after digest_fault c.args.tree.now c.places.place c.index-tree-place.result
          c.places-test.true c.index-tree-place.is
          (rw (eq-eqb (length c.index-tree-place.result) 32
          (rw c.as_slice.ensures at (c.in_ok-hash.ensures.exactly.0 refl))) refl);
    }
