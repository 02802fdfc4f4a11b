use Rattle.std.proofs.Common.{ap, subst}
use Rattle.std.specs.Iterator.{Yields}
use Rattle.warg_map.specs.Sparse.{inserted}
use Rattle.warg_map.specs.Private.Grown.{with_leaves}
use Rattle.warg_map.proofs.InsertedPairs.{inserted-pair}
use Rattle.warg_map.proofs.ManyLeaves.{with_leaves-push}
use Rattle.warg_map.proofs.map.leaves_of.Goals as goal

pub loop-key-init : goal.loop-key-init
unfolding with_leaves inserted
loop-key-init g c = λ m. ap (with_leaves 256 m) c.new-leaves.ensures.items

pub loop-key-preserved : goal.loop-key-preserved
loop-key-preserved g c = λ m.
    let more = inserted-pair g.D.SupportedDigest.digest g.K.VisitBytes.bytes g.V.VisitBytes.bytes m c.loop-key.yielded
    (c.in-Some.key, c.in-Some.value) in
    rw (
      more,
      ← c.loop-key.invariant m,
      c.in_ok-push.ensures.items,
      with_leaves-push 256 m c.loop-key.leaves.items c.of.result,
      c.of.ensures.key,
      c.of.ensures.value,
    )

pub returns : goal.returns
returns g c = (
  c.loop-key.yielded,
  (
    c.next.new.self,
    (
      c.loop-key.key-iterator,
      subst (λ (it : _). Yields g.I.Iterator.next_gives it c.loop-key.yielded c.loop-key.key-iterator)
          c.into_iter-key-iterator.ensures.into_iter_gives c.loop-key.yielded_by,
      c.in-None.ensures.steps,
    ),
  ),
  c.loop-key.invariant,
)
