use Rattle.warg_map.specs.declared.map.MapError.TheVariants.{Full}
use Rattle.std.proofs.Common.{◌≡◌, Err, refl, subst, rules}
use Rattle.std.specs.Iterator.{Yields}
use Rattle.std.proofs.iter.Next.{Yields-more}
use Rattle.warg_map.specs.Sparse.{inserted}
use Rattle.warg_map.proofs.InsertedPairs.{inserted-pair}
use Rattle.warg_map.proofs.map.Map.extended.Goals as goal

pub loop-key-init : goal.loop-key-init
unfolding inserted
loop-key-init g c = refl

pub returns-in_err-all-clause-full : goal.returns-in_err-all-clause-full
returns-in_err-all-clause-full g c = λ full.
    let e : Err c.in_err-all.field-0.0 ≡ Err Full = search rules in
    let h = c.in_err-all.ensures.full.0 e in (
      c.loop-key.yielded,
      (c.in-Some.key, c.in-Some.val),
      c.next.new.self,
      Yields-more g.I.Iterator.next_gives c.args.iter c.loop-key.yielded c.loop-key.key-iterator
          (c.in-Some.key, c.in-Some.val) c.next.new.self
          (subst (λ (it : _). Yields g.I.Iterator.next_gives it c.loop-key.yielded c.loop-key.key-iterator)
          c.into_iter-key-iterator.ensures.into_iter_gives c.loop-key.yielded_by) c.in-Some.ensures.steps,
      rw (← c.loop-key.invariant) h.0,
      rw (← c.loop-key.invariant) h.1,
    )

pub loop-key-preserved : goal.loop-key-preserved
loop-key-preserved g c =
    let more = inserted-pair g.D.SupportedDigest.digest g.K.VisitBytes.bytes g.V.VisitBytes.bytes c.args.self
    c.loop-key.yielded (c.in-Some.key, c.in-Some.val) in
    rw (more, ← c.loop-key.invariant) c.in_ok-all.ensures.ok

pub returns-clause-ok : goal.returns-clause-ok
returns-clause-ok g c = (
  c.loop-key.yielded,
  (
    c.next.new.self,
    (
      c.loop-key.key-iterator,
      subst (λ (it : _). Yields g.I.Iterator.next_gives it c.loop-key.yielded c.loop-key.key-iterator)
          c.into_iter-key-iterator.ensures.into_iter_gives c.loop-key.yielded_by,
      c.in-None.ensures.steps,
    ),
  ),
  c.loop-key.invariant,
)
