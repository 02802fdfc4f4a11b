use Rattle.warg_map.specs.declared.map.MapError.TheVariants.{Full}
use Rattle.std.proofs.Common.{◌≡◌, [], ◌∷◌, Err, refl, rules}
use Rattle.std.proofs.lemmas.Result.{IfOk-weaker}
use Rattle.warg_map.specs.Sparse.{inserted}
use Rattle.warg_map.proofs.map.Map.extend.Goals as goal

pub returns-in_default-clause-ok : goal.returns-in_default-clause-ok
unfolding inserted
returns-in_default-clause-ok g c = (
  [],
  (c.next.new.self, (c.args.iter, refl, c.in_default.ensures.steps)),
  c.in_ok-clone.ensures.cases,
)

pub returns-in_err-insert-clause-full : goal.returns-in_err-insert-clause-full
unfolding inserted
returns-in_err-insert-clause-full g c = λ full.
    let e : Err c.in_err-insert.field-0.0 ≡ Err Full = search rules in
    let h = c.in_err-insert.ensures.full.0 e in
    ([], (c.in-Some.key, c.in-Some.val), c.next.new.self, (c.next.new.self, c.in-Some.ensures.steps, refl), h.0, h.1)

pub returns-clause-ok : goal.returns-clause-ok
unfolding inserted
returns-clause-ok g c =
    IfOk-weaker c.extended.result _ _ (λ m p. (
      (c.in-Some.key, c.in-Some.val) ∷ p.0,
      (p.1.0, (p.1.1.0, (c.next.new.self, c.in-Some.ensures.steps, p.1.1.1), p.1.1.2)),
      rw c.in_ok-insert.ensures.ok at p.2,
    )) c.extended.ensures.ok

pub returns-clause-full : goal.returns-clause-full
unfolding inserted
returns-clause-full g c = λ full.
    let p = c.extended.ensures.full full in (
      (c.in-Some.key, c.in-Some.val) ∷ p.0,
      p.1,
      p.2,
      (c.next.new.self, c.in-Some.ensures.steps, p.3),
      rw c.in_ok-insert.ensures.ok at p.4,
      rw c.in_ok-insert.ensures.ok at p.5,
    )
