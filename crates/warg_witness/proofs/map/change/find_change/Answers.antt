use Rattle.std.proofs.Common.{◌≡◌, [], ◌∷◌, ◌++◌, ◌∙◌, ap}
use Rattle.warg_map.specs.Sparse.{pair_bytes}
use Rattle.warg_witness.specs.declared.map.plain.Lent.{Lent}
use Rattle.warg_witness.proofs.ChangeLemmas.{with_one}
use Rattle.warg_witness.proofs.map.change.find_change.Goals as goal
use Rattle.warg_witness.proofs.map.change.find_change.Goals.{After-deref-2}

-- the lists that are compared
compared : (g : _) (c : After-deref-2 g)
    → let kb = λ (k : Lent _). g.K.VisitBytes.bytes k.0.now in
    let vb = λ (v : Lent _). g.V.VisitBytes.bytes v.0.now in
    (pair_bytes kb vb c.deref.result.now ≡ pair_bytes g.K.VisitBytes.bytes g.V.VisitBytes.bytes c.args.old.now
    ++ (g.K.VisitBytes.bytes c.args.key.now, g.V.VisitBytes.bytes c.args.value.now) ∷ [])
    × (pair_bytes kb vb c.deref-2.result.now ≡ pair_bytes g.K.VisitBytes.bytes g.V.VisitBytes.bytes c.args.new.now)
compared g c =
    let kb = λ (k : Lent _). g.K.VisitBytes.bytes k.0.now in
    let vb = λ (v : Lent _). g.V.VisitBytes.bytes v.0.now in
    let xs = pair_bytes g.K.VisitBytes.bytes g.V.VisitBytes.bytes c.args.old.now in
    let one = c.deref.ensures.value ∙ c.in_ok-push.ensures.items in (
      with_one kb vb _ _ _ xs one c.in_ok-updated.ensures,
      ap (pair_bytes kb vb) c.deref-2.ensures.value ∙ c.in_ok-given.ensures,
    )

pub find_step-requires : goal.find_step-requires
find_step-requires g c = let lists = compared g c in rw (lists.0, lists.1) c.requires

pub returns : goal.returns
returns g c =
    let lists = compared g (goal.at.returns g c).After-deref-2 in
    rw (lists.0, lists.1) at c.find_step.ensures
