use Rattle.warg_crypto.proofs.CompareLemmas.{visit_fronts}
use Rattle.warg_crypto.proofs.visit.begins_with.Goals as goal

pub returns-in-Some : goal.returns-in-Some
returns-in-Some g c =
    visit_fronts (g.W.VisitBytes.bytes c.args.front.now) (g.V.VisitBytes.bytes c.args.value.now)
    (g.V.VisitBytes.bytes c.visit.new.to.of.now) c.in-Some.field-0 c.visit.new.to.same
    (λ m before. rw c.in-Some.is at (c.visit.ensures m before))
