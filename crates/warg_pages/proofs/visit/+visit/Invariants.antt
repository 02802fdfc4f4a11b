use Rattle.std.proofs.Common.{◌+◌, ◌-◌, ◌*◌, ◌++◌, List, length, drop}
use Rattle.warg_pages.specs.Visits.{AreOfSlots, AreFromWhere, IsAllowed, IsLoneShown}
use Rattle.warg_pages.specs.ChangedPages.{ChangedPageAt}
use Rattle.warg_pages.proofs.visit.+visit.Given as goal

abbrev pub decreases-visit_from : goal.decreases-visit_from
decreases-visit_from g l = 2 * (32 - length l.prefix.now) + 1

abbrev pub decreases-visit_slot : goal.decreases-visit_slot
decreases-visit_slot g l = 2 * (32 - length l.prefix.now)

abbrev pub invariant-visit_from-slots : goal.invariant-visit_from-slots
invariant-visit_from-slots g l = record {
  known : (known : g.P.Pages.Known) → g.P.Pages.IsKnown l.fn.pages known → g.P.Pages.IsKnown l.pages known;
  seen : (before : List ChangedPageAt) → g.V.PageVisitor.HasSeen l.initial.visitor before → (done : List ChangedPageAt)
      × g.V.PageVisitor.HasSeen l.visitor (before ++ done)
      × ((known : g.P.Pages.Known) (rest : List ChangedPageAt) → g.P.Pages.IsKnown l.fn.pages known
      → AreOfSlots (IsLoneShown g.D.SupportedDigest.digest l.lone_keys)
      (AreFromWhere g.D.SupportedDigest.digest (IsLoneShown g.D.SupportedDigest.digest l.lone_keys)
      (IsAllowed (g.P.Pages.bytes_at known) (g.P.Pages.tells_all known)) (31 - length l.prefix)) l.prefix
      (drop l.slot-index l.slot-items) rest
      → AreOfSlots (IsLoneShown g.D.SupportedDigest.digest l.lone_keys)
      (AreFromWhere g.D.SupportedDigest.digest (IsLoneShown g.D.SupportedDigest.digest l.lone_keys)
      (IsAllowed (g.P.Pages.bytes_at known) (g.P.Pages.tells_all known)) (31 - length l.prefix)) l.prefix
      l.slot-items (done ++ rest));
}
