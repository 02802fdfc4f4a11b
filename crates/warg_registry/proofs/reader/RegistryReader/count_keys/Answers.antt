use Rattle.std.proofs.Common.{ℕ, [], List, refl, subst}
use Rattle.warg_registry.specs.Auditing.{AreAllInFiles}
use Rattle.warg_registry.proofs.Refused.{told_as, told_by, none_led, cause_of_pages}
use Rattle.warg_registry.proofs.Sources.{at_served, served_read}
use Rattle.warg_registry.proofs.reader.RegistryReader.count_keys.Goals as goal

pub returns-clause-keys : goal.returns-clause-keys
returns-clause-keys g c = λ faithful.
    let log = c.args.self.now.log in
    let was = served_read g.F.Folder c.self.view_is c.forget.ensures c.visit_pages-led.ensures.known in
    let seen = rw c.in_ok-or_refusal.ensures.led at c.visit_pages-led.ensures.seen in
    let led = seen [] refl in
    let all = subst (λ (is : List ℕ × ℕ). AreAllInFiles (g.F.Folder.seen log.folder) is.0 is.1 led.0)
    (λ i. (was.same.0 i, c.version-version.ensures i)) (led.2 (at_served g.F.Folder log) (was.known faithful)) in
    (led.0, all, led.1)

pub returns-in_err-or_refusal-clause-whole : goal.returns-in_err-or_refusal-clause-whole
returns-in_err-or_refusal-clause-whole g c = λ faithful origin insertions has.
    let was = served_read g.F.Folder c.self.view_is c.forget.ensures c.visit_pages-led.ensures.known in
    told_as _ _ _ c.from_residual.ensures.1
    (c.in_err-or_refusal.ensures.whole (none_led _ c.visit_pages-led.ensures.refused (λ refused.
    refused (at_served g.F.Folder c.args.self.now.log) insertions (was.known faithful)
    (was.own origin insertions c.version-version.result c.version-version.ensures has))))

pub returns-clause-same : goal.returns-clause-same
returns-clause-same g c =
    (served_read g.F.Folder c.self.view_is c.forget.ensures c.visit_pages-led.ensures.known).same

pub returns-in_err-or_refusal-clause-same : goal.returns-in_err-or_refusal-clause-same
returns-in_err-or_refusal-clause-same g c =
    (served_read g.F.Folder c.self.view_is c.forget.ensures c.visit_pages-led.ensures.known).same

pub returns-clause-read : goal.returns-clause-read
returns-clause-read g c =
    (served_read g.F.Folder c.self.view_is c.forget.ensures c.visit_pages-led.ensures.known).read

pub returns-in_err-or_refusal-clause-read : goal.returns-in_err-or_refusal-clause-read
returns-in_err-or_refusal-clause-read g c =
    (served_read g.F.Folder c.self.view_is c.forget.ensures c.visit_pages-led.ensures.known).read

pub returns-clause-cause : goal.returns-clause-cause
returns-clause-cause g c =
    let was = served_read g.F.Folder c.self.view_is c.forget.ensures c.visit_pages-led.ensures.known in
    cause_of_pages was.told (λ is. absurd (cc))

pub returns-in_err-or_refusal-clause-cause : goal.returns-in_err-or_refusal-clause-cause
returns-in_err-or_refusal-clause-cause g c =
    let was = served_read g.F.Folder c.self.view_is c.forget.ensures c.visit_pages-led.ensures.known in
    cause_of_pages was.told (λ is. c.in_err-or_refusal.ensures.cause (told_by _ c.from_residual.ensures.1 is))
