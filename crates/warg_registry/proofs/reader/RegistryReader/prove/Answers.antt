use Rattle.warg_registry.proofs.Refused.{ok_led, none_led, cause_of_pages}
use Rattle.warg_registry.proofs.RegistryAudits.{registry_read}
use Rattle.warg_registry.proofs.Sources.{at_served, served_read}
use Rattle.warg_registry.proofs.reader.RegistryReader.prove.Goals as goal

pub returns-clause-own : goal.returns-clause-own
returns-clause-own g c = λ faithful.
    let was = served_read g.F.Folder c.self.view_is c.forget.ensures c.prove_by_pages-led.ensures.known in
    ok_led _ _ c.or_refusal.ensures.led c.prove_by_pages-led.ensures.own (λ found proved origin insertions has.
    proved (at_served g.F.Folder c.args.self.now.log) insertions (was.known faithful)
    (was.own origin insertions c.version-version.result c.version-version.ensures has))

pub returns-clause-whole : goal.returns-clause-whole
returns-clause-whole g c = λ faithful origin insertions has.
    let was = served_read g.F.Folder c.self.view_is c.forget.ensures c.prove_by_pages-led.ensures.known in
    c.or_refusal.ensures.whole (none_led _ c.prove_by_pages-led.ensures.refused (λ refused.
    refused (at_served g.F.Folder c.args.self.now.log) insertions (was.known faithful)
    (was.own origin insertions c.version-version.result c.version-version.ensures has)))

pub returns-clause-same : goal.returns-clause-same
returns-clause-same g c =
    (served_read g.F.Folder c.self.view_is c.forget.ensures c.prove_by_pages-led.ensures.known).same

pub returns-clause-reads : goal.returns-clause-reads
returns-clause-reads g c = λ faithful origin insertions has.
    let was = served_read g.F.Folder c.self.view_is c.forget.ensures c.prove_by_pages-led.ensures.known in
    registry_read g.F.Folder was.same (was.read faithful) origin insertions has

pub returns-clause-cause : goal.returns-clause-cause
returns-clause-cause g c =
    let was = served_read g.F.Folder c.self.view_is c.forget.ensures c.prove_by_pages-led.ensures.known in
    cause_of_pages was.told c.or_refusal.ensures.cause
