use Rattle.std.proofs.Common.{ℕ, refl, sym, subst}
use Rattle.warg_registry.specs.Auditing.{AreAllInFiles}
use Rattle.warg_registry.proofs.Refused.{ok_led, none_led, cause_of_pages}
use Rattle.warg_registry.proofs.Sources.{at_served, served_read}
use Rattle.warg_registry.proofs.reader.RegistryReader.held_in_map.Goals as goal

pub returns-clause-held : goal.returns-clause-held
returns-clause-held g c = λ faithful.
    let log = c.args.self.now.log in
    let was = served_read g.F.Folder c.self.view_is c.forget.ensures c.held_in_pages-led.ensures.known in
    ok_led _ _ c.or_refusal.ensures.led c.held_in_pages-led.ensures.held (λ found held root all led.
    let P : ℕ → Type 0 = λ n. AreAllInFiles (g.F.Folder.seen log.folder) root n all in
    held (at_served g.F.Folder log) root all (was.known faithful) refl (subst P (sym c.version-version.ensures) led))

pub returns-clause-whole : goal.returns-clause-whole
returns-clause-whole g c = λ faithful root all led.
    let log = c.args.self.now.log in
    let was = served_read g.F.Folder c.self.view_is c.forget.ensures c.held_in_pages-led.ensures.known in
    c.or_refusal.ensures.whole (none_led _ c.held_in_pages-led.ensures.refused (λ refused.
    refused (at_served g.F.Folder log) root all (was.known faithful) refl
    (rw c.version-version.ensures led)))

pub returns-clause-same : goal.returns-clause-same
returns-clause-same g c =
    (served_read g.F.Folder c.self.view_is c.forget.ensures c.held_in_pages-led.ensures.known).same

pub returns-clause-read : goal.returns-clause-read
returns-clause-read g c =
    (served_read g.F.Folder c.self.view_is c.forget.ensures c.held_in_pages-led.ensures.known).read

pub returns-clause-cause : goal.returns-clause-cause
returns-clause-cause g c =
    let was = served_read g.F.Folder c.self.view_is c.forget.ensures c.held_in_pages-led.ensures.known in
    cause_of_pages was.told c.or_refusal.ensures.cause
