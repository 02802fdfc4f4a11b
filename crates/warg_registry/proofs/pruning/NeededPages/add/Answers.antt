use Rattle.std.proofs.Common.{◌≡◌, true}
use Rattle.std.proofs.lemmas.List.Elements.{Contains-append_right}
use Rattle.warg_registry.proofs.Pruned.{all_named, own_named}
use Rattle.warg_registry.proofs.Refused.{ok_led, none_led, cause_of_pages}
use Rattle.warg_registry.proofs.Sources.{at_kept, kept_anew}
use Rattle.warg_registry.proofs.pruning.NeededPages.add.Goals as goal

pub returns-clause-whole : goal.returns-clause-whole
returns-clause-whole g c = λ faithful known es read own.
    let was = kept_anew g.F.Folder c.forget.ensures c.visit_pages-led.ensures.known in
    c.or_refusal.ensures.whole (none_led _ c.visit_pages-led.ensures.refused (λ refused.
    refused (at_kept g.F.Folder known c.args.pages.now.log) es (was.known faithful known read) own))

pub returns-clause-read : goal.returns-clause-read
returns-clause-read g c = (kept_anew g.F.Folder c.forget.ensures c.visit_pages-led.ensures.known).done.read

pub returns-clause-cause : goal.returns-clause-cause
returns-clause-cause g c =
    let was = kept_anew g.F.Folder c.forget.ensures c.visit_pages-led.ensures.known in
    cause_of_pages was.done.told c.or_refusal.ensures.cause

pub returns-clause-added : goal.returns-clause-added
returns-clause-added g c =
    ok_led _ _ c.or_refusal.ensures.led c.visit_pages-led.ensures.seen (λ found seen before named only.
    let was = kept_anew g.F.Folder c.forget.ensures c.visit_pages-led.ensures.known in
    let led = seen before (named, only) in (
      led.0,
      led.1.0,
      led.1.1,
      λ faithful known es read own.
          let files = g.F.Folder.seen known.folder in
          let all = led.2 (at_kept g.F.Folder known c.args.pages.now.log) (was.known faithful known read) in (
            λ names have. all_named _ files (true ≡ true) c.args.root.now c.args.version es led.0
                c.ranges.version.fits own all names (λ p there. have p (Contains-append_right before led.0 p there)),
            own_named _ files (true ≡ true) c.args.root.now c.args.version es led.0 c.ranges.version.fits own all,
          ),
    ))
