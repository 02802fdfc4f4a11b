use Rattle.std.proofs.Common.{arith}
use Rattle.std.proofs.lemmas.Grind.{common_steps}
use Rattle.warg_pages.specs.Refusals.{IsOfSourceUnless}
use Rattle.warg_registry.proofs.Refused.{not_of_pages, cause_of_pages}
use Rattle.warg_registry.proofs.Sources.{at_kept, folder_read}
use Rattle.warg_registry.proofs.folder.RegistryFolder.insert.Goals as goal

pub returns-in-Ok-clause-pages : goal.returns-in-Ok-clause-pages
returns-in-Ok-clause-pages g c = λ faithful kept own.
    let was = folder_read g.F.Folder c.self.view_is c.forget.ensures c.insert_all.ensures.known in
    let at = at_kept g.F.Folder c.args.self.now.log c.args.self.now.log in (
      c.in-Ok.ensures.pages at kept (was.known faithful) (was.own kept own),
      c.in-Ok.ensures.root at kept (was.known faithful) (was.own kept own),
    )

pub returns-in-Ok-clause-read : goal.returns-in-Ok-clause-read
returns-in-Ok-clause-read g c =
    (folder_read g.F.Folder c.self.view_is c.forget.ensures c.insert_all.ensures.known).read

pub returns-in-Ok-clause-cause : goal.returns-in-Ok-clause-cause
returns-in-Ok-clause-cause g c =
    let was = folder_read g.F.Folder c.self.view_is c.forget.ensures c.insert_all.ensures.known in
    cause_of_pages was.told (λ is. absurd (cc))

pub returns-in-Err-Way-WrongDigest-clause-read : goal.returns-in-Err-Way-WrongDigest-clause-read
returns-in-Err-Way-WrongDigest-clause-read g c = λ faithful.
    let was = folder_read g.F.Folder c.self.view_is c.forget.ensures c.insert_all.ensures.known in
    c.find_fault.ensures.read faithful c.args.self.now.log (was.read faithful)

pub returns-in-Err-Way-WrongDigest-clause-whole : goal.returns-in-Err-Way-WrongDigest-clause-whole
returns-in-Err-Way-WrongDigest-clause-whole g c = λ faithful kept own.
    let was = folder_read g.F.Folder c.self.view_is c.forget.ensures c.insert_all.ensures.known in
    let at = at_kept g.F.Folder c.args.self.now.log c.args.self.now.log in
    let is = c.in-Err-Way-WrongDigest in
    let refused = rw (is.field-0-is, is.field-0-0-is) at is.ensures.refused in
    absurd (refused at kept (was.known faithful) (was.own kept own))

pub returns-in-Err-Way-WrongDigest-clause-cause : goal.returns-in-Err-Way-WrongDigest-clause-cause
returns-in-Err-Way-WrongDigest-clause-cause g c =
    let was = folder_read g.F.Folder c.self.view_is c.forget.ensures c.insert_all.ensures.known in record {
      later = omega (arith, was.told.later, c.find_fault.ensures.later);
      failed = λ faithful is. omega (arith, was.told.later, c.find_fault.ensures.cause faithful (cc));
    }

pub returns-in-Err-clause-read : goal.returns-in-Err-clause-read
returns-in-Err-clause-read g c =
    (folder_read g.F.Folder c.self.view_is c.forget.ensures c.insert_all.ensures.known).read

pub returns-in-Err-clause-whole : goal.returns-in-Err-clause-whole
returns-in-Err-clause-whole g c = λ faithful kept own.
    let was = folder_read g.F.Folder c.self.view_is c.forget.ensures c.insert_all.ensures.known in
    let at = at_kept g.F.Folder c.args.self.now.log c.args.self.now.log in
    let fact : IsOfSourceUnless ⊥ c.in-Err.error = not_of_pages _ c.in-Err.error
    (λ refused. refused at kept (was.known faithful) (was.own kept own)) c.in-Err.ensures.refused in
    grind (arith, common_steps, c.refusal.ensures.whole, fact)

pub returns-in-Err-clause-cause : goal.returns-in-Err-clause-cause
returns-in-Err-clause-cause g c =
    let was = folder_read g.F.Folder c.self.view_is c.forget.ensures c.insert_all.ensures.known in
    cause_of_pages was.told (λ is. c.refusal.ensures.cause (cc))
