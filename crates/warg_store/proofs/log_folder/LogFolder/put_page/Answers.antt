use Rattle.std.proofs.Common.{refl}
use Rattle.warg_store.proofs.PageLemmas.{page_has}
use Rattle.warg_store.proofs.log_folder.LogFolder.put_page.Goals as goal

pub returns-in_ok-stage-clause-page : goal.returns-in_ok-stage-clause-page
returns-in_ok-stage-clause-page g c = λ faithful served old next has fresh.
    page_has _ _ served old next _ _ c.args.path.now c.args.bytes.now fresh refl
    (rw (c.as_str.ensures.value, c.in_ok-name.ensures) at (c.in_ok-stage.ensures.staged faithful))
    (c.in_ok-stage.ensures.staging faithful) (rw (← c.self.view_is) at has)
