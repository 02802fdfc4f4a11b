use Rattle.std.proofs.Common.{refl}
use Rattle.warg_store.proofs.GrowingLemmas.{added_has}
use Rattle.warg_store.proofs.log_folder.LogFolder.add.Goals as goal

pub returns-in-Ok-clause-has : goal.returns-in-Ok-clause-has
returns-in-Ok-clause-has g c = λ served old next has.
    added_has _ _ served old next _ _ c.args.entry.now c.requires.short (rw (← c.self.view_is) at has)
    (rw (← c.self.view_is) at c.requires.room) refl refl refl c.in-Ok.ensures.length.0 c.in-Ok.ensures.length.1
    (λ ds stands. rw (c.in_ok-extend_from_slice.ensures.items, c.clear.ensures.items) at
    (c.in-Ok.ensures.stands ds stands)) c.in_ok-push_entry.ensures.ok refl
