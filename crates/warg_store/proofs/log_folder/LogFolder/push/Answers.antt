use Rattle.std.proofs.lemmas.Result.{on_ok_weaker}
use Rattle.warg_store.proofs.log_folder.LogFolder.push.Goals as goal

pub returns-clause-pushed : goal.returns-clause-pushed
returns-clause-pushed g c = λ faithful. on_ok_weaker c.add.result
    (λ added served old next has. added served old next (c.in_ok-make_room.ensures.has faithful served old next has))
    c.add.ensures.has
