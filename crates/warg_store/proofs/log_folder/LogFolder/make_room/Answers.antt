use Rattle.std.proofs.Common.{ap, arith}
use Rattle.std.proofs.lemmas.Result.{on_ok_weaker}
use Rattle.warg_store.specs.Growing.{LogIn}
use Rattle.warg_store.proofs.log_folder.LogFolder.make_room.Goals as goal

pub returns-clause-has : goal.returns-clause-has
returns-clause-has g c = λ faithful. on_ok_weaker c.stage_full.result
    (λ filled served old next has. filled served old next
    (omega (arith, has.most, c.if-self-lt256.false, ap (λ (l : LogIn g.row.F.Denot). l.held) c.self.view_is)) has)
    (c.stage_full.ensures.has faithful)
