use Rattle.std.proofs.Common.{◌<◌, sym, subst, arith}
use Rattle.warg_store.specs.Log.{LogOf, said_of}
use Rattle.warg_store.specs.Growing.{LogIn, Has}
use Rattle.warg_store.proofs.GrowingLemmas.{idle, noted}
use Rattle.warg_store.proofs.log_folder.LogFolder.commit_lines.Goals.{After-put}
use Rattle.warg_store.proofs.log_folder.LogFolder.commit_lines.Goals as goal

-- a log that is put has another length than what it keeps, so it has grown
has_more : (g : _) (c : After-put g) (served old next : LogOf)
    → Has g.F.Folder.seen g.F.Folder.may_leave served old next c.args.self.now
    → c.args.self.now.text.length < c.args.self.now.edge.len
has_more g c served old next has =
    let inside = rw (← c.self.view_is) at has in
    rw (← c.self.view_is) (omega (
      arith,
      inside.since,
      inside.order,
      c.length.ensures.value,
      c.length-3.ensures,
      c.checkpoint.ensures.length,
      c.if-length.false,
    ))

pub returns-then-length-clause-any_moment : goal.returns-then-length-clause-any_moment
returns-then-length-clause-any_moment g c = λ faithful served old next has same.
    idle _ _ _ _ served old next _ (g.met.F.Folder.only_now c.args.self.now.folder) has

pub returns-in_err-end-clause-any_moment : goal.returns-in_err-end-clause-any_moment
returns-in_err-end-clause-any_moment g c = λ faithful served old next has same.
    idle _ _ _ _ served old next _ (g.met.F.Folder.only_now c.args.self.now.folder) has

pub returns-in-Ok-clause-ready : goal.returns-in-Ok-clause-ready
returns-in-Ok-clause-ready g c = λ faithful is_open.
    rw (← c.self-2.view_is) at (c.in-Ok.ensures.ready faithful)

pub returns-in-Ok-clause-any_moment : goal.returns-in-Ok-clause-any_moment
returns-in-Ok-clause-any_moment g c = λ faithful served old next has same.
    let more = has_more g (goal.at.returns-in-Ok-clause-any_moment g c).After-put served old next has in
    rw (← c.self-2.view_is) at
    (c.put.ensures.any_moment faithful served old next has more (c.in_ok-end.ensures.is served old next has same))

pub returns-in-Err-clause-any_moment : goal.returns-in-Err-clause-any_moment
returns-in-Err-clause-any_moment g c = λ faithful served old next has same.
    let more = has_more g (goal.at.returns-in-Err-clause-any_moment g c).After-put served old next has in
    rw (← c.self-2.view_is) at
    (c.put.ensures.any_moment faithful served old next has more (c.in_ok-end.ensures.is served old next has same))

pub returns-in-Ok-clause-committed : goal.returns-in-Ok-clause-committed
returns-in-Ok-clause-committed g c = λ faithful served old next has same.
    let more = has_more g (goal.at.returns-in-Ok-clause-committed g c).After-put served old next has in
    let end = c.in_ok-end.ensures.is served old next has same in
    let put = c.in-Ok.ensures.put faithful served old next has more end in
    let told : LogIn g.row.F.Denot → Type 0 = λ l.
    Has g.F.Folder.seen g.F.Folder.may_leave put.0 next next (record l { text = said_of next }) in (
      put.0,
      put.1,
      noted _ _ put.0 next
          (record {
            folder = c.self-2.inside.folder;
            text = c.self-2.inside.text;
            is_open = c.self-2.inside.is_open;
            edge = c.self-2.inside.edge;
            bundle = c.self-2.inside.bundle.items;
            held = c.self-2.inside.held;
          })
          c.in_ok-end.end.text end.says (subst told (sym c.self-2.view_is) put.2),
    )
