use Rattle.std.proofs.Common.{map, string_bytes}
use Rattle.std.proofs.lemmas.Result.{on_ok_weaker}
use Rattle.std.specs.declared.string.String.{String}
use Rattle.std.specs.declared.alloc.Global.{Global}
use Rattle.warg_folder.proofs.ForCallers.{leaves_weaker}
use Rattle.warg_store.proofs.RemoveLemmas.{without_one_of, without_has, both}
use Rattle.warg_store.proofs.log_folder.LogFolder.remove_pages.Goals as goal

pub returns-clause-pruned : goal.returns-clause-pruned
returns-clause-pruned g c = λ faithful. on_ok_weaker c.remove_all.result
    (λ done served old next has clear.
    let inside = rw (← c.self.view_is) at has in
    let names = map (λ (name : String Global). string_bytes name) c.args.names.now in
    without_has _ _ names served old next _ _ clear
    (inside.staging (g.F.Folder.seen c.self.inside.folder) (g.met.F.Folder.seen_may_stay c.self.inside.folder))
    done.0 done.1 inside)
    (both _ _ c.remove_all.result (c.remove_all.ensures.only faithful) (c.remove_all.ensures.durable faithful))

pub returns-clause-any_moment : goal.returns-clause-any_moment
returns-clause-any_moment g c = λ faithful served old next has clear.
    let inside = rw (← c.self.view_is) at has in
    let names = map (λ (name : String Global). string_bytes name) c.args.names.now in
    let before = g.F.Folder.seen c.self.inside.folder in
    rw (← c.self.view_is) (leaves_weaker _ _ _ _ _ _ (c.remove_all.ensures.any_moment faithful)
    (λ e was. without_one_of names served old next clear before inside.keeps was.0 (inside.staging was.0 was.1) e
    was.2))
