use Rattle.std.proofs.Common.{inl, inr, ⊎_elim}
use Rattle.warg_store.specs.Log.{LogOf, Serves}
use Rattle.warg_store.specs.Reading.{Reads}
use Rattle.warg_store.specs.Refusals.{IsNoFault}
use Rattle.warg_store.proofs.WholeLemmas.{err_match}
use Rattle.warg_store.proofs.reader.LogReader.open.Goals as goal

pub returns-clause-meanwhile : goal.returns-clause-meanwhile
returns-clause-meanwhile g c = λ faithful served old next one.
    let reads : (log : LogOf) → Serves log (g.F.Folder.seen c.args.folder)
    → Reads g.F.Folder.seen log (record { folder = c.read_newest.new.folder; text = c.in_ok-text.text }) =
    λ log serves. record {
      can = serves.can;
      text = c.in_ok-text.ensures.text faithful log serves;
      files = rw (c.read_newest.ensures.seen faithful) serves.holds;
    } in
    ⊎_elim (λ is. inl (reads served is.serves)) (λ is. inr (reads next is.serves)) one.read

pub returns-in_err-text-clause-meanwhile : goal.returns-in_err-text-clause-meanwhile
returns-in_err-text-clause-meanwhile g c = λ faithful served old next one.
    err_match _ (IsNoFault ⊥) _ _ c.from_residual.ensures.1
    (c.in_err-text.ensures.meanwhile faithful served old next one)
