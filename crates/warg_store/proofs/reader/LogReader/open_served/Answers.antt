use Rattle.std.proofs.Common.{inl, inr, ⊎_elim}
use Rattle.warg_store.specs.Log.{LogOf, Serves, said_of}
use Rattle.warg_store.specs.Reading.{Reads}
use Rattle.warg_store.specs.Refusals.{IsNoFault}
use Rattle.warg_store.proofs.OptionLemmas.{one_value, no_value}
use Rattle.warg_store.proofs.OpenLemmas.{kept_said}
use Rattle.warg_store.proofs.WholeLemmas.{err_same, err_and, err_match, one_serves}
use Rattle.warg_store.proofs.reader.LogReader.open_served.Goals.{In-Some}
use Rattle.warg_store.proofs.reader.LogReader.open_served.Goals as goal

-- whoever has the text that a folder serves reads its log
served_read : (g : _) (c : In-Some g) → g.F.Folder.IsFaithful → (log : LogOf)
    → Serves log (g.F.Folder.seen c.args.folder)
    → Reads g.F.Folder.seen log (record { folder = c.read_text.new.folder; text = c.in-Some.text })
served_read g c faithful log serves = record {
  can = serves.can;
  text = one_value c.in-Some.is
      (c.in_ok-text.ensures.text faithful _ serves.checkpoint.0 (kept_said log serves.can) serves.checkpoint.1);
  files = rw (c.read_text.ensures.seen faithful) serves.holds;
}

pub returns-in-Some-clause-reads : goal.returns-in-Some-clause-reads
returns-in-Some-clause-reads g c = served_read g (goal.at.returns-in-Some-clause-reads g c).In-Some

pub returns-in_err-text-clause-opens : goal.returns-in_err-text-clause-opens
returns-in_err-text-clause-opens g c = λ faithful log serves.
    err_same _ _ _ c.from_residual.ensures.1
    (c.in_err-text.ensures.whole faithful _ serves.checkpoint.0 (kept_said log serves.can) serves.checkpoint.1)

pub returns-in-None-clause-opens : goal.returns-in-None-clause-opens
returns-in-None-clause-opens g c = λ faithful log serves.
    absurd (no_value c.in-None.is (c.in_ok-text.ensures.text faithful _ serves.checkpoint.0
    (kept_said log serves.can) serves.checkpoint.1))

pub returns-in-Some-clause-none : goal.returns-in-Some-clause-none
returns-in-Some-clause-none g c = λ faithful absent.
    absurd (no_value ((c.in_ok-text.ensures.none faithful).1 absent) c.in-Some.is)

pub returns-in_err-text-clause-none : goal.returns-in_err-text-clause-none
returns-in_err-text-clause-none g c = λ faithful absent.
    err_and _ _ _ c.from_residual.ensures.1
    (inr (c.in_err-text.ensures.absent faithful absent))

pub returns-in-Some-clause-meanwhile : goal.returns-in-Some-clause-meanwhile
returns-in-Some-clause-meanwhile g c = λ faithful served old next one.
    let reads = served_read g (goal.at.returns-in-Some-clause-meanwhile g c).In-Some faithful in
    ⊎_elim (λ is. inl (reads served is.serves)) (λ is. inr (reads next is.serves)) one.read

pub returns-in_err-text-clause-meanwhile : goal.returns-in_err-text-clause-meanwhile
returns-in_err-text-clause-meanwhile g c = λ faithful served old next one.
    let is = one_serves served old next (g.F.Folder.seen c.args.folder) one in
    err_match _ (IsNoFault ⊥) _ _ c.from_residual.ensures.1
    (c.in_err-text.ensures.whole faithful (said_of is.0) is.1.checkpoint.0 (kept_said is.0 is.1.can) is.1.checkpoint.1)

pub returns-in-None-clause-meanwhile : goal.returns-in-None-clause-meanwhile
returns-in-None-clause-meanwhile g c = λ faithful served old next one.
    let is = one_serves served old next (g.F.Folder.seen c.args.folder) one in
    absurd (no_value c.in-None.is (c.in_ok-text.ensures.text faithful (said_of is.0) is.1.checkpoint.0
    (kept_said is.0 is.1.can) is.1.checkpoint.1))
