use Rattle.std.proofs.Common.{List, ℕ, ◌∷◌, sym, ap, ◌∙◌}
use Rattle.std.proofs.lemmas.List.{length-map}
use Rattle.std.proofs.lemmas.Result.{IfOk-weaker}
use Rattle.warg_crypto.specs.Digests.{sha256}
use Rattle.warg_log.specs.Claims.{RootAndLength}
use Rattle.warg_log.specs.Tree.{leaves_of}
use Rattle.warg_folder.specs.Files.{Files}
use Rattle.warg_store.specs.Audited.{HasOlder}
use Rattle.warg_store.specs.Log.{LogOf}
use Rattle.warg_store.specs.Private.Used.{IsEnough}
use Rattle.warg_store.specs.declared.auditing.Use.TheVariants.{Compare}
use Rattle.warg_store.specs.Reading.{AreOfLog}
use Rattle.warg_store.proofs.WholeLemmas.{err_same}
use Rattle.warg_store.proofs.UsedLemmas.{shown}
use Rattle.warg_store.proofs.auditing.audited.Goals as goal

pub returns-clause-files : goal.returns-clause-files
returns-clause-files g c = λ faithful. IfOk-weaker c.same_root.result _ _
    (λ found same. shown _ _ c.in_ok-log.log found (c.replayed.ensures.used faithful).found same
    (c.in_ok-log.ensures.files faithful)) c.same_root.ensures.same

-- a log's files are enough to compare them, with what is left of older lengths
enough_of : (log : LogOf) (checkpoint : RootAndLength) (files : Files) → AreOfLog log checkpoint files
    → HasOlder log files → IsEnough Compare log files
enough_of log checkpoint files are older = record {
  most = are.can.most;
  short = are.can.short;
  bundle = are.holds.bundle;
  whole = λ e. record { most = are.can.most; short = are.can.short; holds = are.holds; older = older };
}

pub returns-in_err-log-clause-whole : goal.returns-in_err-log-clause-whole
returns-in_err-log-clause-whole g c = λ faithful log are older.
    err_same _ _ _ c.from_residual.ensures.1
    (c.in_err-log.ensures.whole faithful log
    (enough_of log _ _ are older) (sym (ap (λ (k : RootAndLength). k.length) are.said) ∙ sym c.length.ensures))

pub returns-clause-whole : goal.returns-clause-whole
returns-clause-whole g c = λ faithful log are older.
    let ds = leaves_of sha256 log.entries in
    c.same_root.ensures.whole ds
    (c.in_ok-log.ensures.own faithful log
    (enough_of log _ _ are older) (sym (ap (λ (k : RootAndLength). k.length) are.said) ∙ sym c.length.ensures))
    (ap (λ (k : RootAndLength). k.length) are.said ∙ sym (length-map log.entries (λ (e : List ℕ). sha256 (0 ∷ e))))
    (ap (λ (k : RootAndLength). k.root) are.said)
