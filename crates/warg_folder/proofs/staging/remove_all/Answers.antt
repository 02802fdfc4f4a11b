use Rattle.std.proofs.Common.{◌≡◌, true, None, arith, string_bytes}
use Rattle.std.proofs.lemmas.List.{take_all}
use Rattle.std.proofs.lemmas.List.Elements.{All-more, All-weaker}
use Rattle.std.specs.declared.string.String.{String}
use Rattle.std.specs.declared.alloc.Global.{Global}
use Rattle.warg_folder.specs.Files.{Files, without}
use Rattle.warg_folder.specs.Names.{is_staged}
use Rattle.warg_folder.specs.Private.Steps.{IsRemoving}
use Rattle.warg_folder.proofs.ForCallers.{goes_on, either}
use Rattle.warg_folder.proofs.StepLemmas.{removed_one, fewer_files, none_stays, removed_here}
use Rattle.warg_folder.proofs.staging.remove_all.Goals.{After-remove}
use Rattle.warg_folder.proofs.staging.remove_all.Goals as goal

-- what a crash leaves after one removal more
removing : (g : _) (c : After-remove g) → g.F.Folder.IsFaithful → (e : Files) → g.F.Folder.may_leave c.remove.new.self e
    → IsRemoving (g.F.Folder.seen c.args.folder.now) e
removing g c faithful e left =
    let from = c.remove.ensures.crash faithful e left in
    let first = g.F.Folder.seen c.args.folder.now in
    let name = c.as_str.result.now in
    let was : IsRemoving first from.0 = c.names.invariant.crash faithful from.0 from.1 in
    let staged : is_staged name ≡ true = rw (c.as_str.ensures.value, c.name-item.is)
    (c.requires.staged faithful c.names.name-index c.name-item.result (omega arith)) in
    either (IsRemoving first) (without name) from.0 e from.2 was (removed_one first from.0 name staged was)

pub returns-in_err-remove-clause-crash : goal.returns-in_err-remove-clause-crash
returns-in_err-remove-clause-crash g c =
    removing g (goal.at.returns-in_err-remove-clause-crash g c).After-remove

pub returns-in_err-remove-clause-any_moment : goal.returns-in_err-remove-clause-any_moment
returns-in_err-remove-clause-any_moment g c = λ faithful. goes_on _ _ _ _ _ _ _ (c.names.invariant.time faithful)
    (c.remove.ensures.time faithful) (returns-in_err-remove-clause-crash g c faithful)

pub names-preserved : goal.names-preserved
names-preserved g c =
    let old = g.F.Folder.seen c.names.folder in
    let new = g.F.Folder.seen c.remove.new.self in
    let name = c.as_str.result.now in
    let crash = removing g (goal.at.names-preserved g c).After-remove in
    record {
      removed = λ faithful. All-more (λ (x : String Global). new (string_bytes x) ≡ None) c.args.names.now
          c.names.name-index c.name-item.result (omega arith)
          (All-weaker (λ (x : String Global). old (string_bytes x) ≡ None)
          (λ (x : String Global). new (string_bytes x) ≡ None)
          (λ x none. none_stays old new name (string_bytes x) (c.in_ok-remove.ensures.removed faithful) none)
          _ (c.names.invariant.removed faithful))
          (rw (c.as_str.ensures.value, c.name-item.is) at
          (removed_here old new name (c.in_ok-remove.ensures.removed faithful)));
      fewer = λ faithful. fewer_files (g.F.Folder.seen c.args.folder.now) old new name
          (c.in_ok-remove.ensures.removed faithful) (c.names.invariant.fewer faithful);
      crash = crash;
      faults = omega (arith, c.names.invariant.faults, c.remove.ensures.cause.later);
      time = λ faithful. goes_on _ _ _ _ _ _ _ (c.names.invariant.time faithful) (c.remove.ensures.time faithful)
          (crash faithful);
    }

pub returns-clause-removed : goal.returns-clause-removed
returns-clause-removed g c = λ faithful.
    rw (take_all c.names.name-index c.args.names.now (omega arith)) at (c.names.invariant.removed faithful)
