use Rattle.std.proofs.Common.{◌≡◌, Err, true≢false, sym, ap, ◌∙◌}
use Rattle.warg_store.specs.Growing.{Has}
use Rattle.warg_store.specs.Log.{LogOf, AreShort, CanBeKept}
use Rattle.warg_registry.specs.Folder.{with_entries, files_of, AreFresh, IsNextLog}
use Rattle.warg_registry.proofs.Listed.{items_of}
use Rattle.warg_registry.proofs.Refused.{told_as, commit_refused}
use Rattle.warg_registry.proofs.RegistryGrowth.{next_has}
use Rattle.warg_registry.proofs.FolderMoments.{Stages, Commits, beside_then, staged_only, commit_then}
use Rattle.warg_registry.proofs.folder.grow.Goals.{After-put_all, After-commit_with}
use Rattle.warg_registry.proofs.folder.grow.Goals as goal

-- the run that stages entries and pages
staged : (g : _) (c : After-put_all g) → g.F.Folder.IsFaithful → {served old : LogOf}
    → Has g.F.Folder.seen g.F.Folder.may_leave served old old c.args.log.now
    → Stages g.F.Folder c.args.log.now.folder c.put_all.new.log.folder
staged g c faithful {served} {old} has =
    beside_then g.F.Folder g.met.F.Folder.counts_now g.met.F.Folder.seen_may_stay
    (c.push_all.ensures.any_moment faithful served old old has)
    (c.put_all.ensures.any_moment faithful served old _ (c.in_ok-push_all.ensures.pushed faithful served old old has))

-- what is committed then: the next log, with its lines, behind what was staged
complete : (g : _) (c : After-commit_with g) → g.F.Folder.IsFaithful → {served old next : LogOf}
    → Has g.F.Folder.seen g.F.Folder.may_leave served old old c.args.log.now
    → IsNextLog old next (items_of c.args.entries.now) (files_of c.args.changed.now) c.args.root.now
    → AreFresh served old (with_entries old (items_of c.args.entries.now)) (files_of c.args.changed.now)
    → Has g.F.Folder.seen g.F.Folder.may_leave served old next c.put_all.new.log
    × (next.lines ≡ items_of c.as_slice.result.now)
    × (Stages g.F.Folder c.args.log.now.folder c.put_all.new.log.folder
    → Commits g.F.Folder served old next c.args.log.now.folder c.commit_with.new.self.folder)
complete g c faithful {served} {old} {next} has is fresh =
    let all = next_has g.F.Folder is (c.in_ok-put_all.ensures.put faithful served old _
    (c.in_ok-push_all.ensures.pushed faithful served old old has) fresh) in
    let lines = is.lines ∙ sym (rw c.as_slice.ensures.value c.in_ok-lines.ensures.lines) in (
      all,
      lines,
      λ run. commit_then g.F.Folder g.met.F.Folder.counts_now g.met.F.Folder.seen_may_stay run has.keeps
          (c.commit_with.ensures.any_moment faithful served old next all lines),
    )

pub returns-in_err-push_all-clause-any_moment : goal.returns-in_err-push_all-clause-any_moment
returns-in_err-push_all-clause-any_moment g c = λ faithful served old next has is fresh.
    staged_only g.F.Folder has.keeps (c.push_all.ensures.any_moment faithful served old old has)

pub returns-in_err-put_all-clause-any_moment : goal.returns-in_err-put_all-clause-any_moment
returns-in_err-put_all-clause-any_moment g c = λ faithful served old next has is fresh.
    let at = goal.at.returns-in_err-put_all-clause-any_moment g c in
    staged_only g.F.Folder has.keeps (staged g at.After-put_all faithful has)

pub returns-in_err-lines-clause-any_moment : goal.returns-in_err-lines-clause-any_moment
returns-in_err-lines-clause-any_moment g c = λ faithful served old next has is fresh.
    let at = goal.at.returns-in_err-lines-clause-any_moment g c in
    staged_only g.F.Folder has.keeps (staged g at.After-put_all faithful has)

pub returns-in_err-commit_with-clause-any_moment : goal.returns-in_err-commit_with-clause-any_moment
returns-in_err-commit_with-clause-any_moment g c = λ faithful served old next has is fresh.
    let at = goal.at.returns-in_err-commit_with-clause-any_moment g c in
    (complete g at.After-commit_with faithful has is fresh).2 (staged g at.After-put_all faithful has)

pub returns-clause-any_moment : goal.returns-clause-any_moment
returns-clause-any_moment g c = λ faithful served old next has is fresh.
    let at = goal.at.returns-clause-any_moment g c in
    (complete g at.After-commit_with faithful has is fresh).2 (staged g at.After-put_all faithful has)

pub returns-clause-grown : goal.returns-clause-grown
returns-clause-grown g c = λ faithful served old next has is fresh.
    let at = goal.at.returns-clause-grown g c in
    let all = complete g at.After-commit_with faithful has is fresh in
    c.in_ok-commit_with.ensures.committed faithful served old next all.0 all.1

pub returns-in_err-commit_with-clause-refused : goal.returns-in_err-commit_with-clause-refused
returns-in_err-commit_with-clause-refused g c = λ faithful served old next has is fresh.
    let at = goal.at.returns-in_err-commit_with-clause-refused g c in
    let all = complete g at.After-commit_with faithful has is fresh in
    let e = c.in_err-commit_with.field-0.0 in
    let long : Type 0 = AreShort (items_of c.args.entries.now) → ⊥ in
    let full : Type 0 = CanBeKept next → ⊥ in
    let was : c.commit_with.result ≡ Err e = c.in_err-commit_with.was in
    told_as _ _ _ c.from_residual-in_err-commit_with.ensures.1
    (commit_refused long full e
    (λ same. c.commit_with.ensures.too_long (was ∙ ap Err same) served old next all.0 all.1)
    (λ same. true≢false (sym all.0.is_open ∙ c.commit_with.ensures.closed.0 (was ∙ ap Err same))))
