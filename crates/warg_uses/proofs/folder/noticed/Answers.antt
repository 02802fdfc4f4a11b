use Rattle.std.proofs.Common.{ap, codes, ◌∙◌}
use Rattle.warg_folder.specs.Files.{Files}
use Rattle.warg_folder.specs.Commits.{committed}
use Rattle.warg_uses.proofs.folder.noticed.Goals as goal

pub returns-clause-served : goal.returns-clause-served
returns-clause-served g c = λ faithful.
    ap (λ (f : Files). f (codes "map/notice")) (c.in_ok-commit.ensures.committed faithful
    ∙ ap (committed c.args.text.now) (c.in_ok-stage.ensures.staged faithful))
