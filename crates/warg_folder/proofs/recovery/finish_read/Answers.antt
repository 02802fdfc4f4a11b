use Rattle.std.proofs.Common.{arith}
use Rattle.warg_folder.specs.declared.committing.TheConstants.{MOST_TEXT}
use Rattle.warg_folder.specs.Names.{mark}
use Rattle.warg_folder.proofs.ForCallers.{leaves_none}
use Rattle.warg_folder.proofs.ReadLemmas.{read_long, read_whole}
use Rattle.warg_folder.proofs.StepLemmas.{between_self}
use Rattle.warg_folder.proofs.recovery.finish_read.Goals as goal

pub returns-then-text-gt-MOST_TEXT-clause-any_moment : goal.returns-then-text-gt-MOST_TEXT-clause-any_moment
returns-then-text-gt-MOST_TEXT-clause-any_moment g c = λ faithful.
    leaves_none _ _ _ _ (λ e left. rw (c.requires.durable faithful e (g.met.F.Folder.only_now c.args.folder.now e left))
    (between_self _ _))

pub returns-then-text-gt-MOST_TEXT-clause-too_long : goal.returns-then-text-gt-MOST_TEXT-clause-too_long
returns-then-text-gt-MOST_TEXT-clause-too_long g c = λ faithful told. read_long
    (g.F.Folder.seen c.args.folder.now mark) c.args.text.now MOST_TEXT (c.requires.read faithful) (omega arith)

pub finish-requires-clause-stands : goal.finish-requires-clause-stands
finish-requires-clause-stands g c = λ faithful. read_whole (g.F.Folder.seen c.args.folder.now mark) c.args.text.now
    MOST_TEXT (c.requires.read faithful) (omega arith)
