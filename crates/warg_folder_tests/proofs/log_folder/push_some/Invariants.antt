use Rattle.warg_store.specs.Growing.{IsReady}
use Rattle.warg_folder_tests.proofs.log_folder.push_some.Given as goal

abbrev pub invariant-loop-number : goal.invariant-loop-number
invariant-loop-number g l = g.F.Folder.IsFaithful → IsReady g.F.Folder.seen g.F.Folder.may_leave l.log
