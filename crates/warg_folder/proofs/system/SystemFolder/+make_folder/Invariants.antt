use Rattle.std.proofs.Common.{length}
use Rattle.warg_folder.proofs.system.SystemFolder.+make_folder.Given as goal

abbrev pub decreases-make_folder : goal.decreases-make_folder
decreases-make_folder l = length l.folder.now
