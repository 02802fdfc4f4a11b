use Rattle.std.proofs.Common.{length}
use Rattle.warg_folder.proofs.system.SystemFolder.+has_folder.Given as goal

abbrev pub decreases-has_folder : goal.decreases-has_folder
decreases-has_folder l = length l.folder.now
