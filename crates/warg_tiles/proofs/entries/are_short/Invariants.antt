use Rattle.std.proofs.Common.{◌<◌, length, take}
use Rattle.std.specs.List.{AllByRecursion}
use Rattle.warg_tiles.proofs.entries.are_short.Given as goal

abbrev pub invariant-entries : goal.invariant-entries
invariant-entries g l = AllByRecursion (λ e. length (g.T.AsSlice.items e) < 65536) (take l.entry-index l.entries)
