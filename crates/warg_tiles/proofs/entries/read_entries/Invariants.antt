use Rattle.std.proofs.Common.{◌≡◌, ◌<◌, ◌++◌, map, length}
use Rattle.std.specs.List.{AllByRecursion}
use Rattle.warg_tiles.specs.EntryBundles.{bundle_of}
use Rattle.warg_tiles.proofs.entries.read_entries.Given as goal

abbrev pub invariant-entries : goal.invariant-entries
invariant-entries g l = record {
  read : l.bytes ≡ bundle_of (map (λ e. e.now) l.entries.items) ++ l.rest;
  short : AllByRecursion (λ e. length e < 65536) (map (λ e. e.now) l.entries.items);
}

abbrev pub decreases-entries : goal.decreases-entries
decreases-entries g l = length l.rest
