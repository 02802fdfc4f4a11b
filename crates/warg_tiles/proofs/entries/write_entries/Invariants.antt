use Rattle.std.proofs.Common.{◌≡◌, map, take}
use Rattle.warg_tiles.specs.EntryBundles.{bundle_of}
use Rattle.warg_tiles.proofs.entries.write_entries.Given as goal

abbrev pub invariant-entries : goal.invariant-entries
invariant-entries g l = l.bytes.items ≡ bundle_of (map (λ e. g.T.AsSlice.items e) (take l.entry-index l.entries))
