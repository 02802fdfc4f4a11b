use Rattle.std.proofs.Common.{◌≡◌, ℕ, ◌<◌, [], Some, IsSome, length, slice_index_or}
use Rattle.warg_tiles.specs.Tiles.{node_in}
use Rattle.warg_tiles.proofs.data.tile_hashes.Given as goal

abbrev pub invariant-known : goal.invariant-known
invariant-known g l = (k : ℕ) → k < l.place → IsSome (g.L.LogData.digest_at l.hashes (node_in l.tile k))

abbrev pub invariant-places : goal.invariant-places
invariant-places g l = record {
  count : length l.digests.items ≡ l.place;
  digest : (k : ℕ) → k < l.place → g.L.LogData.digest_at l.hashes (node_in l.tile k)
      ≡ Some (slice_index_or l.digests.items k []);
  known : (k : ℕ) → k < l.place-end → IsSome (g.L.LogData.digest_at l.hashes (node_in l.tile k));
}
