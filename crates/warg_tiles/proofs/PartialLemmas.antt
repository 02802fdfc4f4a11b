-- The partial tiles of a length, one by one.
use Rattle.std.proofs.Common.{◌≡◌, inl, inr, ℕ, ◌+◌, ◌*◌, ◌/◌, ◌%◌, ◌^◌, ◌<◌, cond, List, [], ◌∷◌, ◌++◌, length, map, filter, ap, arith}
use Rattle.std.specs.Prelude.{nat_lt}
use Rattle.std.specs.List.{range_with_len}
use Rattle.std.proofs.lemmas.Bool.{lt-ltb, le-ltb, cases_lt}
use Rattle.std.proofs.lemmas.List.{append-nil}
use Rattle.std.proofs.lemmas.List.FromFn.{filter_of_map_range_with_len_more}
use Rattle.warg_tiles.specs.Tiles.{TileAt}
use Rattle.warg_tiles.specs.TileData.{Tiles}
use Rattle.warg_tiles.specs.TileLog.{last_tile, tile_digests, AreTilesOf}
use Rattle.warg_tiles.proofs.EdgeLemmas.{own_tile, are_append}

-- the partial tiles of the levels below one
abbrev pub partial_below : ℕ → ℕ → List TileAt
partial_below n level = filter (λ t. nat_lt 0 t.width) (map (last_tile n) (range_with_len 0 level))

more : (n level : ℕ) → partial_below n (level + 1) ≡ partial_below n level ++ cond (nat_lt 0 (last_tile n level).width)
    (last_tile n level ∷ []) []
more n level = filter_of_map_range_with_len_more (λ t. nat_lt 0 t.width) (last_tile n) 0 level level (omega arith)

-- the partial tiles with those of a level more
pub partial_more : (H : List ℕ → List ℕ) (ds digests : List (List ℕ)) (n level : ℕ) (old new : Tiles) → length ds ≡ n
    → digests ≡ tile_digests H ds (last_tile n level)
    → (n / 2 ^ (8 * level) % 256 ≡ 0 → new ≡ old)
    → (0 < n / 2 ^ (8 * level) % 256 → new ≡ old ++ (last_tile n level, digests) ∷ [])
    → AreTilesOf H ds (partial_below n level) old → AreTilesOf H ds (partial_below n (level + 1)) new
partial_more H ds digests n level old new count is none some are =
    let m = n / 2 ^ (8 * level) in
    let p = 2 ^ (8 * level) in
    elim (cases_lt 0 (m % 256)) [
      | inl wide ↦
          let whole : m ≡ 256 * (m / 256) + m % 256 = omega arith in
          let rest : n ≡ m * p + n % p = omega arith in
          let own = own_tile H ds (last_tile n level) (omega (arith, ap (λ k. k * p) whole)) in
          rw (more n level, lt-ltb 0 (m % 256) wide, some wide, is)
          (are_append H ds (partial_below n level) _ old _ are own)
      | inr few ↦ rw (more n level, le-ltb 0 (m % 256) few, append-nil (partial_below n level), none (omega arith)) are
    ]
