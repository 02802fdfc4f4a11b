-- What a log that keeps its right edge stands for, with an entry more.
use Rattle.std.proofs.Common.{◌≡◌, ℕ, zero, suc, ◌+◌, ◌-◌, ◌*◌, ◌/◌, ◌%◌, ◌^◌, ◌<◌, ◌≤◌, List, [], ◌∷◌, ◌++◌, length, take, drop, Some, refl, ap, ◌∙◌, arith}
use Rattle.std.specs.List.{flat_map}
use Rattle.std.proofs.Math.Nat.{div-div-eq-div-mul}
use Rattle.std.proofs.Math.Seq.{get_or-append_seam}
use Rattle.std.proofs.lemmas.Bool.{le-leb}
use Rattle.std.proofs.lemmas.Grind.{flat_map-append}
use Rattle.std.proofs.lemmas.List.FromFn.{fill_by_all, map-range_with_len_more}
use Rattle.std.proofs.lemmas.List.{append_assoc, append-nil, length-append, take-append-le, drop-append-le, length-drop, map-id}
use Rattle.warg_log.specs.Tree.{root_of, root_over, leaves_below, own_digest}
use Rattle.warg_protobuf.proofs.ForCallers.{all_weaken}
use Rattle.warg_log.proofs.ForCallers.{root_over_one}
use Rattle.warg_tiles.specs.Tiles.{TileAt, node_in}
use Rattle.warg_tiles.specs.TileData.{Tiles, IsTileBy}
use Rattle.warg_tiles.specs.TileLog.{RightEdge, last_tile, completed_from, completed_at, full_between, tile_digests, edge_digests, AreTilesOf, StandsFor}
use Rattle.warg_tiles.specs.Private.Edges.{width_from, edge_within, edge_from, EndsWith, AreAdded}
use Rattle.warg_tiles.proofs.OwnLemmas.{own_is}
use Rattle.warg_tiles.proofs.EdgeLemmas.{node_root, pow_up, width_step, edge_split, tile_count, digest_at_place, are_append}

-- the nodes of the next level
pub level_count : (n level : ℕ) → n / 2 ^ (8 * level) / 256 ≡ n / 2 ^ (8 * (level + 1))
level_count n level = grind (arith, pow_up, div-div-eq-div-mul)

-- the width of a length's edge from a level on, and its digests, without those of the level's partial tile
pub width_below : (level n width : ℕ) → level < 8 → width ≡ width_from level (n / 2 ^ (8 * level))
    → width ≡ n / 2 ^ (8 * level) % 256 + width_from (level + 1) (n / 2 ^ (8 * (level + 1)))
width_below level n width low is = rw (← level_count n level) (is ∙ width_step level (n / 2 ^ (8 * level)) low)

pub edge_below : (H : List ℕ → List ℕ) (ds edge : List (List ℕ)) (level n : ℕ) → level < 8
    → edge ≡ edge_from H ds level (n / 2 ^ (8 * level))
    → (take (length edge - n / 2 ^ (8 * level) % 256) edge ≡ edge_from H ds (level + 1) (n / 2 ^ (8 * (level + 1))))
    × (drop (length edge - n / 2 ^ (8 * level) % 256) edge ≡ tile_digests H ds (last_tile n level))
edge_below H ds edge level n low is = grind (
  arith,
  edge_split H ds edge level (n / 2 ^ (8 * level)) low is,
  level_count n level,
)

-- the digests of the partial tiles of some levels of a length
unfoldable pub edge_at : (List ℕ → List ℕ) → List (List ℕ) → ℕ → ℕ → ℕ → List (List ℕ)
edge_at H ds n zero level = []
edge_at H ds n (suc levels) level = edge_at H ds n levels (level + 1) ++ tile_digests H ds (last_tile n level)

edge_at_is : (H : List ℕ → List ℕ) (ds : List (List ℕ)) (n levels level : ℕ)
    → edge_within H ds levels level (n / 2 ^ (8 * level)) ≡ edge_at H ds n levels level
unfolding edge_within edge_at
edge_at_is H ds n zero level = refl
edge_at_is H ds n (suc levels) level = rw (level_count n level, edge_at_is H ds n levels (level + 1)) refl

pub levels_flat : (H : List ℕ → List ℕ) (ds : List (List ℕ)) (n : ℕ)
    → flat_map (λ level. tile_digests H ds (last_tile n level)) (7 ∷ 6 ∷ 5 ∷ 4 ∷ 3 ∷ 2 ∷ 1 ∷ 0 ∷ [])
    ≡ edge_at H ds n 8 0
unfolding edge_at
levels_flat H ds n = simp (append_assoc, append-nil)

-- the edge of a log, level by level
pub edge_digests_is : (H : List ℕ → List ℕ) (ds : List (List ℕ)) → edge_digests H ds ≡ edge_from H ds 0 (length ds)
edge_digests_is H ds = grind (arith, levels_flat H ds (length ds), edge_at_is H ds (length ds) 8 0)

pub edge_of : (H : List ℕ → List ℕ) (e : RightEdge) (ds : List (List ℕ)) → StandsFor H e ds
    → e.digests ≡ edge_from H ds 0 e.len
edge_of H e ds stands = stands.edge ∙ edge_digests_is H ds ∙ ap (edge_from H ds 0) stands.count

-- the root over leaves that are there stays the same as the log grows
root_over_append : (H : List ℕ → List ℕ) (ds more : List (List ℕ)) (a n : ℕ) → a + n ≤ length ds
    → root_over H (ds ++ more) a n ≡ root_over H ds a n
root_over_append H ds more a n fits = grind (arith, drop-append-le, take-append-le, length-drop)

-- and so do the digests of a tile that is there
tile_append : (H : List ℕ → List ℕ) (ds more : List (List ℕ)) (t : TileAt)
    → (256 * t.number + t.width) * 2 ^ (8 * t.level) ≤ length ds → tile_digests H (ds ++ more) t ≡ tile_digests H ds t
tile_append H ds more t fits = fill_by_all (λ i. root_of H (leaves_below (node_in t i) ds))
    (tile_digests H (ds ++ more) t) t.width [] (tile_count H (ds ++ more) t)
    (λ i low. grind (arith, digest_at_place, node_root, root_over_append))

-- and the edge of nodes that are there
edge_append : (H : List ℕ → List ℕ) (ds more : List (List ℕ)) (levels level count : ℕ)
    → count * 2 ^ (8 * level) ≤ length ds → edge_within H (ds ++ more) levels level count
    ≡ edge_within H ds levels level count
unfolding edge_within
edge_append H ds more zero level count fits = refl
edge_append H ds more (suc levels) level count fits =
    let parts : count ≡ 256 * (count / 256) + count % 256 = omega arith in
    let size = ap (λ n. n * 2 ^ (8 * level)) parts in
    let above : count / 256 * 2 ^ (8 * (level + 1)) ≤ length ds = omega
    (arith, ap (λ p. count / 256 * p) (pow_up level)) in
    grind (
      arith,
      edge_append H ds more levels (level + 1) (count / 256) above,
      tile_append H ds more
          (record { level = level; number = count / 256; width = count % 256 }),
    )

-- and the tiles of a log
own_append : (H : List ℕ → List ℕ) (ds more : List (List ℕ)) (x : ℕ) (d : List ℕ) → own_digest H ds x ≡ Some d
    → own_digest H (ds ++ more) x ≡ Some d
own_append H ds more x d is = grind (arith, own_is, le-leb, length-append, root_over_append)

pub tiles_append : (H : List ℕ → List ℕ) (ds more : List (List ℕ)) (expected : List TileAt) (tiles : Tiles)
    → AreTilesOf H ds expected tiles → AreTilesOf H (ds ++ more) expected tiles
tiles_append H ds more expected tiles are = record {
  places = are.places;
  digests = all_weaken
      (λ (t : TileAt × List (List ℕ)). IsTileBy (own_digest H ds) t.0 t.1)
      (λ (t : TileAt × List (List ℕ)). IsTileBy (own_digest H (ds ++ more)) t.0 t.1) (grind (arith, own_append)) tiles
      are.digests;
}

-- the edge before an entry, and the entry's digest
pub push_ends : (H : List ℕ → List ℕ) (ds edge : List (List ℕ)) (d : List ℕ) (n : ℕ) → length ds ≡ n
    → edge ≡ edge_digests H ds → EndsWith H (ds ++ d ∷ []) 0 n edge d
push_ends H ds edge d n count is = grind (
  arith,
  length-append ds (d ∷ []),
  edge_digests_is H ds,
  edge_append,
  node_root H (ds ++ d ∷ []) 0 n,
  root_over_one,
  get_or-append_seam ds d [] [],
)

-- the full tiles with an entry more
pub full_more : (old new : ℕ) → old ≤ new → full_between old (new + 1) ≡ full_between old new ++ completed_at (new + 1)
full_more old new order =
    let count : new + 1 - old ≡ new - old + 1 = omega arith in
    let more = simp map-id at (map-range_with_len_more (λ (n : ℕ). n) (old + 1) (new - old) (new + 1) (omega arith))
    in
    grind (arith, flat_map-append, append-nil)

-- what a log stands for with an entry more
pub push_stands : (H : List ℕ → List ℕ) (e : RightEdge) (ds edge : List (List ℕ)) (d : List ℕ) (filled full : Tiles)
    → e.taken ≤ e.len → StandsFor H e ds → edge ≡ edge_from H (ds ++ d ∷ []) 0 (e.len + 1)
    → AreAdded H (ds ++ d ∷ []) (completed_from (8 - 0) 0 (e.len + 1)) [] filled → full ≡ e.full ++ filled
    → StandsFor H (record { len = e.len + 1; taken = e.taken; digests = edge; full = full }) (ds ++ d ∷ [])
push_stands H e ds edge d filled full order stands made added is =
    let size : length (ds ++ d ∷ []) ≡ e.len + 1 = omega (arith, length-append ds (d ∷ []), stands.count) in
    let tiles : AreTilesOf H (ds ++ d ∷ []) (completed_at (e.len + 1)) filled = rw added.1 added.2 in
    grind (
      arith,
      edge_digests_is H (ds ++ d ∷ []),
      full_more e.taken e.len order,
      are_append H (ds ++ d ∷ [])
          (full_between e.taken e.len) (completed_at (e.len + 1)) e.full filled
          (tiles_append H ds (d ∷ []) _ e.full stands.full) tiles,
      tiles_append H ds (d ∷ []),
    )
