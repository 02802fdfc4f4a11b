-- The right edge of a log, level by level.
use Rattle.std.proofs.Common.{◌≡◌, ℕ, suc, ◌+◌, ◌-◌, ◌*◌, ◌/◌, ◌%◌, ◌^◌, ◌<◌, ◌≤◌, ◌==◌, if◌then◌else◌, List, [], ◌∷◌, ◌++◌, length, take, drop, slice_index_or, Some, Result, Ok, Err, refl, sym, ap, ◌∙◌, arith}
use Rattle.std.specs.Prelude.{IfOk}
use Rattle.std.proofs.lemmas.Nat.{pow-add}
use Rattle.std.proofs.lemmas.Bool.{le-leb, ne_eqb, eq-eqb}
use Rattle.std.proofs.lemmas.List.{append_assoc, append-nil, map-append, length-append, length-take, take-take, take_at, drop_at}
use Rattle.std.proofs.lemmas.List.FromFn.{length-map-range_with_len, get_or-map-range_with_len, map-range_with_len_more}
use Rattle.warg_log.specs.Nodes.{end_of, number_of}
use Rattle.warg_log.specs.Tree.{root_of, root_over, leaves_below}
use Rattle.warg_log.proofs.ForCallers.{over_at, pow_below_pow}
use Rattle.warg_tiles.specs.Tiles.{TileAt, node_in}
use Rattle.warg_tiles.specs.TileData.{Tiles}
use Rattle.warg_protobuf.proofs.ForCallers.{all_append}
use Rattle.warg_tiles.specs.TileLog.{completed_from, tile_digests, AreTilesOf}
use Rattle.warg_tiles.specs.Private.Edges.{edge_width, width_from, edge_within, edge_from, EndsWith, AreAdded}
use Rattle.warg_tiles.proofs.RootLemmas.{roots_of_parts}

-- the digest of a node is the root over its leaves
pub node_root : (H : List ℕ → List ℕ) (ds : List (List ℕ)) (k j : ℕ) → root_of H (leaves_below (number_of k j) ds)
    ≡ root_over H ds (j * 2 ^ k) (2 ^ k)
node_root H ds k j =
    let at = over_at k j in
    rw at.1 (rw at.0 refl)

-- the leaves below a node of the next level
pub pow_up : (level : ℕ) → 2 ^ (8 * (level + 1)) ≡ 256 * 2 ^ (8 * level)
pow_up level = let sum : 8 * (level + 1) ≡ 8 + 8 * level = omega arith in rw sum (pow-add 2 8 (8 * level))

-- the edge's width by levels
pub width_step : (level count : ℕ) → level < 8 → width_from level count ≡ count % 256 + width_from (level + 1)
    (count / 256)
unfolding edge_width
width_step level count low = let one : 8 - level ≡ suc (8 - (level + 1)) = omega arith in rw one refl

-- the edge by levels
pub edge_step : (H : List ℕ → List ℕ) (ds : List (List ℕ)) (level count : ℕ) → level < 8
    → edge_from H ds level count ≡ edge_from H ds (level + 1) (count / 256) ++ tile_digests H ds
    (record { level = level; number = count / 256; width = count % 256 })
unfolding edge_within
edge_step H ds level count low = let one : 8 - level ≡ suc (8 - (level + 1)) = omega arith in rw one refl

-- a node more stands in the same tile, or is the first of the next one
next_place : (count : ℕ) → (count % 256 < 255 → ((count + 1) / 256 ≡ count / 256)
    × ((count + 1) % 256 ≡ count % 256 + 1)) × (count % 256 ≡ 255 → ((count + 1) / 256 ≡ count / 256 + 1)
    × ((count + 1) % 256 ≡ 0))
next_place count = (λ less. (omega arith, omega arith), λ full. (omega arith, omega arith))

-- the tiles that are completed by levels
completed_step : (level count : ℕ) → level < 8
    → completed_from (8 - level) level count
    ≡ (if count % 256 == 0 then record { level = level; number = count / 256 - 1; width = 256 } ∷ completed_from
    (8 - (level + 1)) (level + 1) (count / 256) else [])
unfolding completed_from
completed_step level count low = let one : 8 - level ≡ suc (8 - (level + 1)) = omega arith in rw one refl

completed_more : (level count : ℕ) → level < 8 → count % 256 ≡ 255
    → completed_from (8 - level) level (count + 1) ≡ record { level = level; number = count / 256; width = 256 }
    ∷ completed_from (8 - (level + 1)) (level + 1) (count / 256 + 1)
completed_more level count low full = grind (arith, next_place count, completed_step level (count + 1) low, eq-eqb)

-- a tile has as many digests as its width
pub tile_count : (H : List ℕ → List ℕ) (ds : List (List ℕ)) (t : TileAt) → length (tile_digests H ds t) ≡ t.width
tile_count H ds t = length-map-range_with_len (λ i. root_of H (leaves_below (node_in t i) ds)) 0 t.width

-- a digest of a tile more
pub digests_more : (H : List ℕ → List ℕ) (ds : List (List ℕ)) (level number width : ℕ)
    → tile_digests H ds (record { level = level; number = number; width = width + 1 })
    ≡ tile_digests H ds (record { level = level; number = number; width = width }) ++ root_of H
    (leaves_below (number_of (8 * level) (256 * number + width)) ds) ∷ []
digests_more H ds level number width = map-range_with_len_more
    (λ i. root_of H (leaves_below (number_of (8 * level) (256 * number + i)) ds)) 0 width width (omega arith)

-- a tile's digest at a place
pub digest_at_place : (H : List ℕ → List ℕ) (ds : List (List ℕ)) (t : TileAt) (i : ℕ) → i < t.width
    → slice_index_or (tile_digests H ds t) i [] ≡ root_of H (leaves_below (node_in t i) ds)
digest_at_place H ds t i low = get_or-map-range_with_len (λ i. root_of H (leaves_below (node_in t i) ds)) 0 t.width i i
    [] low (omega arith)

-- tiles behind tiles
pub are_append : (H : List ℕ → List ℕ) (ds : List (List ℕ)) (xs ys : List TileAt) (old new : Tiles)
    → AreTilesOf H ds xs old → AreTilesOf H ds ys new → AreTilesOf H ds (xs ++ ys) (old ++ new)
are_append H ds xs ys old new one two = grind (arith, map-append, all_append)

-- the digests of a tile that is there are the log's own
pub own_tile : (H : List ℕ → List ℕ) (ds : List (List ℕ)) (t : TileAt)
    → (256 * t.number + t.width) * 2 ^ (8 * t.level) ≤ length ds
    → AreTilesOf H ds (t ∷ []) ((t, tile_digests H ds t) ∷ [])
own_tile H ds t fits = record {
  places = refl;
  digests = (
    record {
      count = tile_count H ds t;
      digest = λ i low.
          let at = over_at (8 * t.level) (256 * t.number + i) in
          let place : end_of (node_in t i) ≡ (256 * t.number + i + 1) * 2 ^ (8 * t.level) = rw (at.1, at.0) refl in
          let within : (256 * t.number + i + 1) * 2 ^ (8 * t.level) ≤ (256 * t.number + t.width) * 2 ^ (8 * t.level) =
          grind arith in
          rw (le-leb (end_of (node_in t i)) (length ds) (omega arith)) (ap Some (sym (digest_at_place H ds t i low)));
    },
    tt,
  );
}

-- the parts of an edge at its lowest level
pub edge_split : (H : List ℕ → List ℕ) (ds edge : List (List ℕ)) (level count : ℕ) → level < 8
    → edge ≡ edge_from H ds level count
    → (take (length edge - count % 256) edge ≡ edge_from H ds (level + 1) (count / 256))
    × (drop (length edge - count % 256) edge
    ≡ tile_digests H ds (record { level = level; number = count / 256; width = count % 256 }))
edge_split H ds edge level count low is = grind (
  arith,
  edge_step H ds level count low,
  length-append,
  tile_count H
      ds (record { level = level; number = count / 256; width = count % 256 }),
  take_at,
  drop_at,
)

-- a node's digest goes behind a partial tile
pub edge_partial : (H : List ℕ → List ℕ) (ds edge : List (List ℕ)) (digest : List ℕ) (level count : ℕ) → level < 8
    → count % 256 < 255 → EndsWith H ds level count edge digest
    → edge ++ digest ∷ [] ≡ edge_from H ds level (count + 1)
edge_partial H ds edge digest level count low less is =
    let next = (next_place count).0 less in
    let place : 256 * (count / 256) + count % 256 ≡ count = omega arith in
    grind (arith, edge_step, digests_more, append_assoc)

-- the parts of an edge whose last tile is filled, and where the tile's leaves end
edge_parts : (H : List ℕ → List ℕ) (ds edge : List (List ℕ)) (digest : List ℕ) (level count : ℕ) → level < 8
    → count % 256 ≡ 255 → EndsWith H ds level count edge digest
    → (take (length edge - 255) edge ≡ edge_from H ds (level + 1) (count / 256))
    × (drop (length edge - 255) edge ++ digest ∷ []
    ≡ tile_digests H ds (record { level = level; number = count / 256; width = 256 }))
    × ((256 * (count / 256) + 256) * 2 ^ (8 * level) ≡ length ds)
edge_parts H ds edge digest level count low full is =
    let parts = rw full at (edge_split H ds edge level count low is.before) in
    let place : 256 * (count / 256) + 255 ≡ count = omega arith in (
      parts.0,
      rw (parts.1, is.last, digests_more H ds level (count / 256) 255, place) refl,
      omega (arith, is.ends, ap (λ n. n * 2 ^ (8 * level)) place),
    )

-- the root of a full tile is the digest of the node above it
pub root_up : (H : List ℕ → List ℕ) (ds : List (List ℕ)) (level number : ℕ)
    → (256 * number + 256) * 2 ^ (8 * level) ≤ length ds
    → root_of H (tile_digests H ds (record { level = level; number = number; width = 256 }))
    ≡ root_of H (leaves_below (number_of (8 * (level + 1)) number) ds)
root_up H ds level number fits =
    let t : TileAt = record { level = level; number = number; width = 256 } in
    let unit = 2 ^ (8 * level) in
    let sum : 8 + 8 * level ≡ 8 * (level + 1) = omega arith in
    let start : number * 2 ^ (8 * (level + 1)) ≡ 256 * number * unit = omega
    (arith, ap (λ p. number * p) (pow_up level)) in
    let size : 2 ^ (8 + 8 * level) ≡ 256 * unit = pow-add 2 8 (8 * level) in
    roots_of_parts H ds (tile_digests H ds t) (8 * level) 8 (number * 2 ^ (8 * (level + 1)))
    (omega (arith, start, size, fits)) (tile_count H ds t)
    (λ i low. grind (arith, digest_at_place H ds t i low, node_root H ds (8 * level) (256 * number + i))) ∙ ap
    (λ n. root_over H ds (number * 2 ^ (8 * (level + 1))) (2 ^ n)) sum ∙ sym
    (node_root H ds (8 * (level + 1)) number)

-- the level of a node that is there is below 8
pub fits_low : (level count : ℕ) → (count + 1) * 2 ^ (8 * level) ≤ 2 ^ 63 → level < 8
fits_low level count fits = grind (arith, pow_below_pow (8 * level) 64)

-- and so does that above it, where the node is the last of a tile
pub next_fits : (level count : ℕ) → (count + 1) * 2 ^ (8 * level) ≤ 2 ^ 63 → count % 256 ≡ 255
    → (count / 256 + 1) * 2 ^ (8 * (level + 1)) ≤ 2 ^ 63
next_fits level count fits full =
    let whole : count + 1 ≡ 256 * (count / 256 + 1) = omega (arith, full) in
    omega (arith, fits, ap (λ n. n * 2 ^ (8 * level)) whole, ap (λ p. (count / 256 + 1) * p) (pow_up level))

-- the width with a node more
pub width_more : (level count : ℕ) → level < 8 → count % 256 < 255 → width_from level (count + 1)
    ≡ width_from level count + 1
width_more level count low less = grind (arith, next_place, width_step)

-- the width with a full tile more
pub width_full : (level count : ℕ) → level < 8 → count % 256 ≡ 255
    → (width_from level count ≡ 255 + width_from (level + 1) (count / 256))
    × (width_from level (count + 1) ≡ width_from (level + 1) (count / 256 + 1))
width_full level count low full = grind (arith, next_place, width_step)

-- no tile is filled
pub nothing_added : (H : List ℕ → List ℕ) (ds : List (List ℕ)) (old : Tiles) (level count : ℕ) → level < 8
    → count % 256 < 255 → AreAdded H ds (completed_from (8 - level) level (count + 1)) old old
nothing_added H ds old level count low less = grind (
  arith,
  completed_step level (count + 1) low,
  ne_eqb,
  append-nil
      old,
)

-- the first digests of an edge whose last tile was filled, with the digest above it
pub edge_full : (H : List ℕ → List ℕ) (ds edge above : List (List ℕ)) (last : List ℕ) (level count kept : ℕ) → level < 8
    → count % 256 ≡ 255
    → above ≡ take (length edge - 255) edge → kept ≤ length above → take kept above ++ last ∷ []
    ≡ edge_from H ds (level + 1) (count / 256 + 1)
    → take kept edge ++ last ∷ [] ≡ edge_from H ds level (count + 1)
edge_full H ds edge above last level count kept low full front few is = grind
    (arith, next_place, take-take, length-take, edge_step, append-nil)

-- the edge above a tile that was filled ends with the tile's root
pub ends_up : (H : List ℕ → List ℕ) (ds edge above digests : List (List ℕ)) (digest root : List ℕ) (level count : ℕ)
    → level < 8 → count % 256 ≡ 255 → EndsWith H ds level count edge digest
    → above ≡ take (length edge - 255) edge → digests ≡ drop (length edge - 255) edge ++ digest ∷ []
    → root ≡ root_of H digests → EndsWith H ds (level + 1) (count / 256) above root
ends_up H ds edge above digests digest root level count low full is front rest made =
    let parts = edge_parts H ds edge digest level count low full is in
    record {
      ends = omega (arith, parts.2, ap (λ p. (count / 256 + 1) * p) (pow_up level));
      before = front ∙ parts.0;
      last = made ∙ ap (root_of H) (rest ∙ parts.1) ∙ root_up H ds level (count / 256) (omega (arith, parts.2));
    }

-- the tiles with one that was filled
pub tile_added : (H : List ℕ → List ℕ) (ds edge digests : List (List ℕ)) (digest : List ℕ) (old new pushed : Tiles)
    (tile : TileAt) (level count : ℕ) → level < 8 → count % 256 ≡ 255 → EndsWith H ds level count edge digest
    → digests ≡ drop (length edge - 255) edge ++ digest ∷ []
    → tile ≡ record { level = level; number = count / 256; width = 256 } → pushed ≡ old ++ (tile, digests) ∷ []
    → AreAdded H ds (completed_from (8 - (level + 1)) (level + 1) (count / 256 + 1)) pushed new
    → AreAdded H ds (completed_from (8 - level) level (count + 1)) old new
tile_added H ds edge digests digest old new pushed tile level count low full is rest at put added =
    let parts = edge_parts H ds edge digest level count low full is in
    let t : TileAt = record { level = level; number = count / 256; width = 256 } in
    let own = own_tile H ds t (omega (arith, parts.2)) in
    let one : AreTilesOf H ds (t ∷ []) ((tile, digests) ∷ []) = rw (at, rest, parts.1) own in
    grind (arith, append_assoc, completed_more, are_append)

-- two facts of a value that may be there
pub both : {X E : Type 0} (r : Result X E) (P Q R : X → Type 0) → ((x : X) → P x → Q x → R x) → IfOk r P → IfOk r Q
    → IfOk r R
both (Ok x) P Q R f p q = f x p q
both (Err e) P Q R f p q = tt
