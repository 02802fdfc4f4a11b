-- The digest of a node by the first of some tiles.
use Rattle.std.proofs.Common.{◌≡◌, ℕ, ◌+◌, ◌-◌, ◌*◌, ◌%◌, ◌^◌, ◌<◌, ◌≤◌, ◌==◌, ◌&&◌, nat_le, true, take, List, [], ◌∷◌, ◌++◌, length, drop, map, get_or, slice_index_or, Option, Some, arith}
use Rattle.std.proofs.lemmas.List.{get_or_append_left, get_or-map, length-map}
use Rattle.std.proofs.lemmas.List.Folds.{list_any_at}
use Rattle.std.proofs.Math.Seq.{get_or-append_seam}
use Rattle.warg_log.specs.Nodes.{height_of}
use Rattle.warg_log.specs.Tree.{root_of}
use Rattle.warg_tiles.specs.Tiles.{TileAt, tile_over}
use Rattle.warg_tiles.specs.TileData.{covers, covered_by, digest_of}

-- the root of the digests that end where a node's leaves end
pub held_digest : (H : List ℕ → List ℕ) (t : TileAt) (ds : List (List ℕ)) (x h end : ℕ) (least : TileAt) (root : List ℕ)
    → least ≡ tile_over x → h ≡ height_of x → end ≡ least.width → end ≤ 256
    → (t.level == least.level && (t.number == least.number && nat_le least.width t.width)) ≡ true
    → root ≡ root_of H (take (end - (end - 1 * 2 ^ (h % 8) % 2 ^ 64)) (drop (end - 1 * 2 ^ (h % 8) % 2 ^ 64) ds))
    → Some root ≡ digest_of H (t, ds) x
held_digest H t ds x h end least root is height width most covers made = grind arith

-- what each node of a tile has
pub digests_more : (F : ℕ → Option (List ℕ)) (old new : List (List ℕ)) (n : ℕ) (d : List ℕ) → length old ≡ n
    → new ≡ old ++ d ∷ [] → F n ≡ Some d → ((k : ℕ) → k < n → F k ≡ Some (slice_index_or old k []))
    → (k : ℕ) → k < n + 1 → F k ≡ Some (slice_index_or new k [])
digests_more F old new n d len is here below = grind (arith, get_or-append_seam, get_or_append_left)

-- tiles of which the one at a place covers another one
pub covered_at : {X : Type 0} (f : X → TileAt × List (List ℕ)) (xs : List X) (i : ℕ) (x : X) (other : TileAt)
    → i < length xs → x ≡ get_or xs i x → covers (f x).0 other ≡ true → covered_by (map f xs) other ≡ true
covered_at f xs i x other inside is one = grind (arith, list_any_at, length-map xs f, get_or-map f xs i x (f x) inside)
