-- Files of older lengths at a log's places.
use Rattle.std.proofs.Common.{◌≡◌, ◌⊎◌, inl, inr, ℕ, zero, suc, ◌+◌, ◌*◌, ◌/◌, ◌^◌, ◌<◌, ◌≤◌, true, false, List, [], ◌∷◌, ◌++◌, length, map, take, drop, Option, Some, None, IsSome, nat_eq, codes, refl, sym, ap, ◌∙◌, arith}
use Rattle.std.specs.Fmt.{decimal}
use Rattle.std.specs.List.{AllByRecursion, Contains, flat_map, starts_with}
use Rattle.std.proofs.lemmas.Bool.{cases_lt}
use Rattle.std.proofs.lemmas.Bool.Decides.{Decides-eqb}
use Rattle.std.proofs.lemmas.Slice.Eq.{starts_is}
use Rattle.std.proofs.lemmas.List.{length-append, length-map, map-append, take-append-drop, take-map, take-take}
use Rattle.std.proofs.lemmas.List.FromFn.{take-map-range_with_len}
use Rattle.std.proofs.lemmas.Nat.{pow_pos}
use Rattle.std.proofs.Math.Nat.{mul-div_cancel, mul-le-mul_left, mul-le-mul_right}
use Rattle.std.proofs.Math.Seq.{take-add}
use Rattle.warg_crypto.specs.Digests.{sha256}
use Rattle.warg_crypto.specs.Tree.{leaf_digest}
use Rattle.warg_log.specs.Tree.{root_of, leaves_of, leaves_below, own_digest}
use Rattle.warg_tiles.specs.Between.{IsTileOf, filled}
use Rattle.warg_tiles.specs.Tiles.{TileAt, IsTile, node_in, tile_end}
use Rattle.warg_tiles.specs.TileData.{Tiles, IsTileBy}
use Rattle.warg_tiles.specs.TileLog.{RightEdge, StandsFor, AreTilesOf, full_between, partial_tiles, tile_digests}
use Rattle.warg_tiles.specs.TilePaths.{tile_path, entries_path}
use Rattle.warg_tiles.proofs.ForCallers.{full_tiles, partial_of, own_tile, low_level}
use Rattle.warg_folder.specs.Files.{Files}
use Rattle.warg_store.specs.Audited.{HasOlder}
use Rattle.warg_store.specs.Log.{LogOf, IsTileIn, tile_bytes, bundle_bytes}
use Rattle.warg_store.specs.Private.Compared.{IsOwnTile, IsNarrower, HasNarrower, tile_of, path_beside}
use Rattle.warg_store.specs.declared.older.Newer.{Newer}
use Rattle.warg_store.specs.declared.older.Newer.TheVariants.{Tile, Bundle}
use Rattle.warg_store.specs.Reading.{bundle_in}
use Rattle.warg_store.proofs.GrowingLemmas.{from_ground, full_stays}
use Rattle.warg_store.proofs.LeadLemmas.{nodes_order, end_inside, width_at_most, digests_kept}
use Rattle.warg_store.proofs.StagedLemmas.{tiles_of}
use Rattle.warg_store.proofs.PathLemmas.{same_tile, tile_behind, entries_behind}

-- a partial file's path begins as that of the full one in its place
begins : (path : TileAt → List ℕ) (t full : TileAt) → record t { width = 256 } ≡ full
    → path t ≡ (path (record t { width = 256 }) ++ codes ".p/") ++ decimal t.width
    → starts_with nat_eq (path t) (path full ++ codes ".p/") ≡ true
begins path t full same behind =
    let prefix : List ℕ = path full ++ codes ".p/" in
    (starts_is Decides-eqb (path t) prefix (starts_with nat_eq (path t) prefix) refl).1 (decimal t.width)
    (rw same at behind)

-- and so does an older file's
pub begins_partial : (newer : Newer) (t : TileAt) → IsNarrower t (tile_of newer)
    → starts_with nat_eq (path_beside newer t)
    (path_beside newer (record (tile_of newer) { width = 256 }) ++ codes ".p/") ≡ true
begins_partial (Tile newer) t is =
    let full : TileAt = record newer.now.tile { width = 256 } in
    begins tile_path t full (same_tile (record t { width = 256 }) full is.level is.number refl)
    (tile_behind t is.partial)
begins_partial (Bundle number entries) t is =
    let full : TileAt = record { level = 0; number = number; width = 256 } in
    begins entries_path t full (same_tile (record t { width = 256 }) full is.level is.number refl)
    (entries_behind t is.partial)

-- an option that has a value has this one, where each has
some_is : (o : Option (List ℕ)) (value : List ℕ) → ((bytes : List ℕ) → o ≡ Some bytes → bytes ≡ value) → IsSome o
    → o ≡ Some value
some_is None value each there = absurd (let no : true ≡ false = sym there in cc)
some_is (Some bytes) value each there = ap (λ (b : List ℕ). Some b) (each bytes refl)

-- a tile is one of the length at which it ends
own_length : (t : TileAt) → 0 < t.width → t.width ≤ 256 → IsTileOf (tile_end t) t
own_length t some wide = record {
  some = some;
  width = omega (arith, mul-div_cancel (256 * t.number + t.width) (pow_pos (8 * t.level)), wide);
}

-- a narrower tile ends within the log
lower_end : (n : ℕ) (t newer : TileAt) → IsTileOf n newer → t.level ≡ newer.level → t.number ≡ newer.number
    → t.width < newer.width → tile_end t ≤ n
lower_end n t newer of level number less =
    let lower : 256 * t.number + t.width ≤ 256 * newer.number + newer.width = omega (arith, number, less) in
    let end : (256 * newer.number + newer.width) * 2 ^ (8 * t.level) ≤ n = rw level (end_inside n newer of) in
    omega (arith, mul-le-mul_right (2 ^ (8 * t.level)) lower, end)

pub narrow_end : (n : ℕ) (t newer : TileAt) → IsTileOf n newer → IsNarrower t newer → tile_end t ≤ n
narrow_end n t newer of is = lower_end n t newer of is.level is.number is.less

-- an older tile in the place of one of the log has its bytes
pub older_tile : (log : LogOf) (files : Files) (t newer : TileAt) → IsTileIn log newer → t.level ≡ newer.level
    → t.number ≡ newer.number → t.width < newer.width → 0 < t.width → HasOlder log files → IsSome (files (tile_path t))
    → files (tile_path t) ≡ Some (tile_bytes log t)
older_tile log files t newer is level number less some has there =
    some_is (files (tile_path t)) (tile_bytes log t)
    (λ bytes e. has.tile (tile_end t) t bytes (lower_end _ t newer is.exists level number less)
    (omega (arith, level, is.level))
    (own_length t some (omega (arith, less, width_at_most (length log.entries) newer is.exists))) e) there

-- and so has an older bundle
pub older_bundle : (log : LogOf) (files : Files) (t : TileAt) → t.level ≡ 0 → 0 < t.width → t.width ≤ 256
    → 256 * t.number + t.width ≤ length log.entries → HasOlder log files → IsSome (files (entries_path t))
    → files (entries_path t) ≡ Some (bundle_bytes log t)
older_bundle log files t level some wide inside has there =
    some_is (files (entries_path t)) (bundle_bytes log t)
    (λ bytes e. has.bundle (256 * t.number + t.width) t bytes inside level
    (from_ground (256 * t.number + t.width) t level some (omega (arith, wide))) e) there

-- the first entries of a bundle are those of an older one
pub older_entries : {X : Type 0} (entry_of : X → List ℕ) (log : LogOf) (t : TileAt) (xs : List X) → t.width ≤ 256
    → map entry_of xs ≡ bundle_in log t.number
    → map entry_of (take t.width xs) ≡ take t.width (drop (256 * t.number) log.entries)
older_entries entry_of log t xs wide part =
    let behind = drop (256 * t.number) log.entries in
    sym (take-map entry_of t.width xs) ∙ ap (take t.width) part ∙ take-take t.width 256 behind wide

-- with a bundle's entries a log stands for more of another one's
pub bundle_stands : (log : LogOf) (number : ℕ) (old new : RightEdge) (xs : List (List ℕ)) → xs ≡ bundle_in log number
    → ((es : List (List ℕ)) → StandsFor sha256 old (leaves_of sha256 es)
    → StandsFor sha256 new (leaves_of sha256 (es ++ xs)))
    → StandsFor sha256 old (leaves_of sha256 (take (256 * number) log.entries))
    → StandsFor sha256 new (leaves_of sha256 (take (256 * number + 256) log.entries))
bundle_stands log number old new xs are pushed was =
    rw (take-add (256 * number) 256 log.entries, ← are) (pushed (take (256 * number) log.entries) was)

-- Tiles that are made of a log's first entries are the log's.
own_each : (log : LogOf) (ds : List (List ℕ)) (tiles : Tiles)
    → ((t : TileAt) → Contains (tiles_of tiles) t
    → IsTileIn log t × (tile_digests sha256 ds t ≡ tile_digests sha256 (leaves_of sha256 log.entries) t))
    → AllByRecursion (λ (x : TileAt × List (List ℕ)). IsTileBy (own_digest sha256 ds) x.0 x.1) tiles
    → AllByRecursion (IsOwnTile log) tiles
own_each log ds [] each own = tt
own_each log ds (x ∷ xs) each own =
    let first = each x.0 (zero, omega arith, refl) in (
      (first.0, own_tile sha256 ds x.1 x.0 own.0 ∙ first.1),
      own_each log ds xs (λ t (k, low, is). each t (suc k, omega arith, is)) own.1,
    )

pub own_full : (log : LogOf) (m taken len : ℕ) (tiles : Tiles) → length log.entries ≤ 2 ^ 63
    → len ≡ length (take m log.entries)
    → AreTilesOf sha256 (leaves_of sha256 (take m log.entries)) (full_between taken len) tiles
    → AllByRecursion (IsOwnTile log) tiles
own_full log m taken len tiles most count are =
    let ds = leaves_of sha256 (take m log.entries) in
    let low : len ≤ length log.entries = omega (
      arith,
      count,
      ap (λ (l : List (List ℕ)). length l) (take-append-drop m log.entries),
      length-append (take m log.entries) (drop m log.entries),
    ) in
    own_each log ds tiles
    (λ t has.
    let is = ((full_tiles taken len (omega (arith, low, most))).exactly t).0
    (rw are.places at has) in
    let exists = full_stays len (length log.entries) t low is.0 is.1 in (
      record { level = low_level (length log.entries) t most exists; exists = exists },
      sym (ap (λ (l : List (List ℕ)). tile_digests sha256 (leaves_of sha256 l) t)
          (sym (take-append-drop m log.entries))
          ∙ ap (λ (l : List (List ℕ)). tile_digests sha256 l t)
          (map-append (leaf_digest sha256) (take m log.entries) (drop m log.entries))
          ∙ digests_kept ds (leaves_of sha256 (drop m log.entries)) t
          (omega (arith, end_inside len t is.1, count, length-map (take m log.entries) (leaf_digest sha256)))),
    )) are.digests

pub own_parts : (log : LogOf) (len : ℕ) (tiles : Tiles) → length log.entries ≤ 2 ^ 63 → len ≡ length log.entries
    → AreTilesOf sha256 (leaves_of sha256 log.entries) (partial_tiles len) tiles → AllByRecursion (IsOwnTile log) tiles
own_parts log len tiles most count are = own_each log (leaves_of sha256 log.entries) tiles
    (λ t has.
    let is = ((partial_of len (omega (arith, count, most))).exactly t).0
    (rw are.places at has) in
    let exists = rw count at is.0 in
    (record { level = low_level (length log.entries) t most exists; exists = exists }, refl)) are.digests

-- Narrower tiles in the places of a log's own.

-- its digests are the first of the newer one's
first_digests : (ds : List (List ℕ)) (t newer : TileAt) → t.level ≡ newer.level → t.number ≡ newer.number
    → t.width < newer.width → take t.width (tile_digests sha256 ds newer) ≡ tile_digests sha256 ds t
first_digests ds t newer level number less =
    let narrow : TileAt = record { level = newer.level; number = newer.number; width = t.width } in
    take-map-range_with_len (λ i. root_of sha256 (leaves_below (node_in newer i) ds)) 0 newer.width t.width
    (omega (arith, less)) ∙ ap (tile_digests sha256 ds) (sym (same_tile t narrow level number refl))

-- and its bytes are the first of the newer one's
pub narrow_bytes : (log : LogOf) (t newer : TileAt) (digests : List (List ℕ))
    → digests ≡ tile_digests sha256 (leaves_of sha256 log.entries) newer → IsNarrower t newer
    → flat_map (λ digest. digest) (take t.width digests) ≡ tile_bytes log t
narrow_bytes log t newer digests are is = ap (flat_map (λ (digest : List ℕ). digest))
    (ap (take t.width) are ∙ first_digests (leaves_of sha256 log.entries) t newer is.level is.number is.less)

-- what is left in the places of compared tiles has the log's bytes
pub own_narrow : (log : LogOf) (files : Files) (tiles : Tiles)
    → AllByRecursion (λ (x : TileAt × List (List ℕ)). IsTileBy (own_digest sha256 (leaves_of sha256 log.entries)) x.0
    x.1) tiles
    → AllByRecursion (HasNarrower files) tiles → (newer : TileAt)
    → Contains (tiles_of tiles) newer → (t : TileAt) (bytes : List ℕ)
    → IsNarrower t newer → files (tile_path t) ≡ Some bytes → bytes ≡ tile_bytes log t
own_narrow log files [] own has newer (k, low, is) t bytes narrow there = absurd (omega arith)
own_narrow log files (x ∷ xs) own has newer (zero, low, is) t bytes narrow there =
    let here : IsNarrower t x.0 = rw is narrow in
    has.0 t bytes here there ∙ narrow_bytes log t x.0 x.1
    (own_tile sha256 (leaves_of sha256 log.entries) x.1 x.0 own.0) here
own_narrow log files (x ∷ xs) own has newer (suc k, low, is) t bytes narrow there =
    own_narrow log files xs own.1 has.1 newer (k, omega arith, is) t bytes narrow there

-- The tile in the place of an older one, at a greater length.
pub record IsPlaced (n : ℕ) (t newer : TileAt) : Type 0 where
  pub is : IsTile t
  pub of : IsTileOf n newer
  pub level : t.level ≡ newer.level
  pub number : t.number ≡ newer.number
  pub wide : t.width ≤ newer.width

pub placed : (m n : ℕ) (t : TileAt) → m ≤ n → n ≤ 2 ^ 63 → t.level < 8 → IsTileOf m t
    → IsPlaced n t (filled t.level (n / 2 ^ (8 * t.level)) t.number)
placed m n t longer most level of =
    let one : 1 ≤ 2 ^ (8 * t.level) = omega (arith, pow_pos (8 * t.level)) in
    let more = nodes_order t.level longer in
    record {
      is = record {
        level = omega (arith, level);
        number = omega (arith, end_inside m t of, mul-le-mul_left (256 * t.number + t.width) one, longer, most);
        some = of.some;
        most = width_at_most m t of;
      };
      of = record { some = omega (arith, of.some, of.width, more); width = refl };
      level = refl;
      number = refl;
      wide = omega (arith, of.width, more);
    }

-- it is the same tile, or a wider one
pub same_or_narrower : (n : ℕ) (t newer : TileAt) → IsPlaced n t newer → (t ≡ newer) ⊎ IsNarrower t newer
same_or_narrower n t newer at = elim (cases_lt t.width newer.width) [
  | inl less ↦ inr (record {
    is = at.is;
    level = at.level;
    number = at.number;
    less = less;
    partial = omega (arith, less, width_at_most n newer at.of);
  })
  | inr same ↦ inl (same_tile t newer at.level at.number (omega (arith, same, at.wide)))
]

-- an older tile's digests are the first of a newer one's
pub older_digests : (ds : List (List ℕ)) (t newer : TileAt) → t.level ≡ newer.level → t.number ≡ newer.number
    → t.width < newer.width
    → tile_digests sha256 ds newer ≡ tile_digests sha256 ds t ++ drop t.width (tile_digests sha256 ds newer)
older_digests ds t newer level number less =
    let all = tile_digests sha256 ds newer in
    sym (take-append-drop t.width all)
    ∙ ap (λ (l : List (List ℕ)). l ++ drop t.width all) (first_digests ds t newer level number less)
