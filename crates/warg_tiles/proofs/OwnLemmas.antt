-- What the tiles of a log come to.
use Rattle.std.proofs.Common.{◌≡◌, ℕ, ◌+◌, ◌-◌, ◌*◌, ◌/◌, ◌%◌, ◌^◌, ◌<◌, ◌≤◌, true, List, [], ◌∷◌, length, take, drop, slice_index_or, Option, Some, None, refl, sym, ap, ◌∙◌, arith}
use Rattle.std.specs.List.{AllByRecursion}
use Rattle.std.proofs.lemmas.Nat.{pow_pos, pow-add}
use Rattle.std.proofs.lemmas.Bool.{leb-true, le-leb, eqb-true, and_parts}
use Rattle.std.proofs.lemmas.Option.{cond_some}
use Rattle.std.proofs.Math.Dec.{leb}
use Rattle.std.proofs.lemmas.List.{get_or-take, get_or-drop, length-take-le, length-drop}
use Rattle.warg_log.specs.Nodes.{height_of, place_of, start_of, end_of}
use Rattle.warg_log.specs.Tree.{root_over, own_digest}
use Rattle.warg_log.proofs.ForCallers.{over_at}
use Rattle.warg_tiles.specs.Tiles.{TileAt, node_in, place_in_level, tile_over}
use Rattle.std.specs.Option.{option_or}
use Rattle.warg_tiles.specs.TileData.{Tiles, IsTileBy, has_below, root_below, digest_of, digest_by}
use Rattle.warg_tiles.proofs.TileLemmas.{place_in_level_is, height_parts}
use Rattle.warg_tiles.proofs.RootLemmas.{roots_of_parts}

-- a log's own digest of a node is the root over its leaves, which are there
pub own_is : (H : List ℕ → List ℕ) (ds : List (List ℕ)) (x : ℕ) (d : List ℕ) → own_digest H ds x ≡ Some d
    → (end_of x ≤ length ds) × (d ≡ root_over H ds (start_of x) (2 ^ height_of x))
own_is H ds x d is = grind (arith, cond_some, leb, leb-true)

-- a digest of a log's tile is the root over the leaves below it, which are there
tile_digest_is : (H : List ℕ → List ℕ) (ds digests : List (List ℕ)) (t : TileAt) (i : ℕ)
    → IsTileBy (own_digest H ds) t digests → i < t.width
    → ((256 * t.number + i + 1) * 2 ^ (8 * t.level) ≤ length ds)
    × (slice_index_or digests i [] ≡ root_over H ds ((256 * t.number + i) * 2 ^ (8 * t.level)) (2 ^ (8 * t.level)))
tile_digest_is H ds digests t i tile inside = grind (
  arith,
  over_at (8 * t.level) (256 * t.number + i),
  own_is H ds
      (node_in t i) (slice_index_or digests i []) (tile.digest i inside),
)

-- the test of a tile that has all digests below a node
pub below_is : (t : TileAt) (x : ℕ) → has_below t x ≡ true → (t.level ≡ (tile_over x).level)
    × (t.number ≡ (tile_over x).number) × ((tile_over x).width ≤ t.width)
below_is t x is = grind (arith, and_parts, eqb-true, leb-true)

-- a node's leaves by those below its tile's digests
pub leaves_by_tile : (x level : ℕ) → level ≡ height_of x / 8 → (start_of x ≡ place_in_level x * 2 ^ (8 * level))
    × (2 ^ height_of x ≡ 2 ^ (height_of x % 8 + 8 * level))
    × (2 ^ height_of x ≡ 2 ^ (height_of x % 8) * 2 ^ (8 * level))
leaves_by_tile x level is =
    let parts : 2 ^ height_of x ≡ 2 ^ (8 * level) * 2 ^ (height_of x % 8) = height_parts (height_of x)
    ∙ ap (λ l. 2 ^ (8 * l) * 2 ^ (height_of x % 8)) (sym is) in
    let place = place_in_level_is x in (
      omega (arith, ap (λ n. place_of x * n) parts, ap (λ n. n * 2 ^ (8 * level)) place),
      parts
          ∙ omega (arith, pow-add 2 (height_of x % 8) (8 * level)),
      parts ∙ omega arith,
    )

-- the root over a log's own digests below a node is the root over the node's leaves, which are there
root_below_own : (H : List ℕ → List ℕ) (ds digests : List (List ℕ)) (t : TileAt) (x : ℕ)
    → IsTileBy (own_digest H ds) t digests → has_below t x ≡ true
    → (end_of x ≤ length ds) × (root_below H digests x ≡ root_over H ds (start_of x) (2 ^ height_of x))
root_below_own H ds digests t x tile has =
    let below = below_is t x has in
    let leaves = leaves_by_tile x t.level below.0 in
    let c = 2 ^ (height_of x % 8) in
    let p = place_in_level x % 256 in
    let unit = 2 ^ (8 * t.level) in
    let some : 0 < c = pow_pos (height_of x % 8) in
    let whole : place_in_level x ≡ 256 * t.number + p = omega (arith, below.1) in
    let last = tile_digest_is H ds digests t (p + c - 1) tile (omega (arith, below.2)) in
    let total : 256 * t.number + (p + c - 1) + 1 ≡ place_in_level x + c = omega arith in
    let ends : (place_in_level x + c) * unit ≤ length ds = rw total at last.0 in
    let power : 2 ^ (height_of x % 8 + 8 * t.level) ≡ c * unit = pow-add 2 (height_of x % 8) (8 * t.level) in
    let fits : place_in_level x * unit + 2 ^ (height_of x % 8 + 8 * t.level) ≤ length ds = omega
    (arith, ends, power) in
    let left : length (drop p digests) ≡ t.width - p = length-drop p digests ∙ ap (λ n. n - p) tile.count in
    let roots = roots_of_parts H ds (take c (drop p digests)) (8 * t.level) (height_of x % 8)
    (place_in_level x * unit) fits (length-take-le c (drop p digests) (omega (arith, left, below.2)))
    (λ i low. grind (
      arith,
      get_or-take c (drop p digests) i [] low,
      get_or-drop p digests i [],
      tile_digest_is H ds
          digests t (p + i) tile,
    )) in
    grind arith

-- the digest by a log's tile is the log's own
digest_of_own : (H : List ℕ → List ℕ) (ds : List (List ℕ)) (t : TileAt × List (List ℕ)) (x : ℕ) (d : List ℕ)
    → IsTileBy (own_digest H ds) t.0 t.1 → digest_of H t x ≡ Some d → own_digest H ds x ≡ Some d
digest_of_own H ds t x d tile is = grind (arith, cond_some, root_below_own, le-leb)

digest_by_first : (first rest own : Option (List ℕ)) (d : List ℕ) → ((e : List ℕ) → first ≡ Some e → own ≡ Some e)
    → (rest ≡ Some d → own ≡ Some d) → option_or first rest ≡ Some d → own ≡ Some d
digest_by_first (Some e) rest own d one others is = one e refl ∙ is
digest_by_first None rest own d one others is = others is

-- and so is that by the log's tiles
pub digest_by_own : (H : List ℕ → List ℕ) (ds : List (List ℕ)) (tiles : Tiles) (x : ℕ) (d : List ℕ)
    → AllByRecursion (λ t. IsTileBy (own_digest H ds) t.0 t.1) tiles → digest_by H tiles x ≡ Some d
    → own_digest H ds x ≡ Some d
digest_by_own H ds [] x d all is = cc
digest_by_own H ds (t ∷ tiles) x d all is = grind (
  arith,
  digest_by_first,
  digest_of_own,
  digest_by_own H ds tiles x
      d all.1,
)
