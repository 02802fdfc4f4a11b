-- Lemmas for the proofs of the crates above, over public definitions alone.
use Rattle.std.proofs.Common.{◌≡◌, ℕ, ◌+◌, ◌*◌, ◌/◌, ◌%◌, ◌^◌, ◌<◌, ◌≤◌, true, List, [], ◌∷◌, ◌++◌, length, map, Option, Some, Result, Ok, Err}
use Rattle.std.specs.List.{AllByRecursion}
use Rattle.std.specs.Prelude.{IfErr, IsErrAnd}
use Rattle.warg_log.specs.Tree.{own_digest}
use Rattle.warg_log.specs.Walks.{IsKnown}
use Rattle.warg_tiles.specs.Tiles.{TileAt, tile_end}
use Rattle.warg_tiles.specs.Between.{IsTileOf}
use Rattle.warg_tiles.specs.TileData.{Tiles, IsTileBy, covered_by, has_below, digest_by}
use Rattle.warg_tiles.specs.Fetching.{gives}
use Rattle.warg_tiles.specs.TileLog.{tile_digests, partial_tiles, full_between, AreFullBetween, ArePartialOf}
use Rattle.warg_tiles.specs.EntryBundles.{two_bytes, bundle_of}
use Rattle.base64.specs.Engines.{standard}
use Rattle.base64.specs.GeneralPurpose.{encode_of}
use Rattle.warg_tiles.specs.CheckpointText.{Said, CanBeSaid, HasNoNewline, text_before}
use Rattle.warg_tiles.proofs.EdgeLemmas as edges
use Rattle.warg_tiles.proofs.EntryLemmas as entries
use Rattle.warg_tiles.proofs.FetchLemmas as fetching
use Rattle.warg_tiles.proofs.FullLemmas as full
use Rattle.warg_tiles.proofs.GrowthLemmas as growth
use Rattle.warg_tiles.proofs.OpenLemmas as opening
use Rattle.warg_tiles.proofs.TextLemmas as texts
use Rattle.warg_tiles.proofs.OwnLemmas as own

-- the full tiles that a length has and an older one hasn't
pub full_tiles : (old new : ℕ) → new ≤ 2 ^ 63 → AreFullBetween old new (full_between old new)
full_tiles = full.all_full

-- the partial tiles of a length
pub partial_of : (n : ℕ) → n ≤ 2 ^ 63 → ArePartialOf n (partial_tiles n)
partial_of = full.all_partial

-- digests that a log has for a tile's nodes are the tile's
pub own_tile : (H : List ℕ → List ℕ) (ds digests : List (List ℕ)) (t : TileAt) → IsTileBy (own_digest H ds) t digests
    → digests ≡ tile_digests H ds t
own_tile = opening.tile_same

-- a bundle with one entry more
pub bundle_more : (es : List (List ℕ)) (entry : List ℕ) → bundle_of (es ++ entry ∷ [])
    ≡ bundle_of es ++ (two_bytes (length entry) ++ entry)
bundle_more = entries.bundle_of-push

-- a log has each digest of a tile that ends within it
pub tile_own : (H : List ℕ → List ℕ) (ds : List (List ℕ)) (t : TileAt) → tile_end t ≤ length ds
    → IsTileBy (own_digest H ds) t (tile_digests H ds t)
tile_own H ds t fits = (edges.own_tile H ds t fits).digests.0

-- a checkpoint's text is read in one way
pub text_once : (s t : Said) (a b : Option (List ℕ)) → CanBeSaid s → CanBeSaid t → text_before s a ≡ text_before t b
    → (s ≡ t) × (a ≡ b)
text_once = texts.text_once

-- as many entries at the head of a bundle's bytes are the bundle's
pub bundle_once : (xs ys : List (List ℕ)) (rest : List ℕ) → length xs ≡ length ys → bundle_of xs ++ rest ≡ bundle_of ys
    → xs ≡ ys
bundle_once = entries.bundle_once

-- a bundle's bytes are those of its entries alone
pub bundle_same : (xs ys : List (List ℕ)) → bundle_of xs ≡ bundle_of ys → xs ≡ ys
bundle_same = entries.bundle_same

-- whoever has the tiles for some nodes knows their digests
pub given_known : (H : List ℕ → List ℕ) (tiles : Tiles) (nodes : List ℕ)
    → AllByRecursion (λ x. gives (map (λ t. t.0) tiles) x ≡ true) nodes → IsKnown (digest_by H tiles) nodes
given_known = fetching.all_known

-- a wider tile in a tile's place gives what that one gives
pub wider_gives : (t wide : TileAt) (x : ℕ) → wide.level ≡ t.level → wide.number ≡ t.number → t.width ≤ wide.width
    → has_below t x ≡ true → has_below wide x ≡ true
wider_gives = fetching.wider_gives

-- tiles of which one covers a tile give what that one gives
pub covered_gives : (tiles : Tiles) (t : TileAt) (x : ℕ) → covered_by tiles t ≡ true → has_below t x ≡ true
    → gives (map (λ (s : TileAt × List (List ℕ)). s.0) tiles) x ≡ true
covered_gives = fetching.covered_gives

-- a tile of level 0 that is as wide as an entry's place needs gives the entry's leaf
pub leaf_given : (t : TileAt) (index : ℕ) → t.level ≡ 0 → t.number ≡ index / 256 → index % 256 + 1 ≤ t.width
    → has_below t (2 * index) ≡ true
leaf_given = fetching.leaf_given

-- a digest that a log's own tiles give is the node's
pub digest_by_own : (H : List ℕ → List ℕ) (ds : List (List ℕ)) (tiles : Tiles) (x : ℕ) (d : List ℕ)
    → AllByRecursion (λ t. IsTileBy (own_digest H ds) t.0 t.1) tiles → digest_by H tiles x ≡ Some d
    → own_digest H ds x ≡ Some d
digest_by_own = own.digest_by_own

-- a tile of a length up to 2 ^ 63 is of one of the eight levels
pub low_level : (n : ℕ) (t : TileAt) → n ≤ 2 ^ 63 → IsTileOf n t → t.level < 8
low_level = growth.low_level

-- base64 has no newline
pub no_newline-encode : (m : List ℕ) → HasNoNewline (encode_of standard m)
no_newline-encode = texts.no_newline-encode

-- an error that is handed on
pub err_same : {X E : Type 0} (P : E → Type 0) (e : E) (r : Result X E) → IsErrAnd r (λ f. f ≡ e) → P e → IfErr r P
err_same P e (Ok x) is holds = tt
err_same P e (Err f) is holds = rw is holds
