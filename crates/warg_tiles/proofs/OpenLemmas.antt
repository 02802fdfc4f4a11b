-- A log that goes on from its partial tiles.
use Rattle.std.proofs.Common.{◌≡◌, ℕ, zero, suc, ◌+◌, ◌-◌, ◌*◌, ◌/◌, ◌%◌, ◌^◌, ◌<◌, Bool, true, false, cond, if◌then◌else◌, List, [], ◌∷◌, length, map, filter, slice_index_or, Option, Some, None, refl, ◌∙◌, arith}
use Rattle.std.specs.Prelude.{nat_lt}
use Rattle.std.specs.List.{AllByRecursion, range_with_len}
use Rattle.std.proofs.lemmas.Bool.{lt-ltb, le-ltb, cases_lt, eqb-true, and_parts}
use Rattle.std.proofs.lemmas.List.FromFn.{fill_by_all}
use Rattle.std.proofs.lemmas.List.{append-nil, length-append}
use Rattle.warg_log.specs.Tree.{own_digest}
use Rattle.warg_log.specs.Tree.{root_of, leaves_below}
use Rattle.warg_protobuf.specs.Decoding.{earlier}
use Rattle.warg_protobuf.proofs.ForCallers.{both_none}
use Rattle.warg_tiles.specs.Tiles.{TileAt, node_in}
use Rattle.warg_tiles.specs.TileData.{IsTileBy}
use Rattle.warg_tiles.specs.TileLog.{StandsFor, last_tile, partial_tiles, tile_digests, tile_fault, tiles_fault}
use Rattle.warg_tiles.specs.declared.error.OpenError.{OpenError}
use Rattle.warg_tiles.specs.declared.error.OpenError.TheVariants.{Count}
use Rattle.warg_tiles.specs.Private.Edges.{edge_width, partial_from, joined}
use Rattle.warg_tiles.proofs.OwnLemmas.{own_is}
use Rattle.warg_tiles.proofs.BetweenLemmas.{same_tile}
use Rattle.warg_tiles.proofs.PushLemmas.{level_count, edge_at, levels_flat}

-- the partial tiles from a level on, one level at a time
step : (n level : ℕ) → level < 8 → partial_from n level ≡ cond (nat_lt 0 (n / 2 ^ (8 * level) % 256))
    (last_tile n level ∷ partial_from n (level + 1)) (partial_from n (level + 1))
step n level low = let one : 8 - level ≡ suc (8 - (level + 1)) = omega arith in rw one refl

pub from_none : (n level : ℕ) → level < 8 → n / 2 ^ (8 * level) % 256 ≡ 0 → partial_from n level
    ≡ partial_from n (level + 1)
from_none n level low none = step n level low ∙ rw (le-ltb 0 (n / 2 ^ (8 * level) % 256) (omega arith)) refl

pub from_some : (n level : ℕ) → level < 8 → 0 < n / 2 ^ (8 * level) % 256 → partial_from n level
    ≡ last_tile n level ∷ partial_from n (level + 1)
from_some n level low some = step n level low ∙ rw (lt-ltb 0 (n / 2 ^ (8 * level) % 256) some) refl

tested : (a : Bool) (x : Option OpenError) (e : OpenError) → (if a then x else Some e) ≡ None → (a ≡ true) × (x ≡ None)
tested true x e is = (refl, is)
tested false x e is = cc

one_same : (s t : TileAt) → tile_fault s t ≡ None → t ≡ s
one_same s t is = grind (arith, tested, and_parts, same_tile, eqb-true)

-- tiles with no fault are those that were wanted
pub no_fault : (wanted given : List TileAt) → tiles_fault wanted given ≡ None → given ≡ wanted
no_fault [] [] is = refl
no_fault [] (g ∷ given) is = cc
no_fault (w ∷ wanted) [] is = cc
no_fault (w ∷ wanted) (g ∷ given) is = let parts = both_none (tile_fault w g) (tiles_fault wanted given) is in
    cc (one_same w g parts.0, no_fault wanted given parts.1)

-- a tile in front of others where it isn't empty, for what an empty one adds nothing to
with_partial : {X : Type 0} (F : List TileAt → X) (t : TileAt) (ts : List TileAt) → (t.width ≡ 0 → F (t ∷ ts) ≡ F ts)
    → F (cond (nat_lt 0 t.width) (t ∷ ts) ts) ≡ F (t ∷ ts)
with_partial F t ts none = grind (arith, cases_lt, lt-ltb, le-ltb)

-- the widths of tiles added up
abbrev widths : List TileAt → ℕ
widths [] = 0
widths (t ∷ ts) = widths ts + t.width

abbrev from : ℕ → ℕ → ℕ → List TileAt
from n level levels = filter (λ t. nat_lt 0 t.width) (map (last_tile n) (range_with_len level levels))

from_width : (n levels level : ℕ) → widths (from n level levels) ≡ edge_width levels (n / 2 ^ (8 * level))
unfolding edge_width
from_width n zero level = refl
from_width n (suc levels) level = grind (arith, with_partial, from_width n levels (level + 1), level_count)

joined_width : {X : Type 0} (tile_of : X → TileAt) (digests_of : X → List (List ℕ))
    → ((x : X) → length (digests_of x) ≡ (tile_of x).width) → (xs : List X) → length (joined (map digests_of xs))
    ≡ widths (map tile_of xs)
joined_width tile_of digests_of count [] = refl
joined_width tile_of digests_of count (x ∷ xs) = grind (arith, length-append, joined_width tile_of digests_of count xs)

-- the digests of the partial tiles of a length are as many as its edge is wide
pub open_width : {X : Type 0} (tile_of : X → TileAt) (digests_of : X → List (List ℕ)) (xs : List X) (n : ℕ)
    → ((x : X) → length (digests_of x) ≡ (tile_of x).width) → tiles_fault (partial_tiles n) (map tile_of xs) ≡ None
    → length (joined (map digests_of xs)) ≡ edge_width 8 n
open_width tile_of digests_of xs n count none = grind (
  arith,
  joined_width tile_of digests_of count xs,
  no_fault
      (partial_tiles n) (map tile_of xs) none,
  from_width n 8 0,
)

-- the digests of a log's tile
pub tile_same : (H : List ℕ → List ℕ) (ds digests : List (List ℕ)) (t : TileAt) → IsTileBy (own_digest H ds) t digests
    → digests ≡ tile_digests H ds t
tile_same H ds digests t tile =
    fill_by_all (λ i. root_of H (leaves_below (node_in t i) ds)) digests t.width [] tile.count
    (λ i low. (own_is H ds (node_in t i) (slice_index_or digests i []) (tile.digest i low)).1)

joined_same : {X : Type 0} (H : List ℕ → List ℕ) (ds : List (List ℕ)) (tile_of : X → TileAt)
    (digests_of : X → List (List ℕ)) (xs : List X)
    → AllByRecursion (λ x. IsTileBy (own_digest H ds) (tile_of x) (digests_of x)) xs
    → joined (map digests_of xs) ≡ joined (map (tile_digests H ds) (map tile_of xs))
joined_same H ds tile_of digests_of [] all = refl
joined_same H ds tile_of digests_of (x ∷ xs) all =
    rw (joined_same H ds tile_of digests_of xs all.1, tile_same H ds (digests_of x) (tile_of x) all.0) refl

joined_from : (H : List ℕ → List ℕ) (ds : List (List ℕ)) (n levels level : ℕ)
    → joined (map (tile_digests H ds) (from n level levels)) ≡ edge_at H ds n levels level
unfolding edge_at
joined_from H ds n zero level = refl
joined_from H ds n (suc levels) level = grind (arith, with_partial, append-nil, joined_from H ds n levels (level + 1))

-- the digests of the partial tiles of a log are its edge
pub open_stands : {X : Type 0} (H : List ℕ → List ℕ) (ds edge : List (List ℕ)) (tile_of : X → TileAt)
    (digests_of : X → List (List ℕ)) (xs : List X) (n : ℕ) → tiles_fault (partial_tiles n) (map tile_of xs) ≡ None
    → length ds ≡ n
    → AllByRecursion (λ x. IsTileBy (own_digest H ds) (tile_of x) (digests_of x)) xs → edge ≡ joined (map digests_of xs)
    → StandsFor H (record { len = n; taken = n; digests = edge; full = [] }) ds
open_stands H ds edge tile_of digests_of xs n none count all is = grind (
  arith,
  joined_same H ds tile_of digests_of xs all,
  no_fault (partial_tiles n) (map tile_of xs) none,
  joined_from H ds n 8 0,
  levels_flat H ds n,
)

-- the first fault of tiles from a level on, by that of the first one
pub fault_step : {X : Type 0} (tile_of : X → TileAt) (xs others : List X) (first : X) (wanted : TileAt) (n level : ℕ)
    → level < 8 → (n / 2 ^ (8 * level) % 256 ≡ 0 → ⊥) → wanted.level ≡ level → wanted.number ≡ n / 2 ^ (8 * level) / 256
    → wanted.width ≡ n / 2 ^ (8 * level) % 256 → xs ≡ first ∷ others
    → tiles_fault (partial_from n level) (map tile_of xs) ≡ earlier (tile_fault wanted (tile_of first))
    (tiles_fault (partial_from n (level + 1)) (map tile_of others))
fault_step tile_of xs others first wanted n level low some l m w is =
    rw (from_some n level low (omega (arith, some)), is, same_tile wanted _ _ _ l m w) refl

-- and that of none, where one is wanted
pub fault_missing : {X : Type 0} (tile_of : X → TileAt) (xs : List X) (n level : ℕ) → level < 8
    → (n / 2 ^ (8 * level) % 256 ≡ 0 → ⊥) → length xs ≡ 0 → tiles_fault (partial_from n level) (map tile_of xs)
    ≡ Some Count
fault_missing tile_of [] n level low some none = rw (from_some n level low (omega (arith, some))) refl
fault_missing tile_of (x ∷ xs) n level low some none = absurd (omega arith)
