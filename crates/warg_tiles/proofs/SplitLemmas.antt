-- The partial tiles of a log with their digests, out of its right edge.
use Rattle.std.proofs.Common.{◌≡◌, ℕ, ◌+◌, ◌-◌, ◌*◌, ◌/◌, ◌%◌, ◌^◌, ◌<◌, ◌≤◌, List, [], ◌∷◌, ◌++◌, length, map, take, drop, Option, Some, None, refl, ap, arith}
use Rattle.std.specs.Option.{option_to_list}
use Rattle.std.proofs.lemmas.Bool.{cases_lt}
use Rattle.std.proofs.lemmas.List.{append_assoc, length-append, length-drop, take_all, drop_all, take_at, drop_at}
use Rattle.warg_tiles.specs.Tiles.{TileAt}
use Rattle.warg_tiles.specs.TileData.{Tiles}
use Rattle.warg_tiles.specs.TileLog.{last_tile, partial_tiles, split_into, root_on, tiles_fault}
use Rattle.warg_tiles.specs.Private.Edges.{root_if, partial_from, joined}
use Rattle.warg_tiles.proofs.RootLemmas.{root_one}
use Rattle.warg_tiles.proofs.ChunkLemmas.{root_if_some}
use Rattle.warg_tiles.proofs.OpenLemmas.{from_none, from_some, no_fault}

-- a level with no digest leaves the edge as it is
nothing_cut : (rest : List (List ℕ)) (width : ℕ) → width ≡ 0 → (take (length rest - width) rest ≡ rest)
    × (drop (length rest - width) rest ≡ [])
nothing_cut rest width none = (
  take_all (length rest - width) rest (omega arith),
  drop_all (length rest - width) rest
      (omega arith),
)

-- the tiles from a level on, without the level's own
pub split_none : (n level : ℕ) (rest : List (List ℕ)) → level < 8 → n / 2 ^ (8 * level) % 256 ≡ 0
    → split_into (partial_from n level) rest ≡ split_into (partial_from n (level + 1))
    (take (length rest - n / 2 ^ (8 * level) % 256) rest)
split_none n level rest low none = grind (arith, from_none, nothing_cut)

pub split_some : (n level : ℕ) (rest : List (List ℕ)) → level < 8 → 0 < n / 2 ^ (8 * level) % 256
    → split_into (partial_from n level) rest ≡ (last_tile n level, drop (length rest - n / 2 ^ (8 * level) % 256) rest)
    ∷ split_into (partial_from n (level + 1)) (take (length rest - n / 2 ^ (8 * level) % 256) rest)
split_some n level rest low some = rw (from_some n level low some) refl

-- one level's tile more
pub split_more : (n level : ℕ) (rest above digests : List (List ℕ)) (old new whole : Tiles) → level < 8
    → above ≡ take (length rest - n / 2 ^ (8 * level) % 256) rest
    → digests ≡ drop (length rest - n / 2 ^ (8 * level) % 256) rest
    → (n / 2 ^ (8 * level) % 256 ≡ 0 → new ≡ old)
    → (0 < n / 2 ^ (8 * level) % 256 → new ≡ old ++ (last_tile n level, digests) ∷ [])
    → old ++ split_into (partial_from n level) rest ≡ whole → new ++ split_into (partial_from n (level + 1)) above
    ≡ whole
split_more n level rest above digests old new whole low front back none some is = grind
    (arith, cases_lt, append_assoc, split_some, split_none)

-- the root by the tiles from a level on
root_none : (H : List ℕ → List ℕ) (behind : Option (List ℕ)) → root_if H (option_to_list behind) ≡ behind
root_none H None = refl
root_none H (Some r) = ap Some (root_one H (r ∷ []) refl)

pub root_next : (H : List ℕ → List ℕ) (n level : ℕ) (rest above digests : List (List ℕ))
    (behind root whole : Option (List ℕ)) → level < 8 → n / 2 ^ (8 * level) % 256 ≤ length rest
    → above ≡ take (length rest - n / 2 ^ (8 * level) % 256) rest
    → digests ≡ drop (length rest - n / 2 ^ (8 * level) % 256) rest
    → root ≡ root_if H (digests ++ option_to_list behind)
    → root_on H behind (split_into (partial_from n level) rest) ≡ whole
    → root_on H root (split_into (partial_from n (level + 1)) above) ≡ whole
root_next H n level rest above digests behind root whole low fits front back made is = grind
    (arith, cases_lt, length-append, length-drop, root_if_some, split_some, nothing_cut, root_none, split_none)

-- the tiles whose digests stand one after the other
split_joined : {X : Type 0} (tile_of : X → TileAt) (digests_of : X → List (List ℕ))
    → ((x : X) → length (digests_of x) ≡ (tile_of x).width) → (xs : List X)
    → split_into (map tile_of xs) (joined (map digests_of xs)) ≡ map (λ x. (tile_of x, digests_of x)) xs
split_joined tile_of digests_of count [] = refl
split_joined tile_of digests_of count (x ∷ xs) = grind (
  arith,
  length-append,
  take_at,
  drop_at,
  split_joined tile_of
      digests_of count xs,
)

pub open_tiles : {X : Type 0} (tile_of : X → TileAt) (digests_of : X → List (List ℕ)) (xs : List X) (n : ℕ)
    (edge : List (List ℕ)) → ((x : X) → length (digests_of x) ≡ (tile_of x).width)
    → tiles_fault (partial_tiles n) (map tile_of xs) ≡ None
    → edge ≡ joined (map digests_of xs) → split_into (partial_tiles n) edge ≡ map (λ x. (tile_of x, digests_of x)) xs
open_tiles tile_of digests_of xs n edge count none is = rw (← no_fault (partial_tiles n) (map tile_of xs) none, is)
    (split_joined tile_of digests_of count xs)
