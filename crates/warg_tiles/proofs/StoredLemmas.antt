-- Digests of tiles that come to a log's own, or two byte lists collide.
use Rattle.std.proofs.Common.{◌≡◌, ◌⊎◌, inl, inr, ℕ, zero, suc, ◌+◌, ◌-◌, ◌*◌, ◌/◌, ◌%◌, ◌^◌, ◌<◌, ◌≤◌, List, [], ◌∷◌, ◌++◌, length, map, take, drop, slice_index_or, Option, Some, None, unwrap_or, refl, sym, ap, subst, ◌∙◌, arith, true}
use Rattle.std.specs.List.{AllByRecursion}
use Rattle.std.specs.Option.{option_to_list}
use Rattle.std.proofs.Math.Nat.{mul-le-mul_left}
use Rattle.std.proofs.Math.Seq.{get_or-append_seam}
use Rattle.std.proofs.Math.ListN.{get_or-append}
use Rattle.std.proofs.lemmas.Bool.{cases_lt, le-leb}
use Rattle.std.proofs.lemmas.Nat.{pow_pos}
use Rattle.std.proofs.lemmas.List.{take-append-drop, append_assoc, append-nil, length-append, length-drop, length-take-le, get_or-take, get_or-drop, drop-drop, take_all}
use Rattle.std.proofs.lemmas.List.FromFn.{fill_by_all}
use Rattle.warg_crypto.specs.Collisions.{GivesHashes, AreHashes, SomeCollision}
use Rattle.warg_crypto.proofs.ForCallers.{HasSize, sizes}
use Rattle.warg_log.specs.Nodes.{height_of, start_of}
use Rattle.warg_log.specs.Tree.{root_of, root_over, leaves_below, own_digest}
use Rattle.warg_log.proofs.ForCallers.{over_at}
use Rattle.warg_protobuf.proofs.ForCallers.{all_append, all_push, all_parts}
use Rattle.warg_tiles.specs.Tiles.{TileAt, node_in, place_in_level}
use Rattle.warg_tiles.specs.TileData.{Tiles, IsTileBy, has_below, digests_below, root_below, AreOwnBelow}
use Rattle.warg_tiles.specs.TileLog.{last_tile, partial_tiles, root_on, root_by_tiles, ArePartialTiles}
use Rattle.warg_tiles.specs.Placed.{IsRowPlaced, IsTilePlaced, IsEdgePlaced}
use Rattle.warg_tiles.specs.Private.Edges.{root_if, partial_from}
use Rattle.warg_tiles.proofs.OwnLemmas.{own_is, below_is, leaves_by_tile}
use Rattle.warg_tiles.proofs.RowLemmas.{row_or_collides, root_size}
use Rattle.warg_tiles.proofs.RootLemmas.{take_drop_take}
use Rattle.warg_tiles.proofs.RootLemmas as roots
use Rattle.warg_tiles.proofs.EdgeLemmas.{own_tile, node_root, digest_at_place, pow_up}
use Rattle.warg_tiles.proofs.PushLemmas.{level_count}
use Rattle.warg_tiles.proofs.ChunkLemmas.{tile_start, chunk_at, root_if_some, root_if_none, root_end}
use Rattle.warg_tiles.proofs.OpenLemmas.{from_none, from_some}

-- some digests have 32 bytes where all have
pub some_hashes : (a n : ℕ) (ds : List (List ℕ)) → AreHashes ds → AreHashes (take n (drop a ds))
some_hashes a n ds all =
    let Size : List ℕ → Type 0 = λ d. length d ≡ 32 in
    let behind = (all_parts Size (take a ds) (drop a ds) (rw (take-append-drop a ds) all)).1 in
    (all_parts Size (take n (drop a ds)) (drop n (drop a ds))
    (rw (take-append-drop n (drop a ds)) behind)).0

-- a log's own digest of a tile's node that is there
pub own_at : (H : List ℕ → List ℕ) (ds : List (List ℕ)) (t : TileAt) (i : ℕ) (d : List ℕ)
    → (256 * t.number + i + 1) * 2 ^ (8 * t.level) ≤ length ds
    → d ≡ root_over H ds ((256 * t.number + i) * 2 ^ (8 * t.level)) (2 ^ (8 * t.level)) → own_digest H ds (node_in t i)
    ≡ Some d
own_at H ds t i d fits is = grind (arith, over_at, le-leb, node_root)

-- digests of a tile whose root is a log's own digest of a node are the log's own
pub tile_collides : (H : List ℕ → List ℕ) (ds : List (List ℕ)) (t : TileAt) (digests : List (List ℕ)) (x : ℕ)
    → GivesHashes H → AreHashes ds → AreHashes digests → length digests ≡ t.width
    → has_below t x ≡ true → own_digest H ds x ≡ Some (root_below H digests x) → AreOwnBelow H ds t digests x
    ⊎ SomeCollision H (IsTilePlaced H digests x ds)
tile_collides H ds t digests x gives leaf_hashes hashes count has is =
    let below = below_is t x has in
    let leaves = leaves_by_tile x (height_of x / 8) refl in
    let own = own_is H ds x (root_below H digests x) is in
    let c = 2 ^ (height_of x % 8) in
    let p = place_in_level x % 256 in
    let unit = 2 ^ (8 * (height_of x / 8)) in
    let some : 0 < c = pow_pos (height_of x % 8) in
    let one : 0 < unit = pow_pos (8 * (height_of x / 8)) in
    let left : length (drop p digests) ≡ t.width - p = length-drop p digests ∙ ap (λ n. n - p) count in
    let size : length (digests_below digests x) ≡ c = length-take-le c (drop p digests)
    (omega (arith, left, below.2)) in
    let wide : length (leaves_below x ds) ≡ 2 ^ height_of x = length-take-le (2 ^ height_of x)
    (drop (start_of x) ds) (omega (arith, own.0, length-drop (start_of x) ds)) in
    let product : length (digests_below digests x) * unit ≡ 2 ^ height_of x = ap (λ n. n * unit) size ∙ sym leaves.2
    in
    let whole : place_in_level x ≡ 256 * t.number + p = omega (arith, below.1) in
    let level : 2 ^ (8 * t.level) ≡ unit = ap (λ l. 2 ^ (8 * l)) below.0 in
    elim (row_or_collides H gives (digests_below digests x) (leaves_below x ds) (some_hashes p c digests hashes)
    (some_hashes (start_of x) (2 ^ height_of x) ds leaf_hashes) (8 * (height_of x / 8)) (omega arith) (omega arith)
    (omega arith) own.1) [
      | inr collision ↦ inr collision
      | inl are ↦ inl
          (λ i low. let next : i + 1 ≤ c = omega arith in let within = mul-le-mul_left unit next in let inside : i * unit
          + unit ≤ 2 ^ height_of x = omega (arith, leaves.2) in let at : start_of x + i * unit ≡
          (256 * t.number + (p + i)) * unit = omega (arith, leaves.0, ap (λ n. n * unit) whole) in let
          ends : (256 * t.number + (p + i) + 1) * unit ≤ length ds = omega (arith, at, own.0) in grind
          (arith, own_at, get_or-take, get_or-drop, take_drop_take, drop-drop))
    ]

-- The places of some tiles, the digests that they have, and that these have 32 bytes.
abbrev places_of : Tiles → List TileAt
places_of tiles = map (λ (t : TileAt × List (List ℕ)). t.0) tiles

abbrev AreCounted : Tiles → Type 0
AreCounted tiles = AllByRecursion (λ (t : TileAt × List (List ℕ)). length t.1 ≡ t.0.width) tiles

abbrev AreHashed : Tiles → Type 0
AreHashed tiles = AllByRecursion (λ (t : TileAt × List (List ℕ)). AreHashes t.1) tiles

-- the first of some tiles, by their places
first_tile : (tiles : Tiles) (t : TileAt) (ts : List TileAt) → places_of tiles ≡ t ∷ ts
    → (stored : List (List ℕ)) × (upper : Tiles) × (tiles ≡ (t, stored) ∷ upper)
    × (places_of upper ≡ ts)
first_tile [] t ts is = cc
first_tile ((u, stored) ∷ upper) t ts is = let first : u ≡ t = cc in
    let others : places_of upper ≡ ts = cc in
    (stored, upper, rw first refl, others)

no_places : (tiles : Tiles) → places_of tiles ≡ [] → tiles ≡ []
no_places [] is = refl
no_places (t ∷ tiles) is = cc

drop_hashes : (a : ℕ) (ds : List (List ℕ)) → AreHashes ds → AreHashes (drop a ds)
drop_hashes a ds all = (all_parts (λ (d : List ℕ). length d ≡ 32) (take a ds) (drop a ds)
    (rw (take-append-drop a ds) all)).1

-- the root over digests of 32 bytes has 32 bytes
pub root_len : (H : List ℕ → List ℕ) → HasSize H → (ds : List (List ℕ)) → 0 < length ds → AreHashes ds
    → length (root_of H ds) ≡ 32
root_len H gives ds some hashes = rw (← roots.whole H ds) (root_size H gives ds hashes 0 (length ds) some
    (omega arith))

-- the root by tiles is there where a tile is
root_there : (H : List ℕ → List ℕ) (behind : Option (List ℕ)) (tiles : Tiles) → 0 < length tiles → (r : List ℕ)
    × (root_on H behind tiles ≡ Some r)
root_there H behind [] some = absurd (omega arith)
root_there H behind (t ∷ []) some = (_, refl)
root_there H behind (t ∷ u ∷ tiles) some = root_there H (Some (root_of H (t.1 ++ option_to_list behind))) (u ∷ tiles)
    (omega arith)

-- the root by tiles, and by more behind them
root_on_append : (H : List ℕ → List ℕ) (behind : Option (List ℕ)) (xs ys : Tiles) → root_on H behind (xs ++ ys)
    ≡ root_on H (root_on H behind xs) ys
root_on_append H behind [] ys = refl
root_on_append H behind (t ∷ xs) ys = root_on_append H (Some (root_of H (t.1 ++ option_to_list behind))) xs ys

module _ (H : List ℕ → List ℕ) (digests : GivesHashes H) (ds : List (List ℕ)) (leaves : AreHashes ds) (n : ℕ)
    (count : length ds ≡ n) (small : n ≤ 2 ^ 63) where
  -- That tiles are the log's own.
  abbrev pub AreOwn : Tiles → Type 0
  AreOwn tiles = AllByRecursion (λ t. IsTileBy (own_digest H ds) t.0 t.1) tiles

  -- What is behind a level's nodes has a root of 32 bytes exactly if there is anything.
  record HasBehind (level : ℕ) (behind : Option (List ℕ)) : Type 0 where
    none : n % 2 ^ (8 * level) ≡ 0 → behind ≡ None
    some : 0 < n % 2 ^ (8 * level) → (r : List ℕ) × (behind ≡ Some r) × (length r ≡ 32)

  behind_hashes : (level : ℕ) (behind : Option (List ℕ)) → HasBehind level behind → AreHashes (option_to_list behind)
  behind_hashes level behind has = grind (arith, cases_lt)

  -- The root of what is behind a level's nodes.
  abbrev own_behind : ℕ → Option (List ℕ)
  own_behind level = root_if H (drop (n / 2 ^ (8 * level) * 2 ^ (8 * level)) ds)

  -- what is behind a level's nodes, by what is behind those of the next one
  behind_next : (level : ℕ) → n % 2 ^ (8 * (level + 1)) ≡ n / 2 ^ (8 * level) % 256 * 2 ^ (8 * level) + n % 2 ^
      (8 * level)
  behind_next level =
      let p = 2 ^ (8 * level) in
      let q = 2 ^ (8 * (level + 1)) in
      let up = ap (λ k. k * q) (level_count n level) in
      let lower : n ≡ n / p * p + n % p = let some : 0 < p = pow_pos (8 * level) in omega arith in
      let upper : n ≡ n / q * q + n % q = let some : 0 < q = pow_pos (8 * (level + 1)) in omega arith in
      omega (arith, tile_start level (n / p))

  -- a level with a tile
  at_tile : (level : ℕ) (stored : List (List ℕ)) (behind : Option (List ℕ)) (lower upper : Tiles) → level < 8
      → 0 < n / 2 ^ (8 * level) % 256 → length stored ≡ n / 2 ^ (8 * level) % 256 → AreHashes stored
      → HasBehind level behind → behind ≡ root_on H None lower → Some (root_of H (stored ++ option_to_list behind))
      ≡ own_behind (level + 1)
      → (IsTileBy (own_digest H ds) (last_tile n level) stored × (behind ≡ own_behind level))
      ⊎ SomeCollision H (IsEdgePlaced H (lower ++ (last_tile n level, stored) ∷ upper) ds)
  at_tile level stored behind lower upper low some size hashes has made e =
      let p = 2 ^ (8 * level) in
      let m = n / p in
      let w = m % 256 in
      let a = m / 256 * 2 ^ (8 * (level + 1)) in
      let ys = drop a ds in
      let unit : 0 < p = pow_pos (8 * level) in
      let rest : n ≡ m * p + n % p = omega arith in
      let less : n % p < p = omega arith in
      let whole : m ≡ 256 * (m / 256) + w = omega arith in
      let left : length ys ≡ w * p + n % p = omega (arith, length-drop a ds, tile_start level m) in
      let least = mul-le-mul_left p some in
      let start : 256 * (m / 256) * p ≡ a = omega (arith, ap (λ k. m / 256 * k) (pow_up level)) in
      let same : root_of H (stored ++ option_to_list behind) ≡ root_of H ys = grind
      (arith, level_count, root_if_some) in
      let tile : ((i : ℕ) → i < w → slice_index_or stored i [] ≡ root_of H (take p (drop (i * p) ys))) → IsTileBy
      (own_digest H ds) (last_tile n level) stored = λ are. rw
      (fill_by_all (λ i. root_of H (leaves_below (node_in (last_tile n level) i) ds)) stored w [] size
      (λ i low. are i low ∙ sym (chunk_at H ds level m i low) ∙ digest_at_place H ds (last_tile n level) i low))
      ((own_tile H ds (last_tile n level) (omega (arith, ap (λ k. k * p) whole))).digests.0) in
      let put : (row : List (List ℕ)) → row ≡ stored ++ option_to_list behind → SomeCollision H
      (IsRowPlaced H row p ys) → SomeCollision H (IsEdgePlaced H (lower ++ (last_tile n level, stored) ∷ upper) ds)
      = grind arith in
      elim (cases_lt 0 (n % p)) [
        | inr none ↦ let nothing = has.none (omega arith) in let all : stored ++
            option_to_list behind ≡ stored = ap (λ b. stored ++ option_to_list b) nothing ∙ append-nil stored in let
            long = ap (λ k. k * p) size in elim (row_or_collides H digests stored ys hashes (drop_hashes a ds leaves)
            (8 * level) (omega arith) (omega arith) (omega arith) (ap (root_of H) (sym all) ∙ same)) [
              | inr collision ↦ inr (put _ (sym all) collision)
              | inl are ↦ inl (
                tile (λ i low. are i (omega arith) (omega arith)),
                nothing ∙ sym
                    (root_if_none H (drop (m * p) ds) (omega (arith, length-drop (m * p) ds))),
              )
            ]
        | inl more ↦ let (r, is, wide)
            = has.some more in let all : stored ++ option_to_list behind ≡ stored ++ r ∷ [] = ap
            (λ b. stored ++ option_to_list b) is in let long : length (stored ++ r ∷ []) ≡ w + 1 = omega
            (arith, length-append stored (r ∷ []), size) in let product = ap (λ k. k * p) long in elim
            (row_or_collides H digests (stored ++ r ∷ []) ys (all_push (λ (d : List ℕ). length d ≡ 32) stored r hashes
            wide) (drop_hashes a ds leaves) (8 * level) (omega arith) (omega arith) (omega arith)
            (ap (root_of H) (sym all) ∙ same)) [
              | inr collision ↦ inr (put _ (sym all) collision)
              | inl are ↦ let
                  place : w * p + a ≡ m * p = omega (arith, tile_start level m) in let last : r ≡ root_of H (drop (m * p) ds) =
                  sym (ap (λ j. slice_index_or (stored ++ r ∷ []) j []) (sym size) ∙ get_or-append_seam stored r [] []) ∙ are w
                  (omega arith) (omega arith) ∙ ap (root_of H) (take_all p (drop (w * p) ys)
                  (omega (arith, length-drop (w * p) ys))) ∙ ap (root_of H) (drop-drop (w * p) a ds) ∙ ap
                  (λ b. root_of H (drop b ds)) (let o : a + w * p ≡ m * p = omega arith in o) in inl (
                    tile (λ i low. sym (get_or-append stored (r ∷ []) [] i (omega arith)) ∙ are i (omega arith) (omega arith)),
                    is ∙ ap Some last ∙ sym (root_if_some H (drop (m * p) ds) (omega (arith, length-drop (m * p) ds))),
                  )
            ]
      ]

  -- from a level on
  from_level : (k level : ℕ) (lower tiles : Tiles) (behind : Option (List ℕ)) → level + k ≡ 8
      → places_of tiles ≡ partial_from n level
      → AreCounted tiles → AreHashed tiles → HasBehind level behind → behind ≡ root_on H None lower
      → root_on H behind tiles ≡ root_if H ds
      → (AreOwn tiles × (behind ≡ own_behind level)) ⊎ SomeCollision H (IsEdgePlaced H (lower ++ tiles) ds)
  from_level zero level lower [] behind last places counts hashes has made e =
      inl (tt, e ∙ sym (root_end H ds n level small (omega arith)))
  from_level zero level lower (t ∷ tiles) behind last places counts hashes has made e =
      let eight : level ≡ 8 = omega arith in let none : t.0 ∷ places_of tiles ≡ [] =
      places ∙ ap (partial_from n) eight in cc
  from_level (suc k) level lower tiles behind last places counts hashes has made e =
      elim (cases_lt 0 (n / 2 ^ (8 * level) % 256)) [
        | inr few ↦
            let none : n / 2 ^ (8 * level) % 256 ≡ 0 = omega arith in
            let next = behind_next level in
            let nought = ap (λ w. w * 2 ^ (8 * level)) none in
            let same : n % 2 ^ (8 * (level + 1)) ≡ n % 2 ^ (8 * level) = omega arith in
            let ends : n / 2 ^ (8 * (level + 1)) * 2 ^ (8 * (level + 1)) ≡ n / 2 ^ (8 * level) * 2 ^ (8 * level) =
            omega (
              arith,
              tile_start level (n / 2 ^ (8 * level)),
              ap (λ q. q * 2 ^ (8 * (level + 1)))
                  (level_count n level),
            ) in
            elim (from_level k (level + 1) lower tiles behind (omega arith)
            (places ∙ from_none n level (omega arith) none)
            counts hashes
            (record { none = λ is. has.none (sym same ∙ is); some = λ more. has.some (omega arith) }) made e) [
              | inl own ↦ inl (own.0, own.1 ∙ ap (λ b. root_if H (drop b ds)) ends)
              | inr collision ↦ inr collision
            ]
        | inl some ↦
            let p = 2 ^ (8 * level) in
            let unit : 0 < p = pow_pos (8 * level) in
            let least = mul-le-mul_left p some in
            let next = behind_next level in
            let (stored, upper, split, above) = first_tile tiles (last_tile n level) (partial_from n (level + 1))
            (places ∙ from_some n level (omega arith) some) in
            let P : Tiles → Type 0 = λ tiles. AreCounted tiles → AreHashed tiles
            → root_on H behind tiles ≡ root_if H ds
            → (AreOwn tiles × (behind ≡ own_behind level)) ⊎ SomeCollision H (IsEdgePlaced H (lower ++ tiles) ds) in
            let at : P ((last_tile n level, stored) ∷ upper) = λ counts hashes e.
            let root = root_of H (stored ++ option_to_list behind) in
            let tile : TileAt × List (List ℕ) = (last_tile n level, stored) in
            let size : length root ≡ 32 = root_len H (sizes digests) (stored ++ option_to_list behind)
            (omega (arith, length-append stored (option_to_list behind), counts.0))
            (all_append (λ (d : List ℕ). length d ≡ 32) stored (option_to_list behind) hashes.0
            (behind_hashes level behind has)) in
            let above_has : HasBehind (level + 1) (Some root) =
            record { none = λ is. absurd (omega arith); some = λ more. (root, refl, size) } in
            elim (from_level k (level + 1) (lower ++ tile ∷ []) upper (Some root) (omega arith) above counts.1 hashes.1
            above_has (rw made (sym (root_on_append H None lower (tile ∷ [])))) e) [
              | inr collision ↦ inr (rw (append_assoc lower (tile ∷ []) upper) at collision)
              | inl own ↦ elim (at_tile level stored behind lower upper (omega arith) some counts.0 hashes.0 has
                  made own.1) [
                    | inr collision ↦ inr collision
                    | inl here ↦ inl ((here.0, own.0), here.1)
                  ]
            ] in
            subst P (sym split) at counts hashes e
      ]

  -- a length of some entries has a partial tile
  none_left : (k level : ℕ) → level + k ≡ 8 → partial_from n level ≡ [] → n / 2 ^ (8 * level) ≡ 0
  none_left zero level last none = let eight : level ≡ 8 = omega arith in rw eight (omega arith)
  none_left (suc k) level last none = grind (
    arith,
    cases_lt,
    from_some,
    none_left k (level + 1),
    from_none,
    level_count,
  )

  some_tiles : (tiles : Tiles) → places_of tiles ≡ partial_tiles n → 0 < n
      → 0 < length tiles
  some_tiles [] places some = let all : n / 2 ^ (8 * 0) ≡ n = omega arith in
      omega (arith, none_left 8 0 (omega arith) (sym places))
  some_tiles (t ∷ tiles) places some = omega arith

  -- partial tiles that lead to the root of a log are the log's own
  pub edge_collides : (tiles : Tiles) → ArePartialTiles n tiles → root_by_tiles H tiles ≡ root_of H ds
      → AreOwn tiles ⊎ SomeCollision H (IsEdgePlaced H tiles ds)
  edge_collides tiles are e = elim (cases_lt 0 n) [
    | inr none ↦
        let empty : n ≡ 0 = omega arith in
        let nothing : tiles ≡ [] = no_places tiles (are.places ∙ ap partial_tiles empty) in
        inl (rw nothing tt)
    | inl some ↦
        let whole : n % 2 ^ (8 * 0) ≡ 0 = omega arith in
        let (r, is) = root_there H None tiles (some_tiles tiles are.places some) in
        let root : r ≡ root_of H ds = ap (λ o. unwrap_or o (H [])) (sym is) ∙ e in
        let found : root_on H None tiles ≡ root_if H ds = is ∙ ap Some root ∙ sym (root_if_some H ds (omega arith)) in
        elim (from_level 8 0 [] tiles None refl are.places are.counts are.hashes
        (record { none = λ is. refl; some = λ more. absurd (omega arith) }) refl found) [
          | inl own ↦ inl own.0
          | inr collision ↦ inr collision
        ]
  ]
