-- The tiles to fetch, one by one.
use Rattle.std.proofs.Common.{Bool, ◌||◌, ◌≡◌, ◌≢◌, ℕ, ◌+◌, ◌-◌, ◌*◌, ◌/◌, ◌%◌, ◌^◌, ◌<◌, ◌≤◌, min, true, false, List, [], ◌∷◌, ◌++◌, length, take, map, get_or, refl, sym, ap, ◌∙◌, arith}
use Rattle.std.specs.List.{AllByRecursion, flat_map}
use Rattle.std.specs.Prelude.{IsSome, Option}
use Rattle.std.specs.Option.{option_or}
use Rattle.std.proofs.lemmas.Nat.{pow_pos, le-div}
use Rattle.std.proofs.lemmas.Bool.{le-leb, eq-eqb, eqb-true, leb-true, and_parts, true≢false}
use Rattle.std.proofs.lemmas.Grind.{flat_map-append}
use Rattle.std.proofs.lemmas.List.{append_assoc, append-nil, map_more}
use Rattle.std.proofs.lemmas.List.Folds.{list_any-append, list_any_at}
use Rattle.std.proofs.lemmas.List.Quantifiers.{all_pairs_push}
use Rattle.warg_log.specs.declared.node.Node.{Node}
use Rattle.warg_log.specs.Nodes.{ExistsAt, height_of, balanced_roots}
use Rattle.warg_log.specs.Walks.{needed, IsKnown}
use Rattle.warg_log.proofs.ForCallers.{pow_below_pow, over_at, roots_exist}
use Rattle.warg_protobuf.proofs.ForCallers.{all_append, all_push, all_weaken, all_at}
use Rattle.warg_tiles.specs.Tiles.{TileAt, place_in_level, tile_over}
use Rattle.warg_tiles.specs.Between.{IsTileOf}
use Rattle.warg_tiles.specs.TileData.{Tiles, covers, covered_by, has_below, digest_of, digest_by}
use Rattle.warg_tiles.specs.Fetching.{gives, serves, AreFor, IsAdded}
use Rattle.warg_tiles.proofs.TileLemmas.{place_in_level_is, width_most}
use Rattle.warg_tiles.proofs.OwnLemmas.{leaves_by_tile}

-- a tile that serves nodes serves more of them
serves_more : (xs ys : List ℕ) (tiles : List TileAt) → AllByRecursion (λ t. serves xs t ≡ true) tiles
    → AllByRecursion (λ t. serves (xs ++ ys) t ≡ true) tiles
serves_more xs ys tiles all = grind (arith, all_weaken, list_any-append)

-- or with what is true
or_true : (b : Bool) → (b || true) ≡ true
or_true true = refl
or_true false = refl

serves_last : (xs : List ℕ) (x : ℕ) (t : TileAt) → has_below t x ≡ true → serves (xs ++ x ∷ []) t ≡ true
serves_last xs x t has = grind (arith, list_any-append, or_true)

-- nor for a node that the tiles give
pub added_known : (n x : ℕ) (tiles : List TileAt) → gives tiles x ≡ true → IsAdded n tiles tiles (x ∷ [])
added_known n x tiles given = grind (arith, serves_more)

-- and one for a node that they don't
pub added_new : (n x : ℕ) (tiles : List TileAt) (t : TileAt) → gives tiles x ≡ false → IsTileOf n t
    → has_below t x ≡ true → IsAdded n tiles (tiles ++ t ∷ []) (x ∷ [])
added_new n x tiles t none of_length has = record {
  tiles_of = λ are. record {
    of_length = all_push (IsTileOf n) tiles t are.of_length of_length;
    once = all_pairs_push
        (λ (s u : TileAt). s ≢ u) tiles t are.once (λ k d inside same. true≢false
        (sym (list_any_at (λ s. has_below s x) tiles k d inside (rw same has)) ∙ none));
  };
  serve = grind
      (arith, all_push, serves_more, serves_last);
  keep = λ y given. list_any-append (λ s. has_below s y) tiles
      (t ∷ []) ∙ rw given refl;
  give = (
    list_any-append (λ s. has_below s x) tiles (t ∷ []) ∙ rw (none, has) refl,
    tt,
  );
}

-- what was added after what was added
pub added_append : (n : ℕ) (first second third : List TileAt) (xs ys : List ℕ) → IsAdded n first second xs
    → IsAdded n second third ys → IsAdded n first third (xs ++ ys)
added_append n first second third xs ys one two = record {
  tiles_of = λ are. two.tiles_of (one.tiles_of are);
  serve = λ before all. rw (append_assoc before xs ys) at
      (two.serve (before ++ xs) (one.serve before all));
  keep = λ x given. two.keep x (one.keep x given);
  give = grind
      (arith, all_append, all_weaken);
}

-- what was added to no tiles
pub added_first : (n : ℕ) (tiles : List TileAt) (nodes : List ℕ) → IsAdded n [] tiles nodes → AreFor n tiles nodes
added_first n tiles nodes added =
    record {
      tiles_of = added.tiles_of (record { of_length = tt; once = λ i j d less inside. absurd (omega arith) });
      give = added.give;
      serve = added.serve [] tt;
    }

-- the tiles give the digests of the nodes
first_given : (H : List ℕ → List ℕ) (t : TileAt × List (List ℕ)) (x : ℕ) (rest : Option (List ℕ)) (b : Bool)
    → has_below t.0 x ≡ b → (b ≡ false → IsSome rest) → IsSome (option_or (digest_of H t x) rest)
first_given H t x rest true has others = rw has refl
first_given H t x rest false has others = rw has (others refl)

gives_digest : (H : List ℕ → List ℕ) (tiles : Tiles) (x : ℕ) → gives (map (λ (t : TileAt × List (List ℕ)). t.0) tiles) x
    ≡ true → IsSome (digest_by H tiles x)
gives_digest H [] x is = absurd (true≢false (sym is))
gives_digest H (t ∷ tiles) x is = first_given H t x (digest_by H tiles x) (has_below t.0 x) refl
    (λ none. gives_digest H tiles x (ap (λ b. b || gives (map (λ (t : TileAt × List (List ℕ)). t.0) tiles) x) (sym none)
    ∙ is))

pub all_known : (H : List ℕ → List ℕ) (tiles : Tiles) (nodes : List ℕ)
    → AllByRecursion (λ x. gives (map (λ (t : TileAt × List (List ℕ)). t.0) tiles) x ≡ true) nodes
    → IsKnown (digest_by H tiles) nodes
all_known H tiles [] all = tt
all_known H tiles (x ∷ nodes) all = (gives_digest H tiles x all.0, all_known H tiles nodes all.1)

-- a node of a log has its digests among those of its level at the log's length
pub least_there : (x n : ℕ) (least : TileAt) → least ≡ tile_over x → ExistsAt x n → n ≤ 2 ^ 63
    → (8 * least.level < 64) × (256 * least.number + least.width ≤ n / 2 ^ (8 * least.level)) × (0 < least.width)
    × (least.width ≤ 256)
least_there x n least is there small =
    let leaves = leaves_by_tile x (height_of x / 8) refl in
    let height : height_of x < 64 = pow_below_pow (height_of x) 64 (omega (arith, pow_pos (height_of x))) in
    let within = le-div (place_in_level x + 2 ^ (height_of x % 8)) n (2 ^ (8 * (height_of x / 8)))
    (pow_pos (8 * (height_of x / 8))) (omega (arith, leaves.0, leaves.2)) in
    grind (arith, pow_pos, place_in_level_is, width_most)

-- a tile of the least one's level and number that is as wide as the length allows is one of the length, and has all
-- digests
-- below the node
pub tile_made_for : (x n : ℕ) (t least : TileAt) → t ≡ record least { width = t.width }
    → t.width ≡ min (n / 2 ^ (8 * least.level) - 256 * least.number) 256 → least ≡ tile_over x → ExistsAt x n
    → n ≤ 2 ^ 63
    → (0 < t.width) × IsTileOf n t × (has_below t x ≡ true)
tile_made_for x n t least at wide is there small = grind (arith, least_there, eq-eqb, le-leb)

-- what holds of each node's number
pub all_numbers : (P : ℕ → Type 0) (nodes : List Node) → AllByRecursion P (map (λ x. x.0) nodes)
    → AllByRecursion (λ (node : Node). P node.0) nodes
all_numbers P [] all = tt
all_numbers P (x ∷ nodes) all = (all.0, all_numbers P nodes all.1)

-- a balanced root of a length is there at each length from it on
pub root_there : (old n : ℕ) (roots : List Node) (i : ℕ) (d : Node) → old ≤ n → map (λ x. x.0) roots
    ≡ balanced_roots old → i < length roots → ExistsAt (get_or roots i d).0 n × (0 < n)
root_there old n roots i d order is inside = grind (
  arith,
  all_at,
  all_numbers,
  roots_exist old,
  pow_pos
      (height_of (get_or roots i d).0),
)

-- a balanced root more
pub added_root : (n : ℕ) (tiles more : List TileAt) (roots : List Node) (i : ℕ) (d : Node) → i < length roots
    → IsAdded n [] tiles (flat_map (λ t. t ∷ needed t n) (map (λ x. x.0) (take i roots)))
    → IsAdded n tiles more ((get_or roots i d).0 ∷ needed (get_or roots i d).0 n)
    → IsAdded n [] more (flat_map (λ t. t ∷ needed t n) (map (λ x. x.0) (take (i + 1) roots)))
added_root n tiles more roots i d inside so_far added =
    let before = map (λ (x : Node). x.0) (take i roots) in
    let root = (get_or roots i d).0 in
    rw (
      map_more (λ (x : Node). x.0) roots i d inside,
      flat_map-append (λ t. t ∷ needed t n) before (root ∷ []),
      append-nil (root ∷ needed root n),
    )
    (added_append n [] tiles more (flat_map (λ t. t ∷ needed t n) before) (root ∷ needed root n) so_far added)

-- the tests of a tile that covers another one
covers_parts : (t u : TileAt) → covers t u ≡ true → (t.level ≡ u.level) × (t.number ≡ u.number) × (u.width ≤ t.width)
covers_parts t u is = grind (arith, and_parts, eqb-true, leb-true)

covers_from : (t u : TileAt) → t.level ≡ u.level → t.number ≡ u.number → u.width ≤ t.width → covers t u ≡ true
covers_from t u level number width = rw (
  eq-eqb t.level u.level level,
  eq-eqb t.number u.number number,
  le-leb u.width t.width width,
) refl

covers_then : (t u v : TileAt) → covers t u ≡ true → covers u v ≡ true → covers t v ≡ true
covers_then t u v one two = grind (arith, covers_parts, covers_from)

-- a wider tile in a tile's place gives what that one gives
pub wider_gives : (t wide : TileAt) (x : ℕ) → wide.level ≡ t.level → wide.number ≡ t.number → t.width ≤ wide.width
    → has_below t x ≡ true → has_below wide x ≡ true
wider_gives t wide x level number more = covers_then wide t (tile_over x) (covers_from wide t level number more)

-- tiles of which one covers a tile give what that one gives
pub covered_gives : (tiles : Tiles) (t : TileAt) (x : ℕ) → covered_by tiles t ≡ true → has_below t x ≡ true
    → gives (map (λ (s : TileAt × List (List ℕ)). s.0) tiles) x ≡ true
covered_gives [] t x is has = absurd (true≢false (sym is))
covered_gives (s ∷ tiles) t x is has = by_first (covers s.0 t) refl is (λ others. covered_gives tiles t x others has)
  where
    by_first : (b : Bool) → covers s.0 t ≡ b → (b || covered_by tiles t) ≡ true
        → (covered_by tiles t ≡ true → gives (map (λ (s : TileAt × List (List ℕ)). s.0) tiles) x ≡ true)
        → gives (map (λ (s : TileAt × List (List ℕ)). s.0) (s ∷ tiles)) x ≡ true
    by_first true one is others = rw (covers_then s.0 t (tile_over x) one has) refl
    by_first false none is others = rw (others is) (or_true (has_below s.0 x))

-- a tile of level 0 that is as wide as an entry's place needs gives the entry's leaf
pub leaf_given : (t : TileAt) (index : ℕ) → t.level ≡ 0 → t.number ≡ index / 256 → index % 256 + 1 ≤ t.width
    → has_below t (2 * index) ≡ true
leaf_given t index level number wide = grind (arith, over_at 0 index, place_in_level_is, covers_from)
