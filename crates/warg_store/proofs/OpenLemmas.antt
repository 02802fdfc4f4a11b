-- A log that a folder keeps, as it is read back.
use Rattle.std.proofs.Common.{◌≡◌, inl, inr, ℕ, zero, suc, ◌+◌, ◌-◌, ◌*◌, ◌/◌, ◌%◌, ◌^◌, ◌<◌, ◌≤◌, List, [], ◌∷◌, ◌++◌, true, cond, length, take, drop, map, filter, Option, Some, None, append_assoc, refl, sym, ap, subst, ◌∙◌, arith}
use Rattle.std.specs.Prelude.{nat_lt, option_map, slice_get}
use Rattle.std.specs.List.{AllByRecursion, range_with_len}
use Rattle.std.proofs.lemmas.Bool.{cases_lt, lt-ltb, le-ltb}
use Rattle.std.proofs.lemmas.List.{take_all, drop_all, length-append, length-map, length-drop, length-take-le, map-append, append-nil}
use Rattle.std.proofs.lemmas.List.FromFn.{length-map-range_with_len, filter_of_map_range_with_len_more}
use Rattle.std.proofs.Math.Seq.{take-append-add}
use Rattle.warg_crypto.specs.Digests.{IsDigest, sha256}
use Rattle.warg_crypto.specs.DigestFacts.{IsDigest-sha256}
use Rattle.warg_crypto.specs.Collisions.{AreHashes}
use Rattle.warg_log.specs.Nodes.{height_of, start_of}
use Rattle.warg_log.specs.Tree.{root_of, root_over, leaves_of, leaves_below, own_digest}
use Rattle.warg_log.proofs.ForCallers.{root_over_one, root_over_parts}
use Rattle.warg_paths.specs.Pieces.{hashes_of}
use Rattle.warg_paths.proofs.ForCallers.{hashes_size, hashes_back}
use Rattle.warg_tiles.specs.Tiles.{TileAt, node_in, tile_end}
use Rattle.warg_tiles.specs.TilePaths.{tile_path}
use Rattle.warg_tiles.specs.Between.{IsTileOf}
use Rattle.warg_tiles.specs.TileData.{Tiles, IsTileBy}
use Rattle.warg_tiles.specs.TileLog.{RightEdge, StandsFor, last_tile, tile_digests, AreTilesOf}
use Rattle.warg_tiles.specs.EntryBundles.{bundle_of}
use Rattle.warg_tiles.specs.CheckpointText.{Said, CanBeSaid, line, lines, behind, text_before, text_of}
use Rattle.warg_tiles.proofs.ForCallers.{partial_of, tile_own}
use Rattle.warg_folder.specs.Files.{Files, put, SameBut}
use Rattle.warg_folder.specs.Names.{checkpoint, state, staged, is_staged, is_own, page_name}
use Rattle.warg_folder.specs.Commits.{IsStaging, NothingStaged}
use Rattle.warg_store.specs.Opening.{CanBeServed, AgreesWith}
use Rattle.warg_store.specs.Log.{LogOf, AreShort, CanBeKept, said_of, checkpoint_of, tile_bytes, bundle_bytes, HasFiles, Serves, Keeps, IsFileOf}
use Rattle.warg_store.specs.Growing.{Has}
use Rattle.warg_folder.proofs.ForCallers.{apart, served_not_state, put_here, put_apart}
use Rattle.warg_protobuf.proofs.ForCallers.{all_append}
use Rattle.warg_store.proofs.ListLemmas.{all_take, all_drop}
use Rattle.warg_store.proofs.LeadLemmas.{end_inside, extends_self, file_served, same_files, same_served, own_pages}
use Rattle.warg_store.proofs.GrowingLemmas.{ground, none_staged}
use Rattle.warg_store.proofs.OptionLemmas.{one_value}
use Rattle.warg_store.proofs.PathLemmas.{same_tile}

-- Digests of a log.

leaves_digests : (entries : List (List ℕ)) → AllByRecursion IsDigest (leaves_of sha256 entries)
leaves_digests [] = tt
leaves_digests (entry ∷ entries) = (IsDigest-sha256 (0 ∷ entry), leaves_digests entries)

-- the root over digests is a digest
root_digest : (ds : List (List ℕ)) → AllByRecursion IsDigest ds → IsDigest (root_of sha256 ds)
root_digest [] all = IsDigest-sha256 []
root_digest (d ∷ ds) all =
    let whole : root_over sha256 (d ∷ ds) 0 (length (d ∷ ds)) ≡ root_of sha256 (d ∷ ds) =
    ap (root_of sha256) (take_all (length (d ∷ ds)) (d ∷ ds) (omega arith)) in
    subst IsDigest whole (elim (cases_lt 1 (length (d ∷ ds))) [
      | inl more ↦
          rw (root_over_parts sha256 (d ∷ ds) 0 (length (d ∷ ds)) more (omega arith)) (IsDigest-sha256 _)
      | inr few ↦ subst (λ n. IsDigest (root_over sha256 (d ∷ ds) 0 n)) (let one : 1 ≡ length (d ∷ ds) = omega arith in
          one) (subst IsDigest (sym (root_over_one sha256 (d ∷ ds) 0 (omega arith))) all.0)
    ])

digest_hashes : (f : ℕ → List ℕ) → ((i : ℕ) → IsDigest (f i)) → (a n : ℕ) → AreHashes (map f (range_with_len a n))
digest_hashes f each a zero = tt
digest_hashes f each a (suc n) = ((each a).has_32, digest_hashes f each (a + 1) n)

tile_hashes : (log : LogOf) (t : TileAt) → AreHashes (tile_digests sha256 (leaves_of sha256 log.entries) t)
tile_hashes log t = digest_hashes (λ i. root_of sha256 (leaves_below (node_in t i) (leaves_of sha256 log.entries)))
    (λ i. root_digest (leaves_below (node_in t i) (leaves_of sha256 log.entries))
    (all_take IsDigest (2 ^ height_of (node_in t i)) (drop (start_of (node_in t i)) (leaves_of sha256 log.entries))
    (all_drop IsDigest (start_of (node_in t i)) (leaves_of sha256 log.entries) (leaves_digests log.entries)))) 0
    t.width

-- What was read up to a length.

pub read_within : (o : Option (List ℕ)) (bytes whole : List ℕ) (most : ℕ) → Some bytes ≡ option_map (take (most + 1)) o
    → o ≡ Some whole → length whole ≤ most → bytes ≡ whole
read_within o bytes whole most read is short =
    one_value refl (rw is at read) ∙ take_all (most + 1) whole (omega (arith, short))

-- a tile's file is read as the log's digests
pub tile_hashed : (log : LogOf) (t : TileAt) (o : Option (List ℕ)) (bytes : List ℕ) → t.width ≤ 256
    → o ≡ Some (tile_bytes log t) → Some bytes ≡ option_map (take (8192 + 1)) o
    → (hashes_of bytes ≡ Some (tile_digests sha256 (leaves_of sha256 log.entries) t))
    × (length (tile_digests sha256 (leaves_of sha256 log.entries) t) ≡ t.width)
tile_hashed log t o bytes wide is read =
    let own = tile_digests sha256 (leaves_of sha256 log.entries) t in
    let count : length own ≡ t.width = length-map-range_with_len
    (λ i. root_of sha256 (leaves_below (node_in t i) (leaves_of sha256 log.entries))) 0 t.width in
    let same : bytes ≡ tile_bytes log t = read_within o bytes (tile_bytes log t) 8192 read is
    (omega (arith, hashes_size own (tile_hashes log t), count, wide)) in
    (ap hashes_of same ∙ hashes_back own (tile_hashes log t), count)

pub tile_read : (log : LogOf) (t : TileAt) (o : Option (List ℕ)) (bytes : List ℕ) (digests : List (List ℕ))
    → t.width ≤ 256 → o ≡ Some (tile_bytes log t) → Some bytes ≡ option_map (take (8192 + 1)) o
    → hashes_of bytes ≡ Some digests → digests ≡ tile_digests sha256 (leaves_of sha256 log.entries) t
tile_read log t o bytes digests wide is read hashes =
    one_value hashes (tile_hashed log t o bytes wide is read).0

-- the greatest size of a bundle of short entries
pub bundle_size : (entries : List (List ℕ)) → AreShort entries → length (bundle_of entries) ≤ 65537 * length entries
unfolding bundle_of
bundle_size [] all = omega arith
bundle_size (entry ∷ entries) all = omega (
  arith,
  length-append entry (bundle_of entries),
  bundle_size entries all.1,
  all.0,
)

-- a bundle's file is read whole
pub bundle_read : (log : LogOf) (t : TileAt) (o : Option (List ℕ)) (bytes : List ℕ) → AreShort log.entries
    → t.width ≤ 256 → o ≡ Some (bundle_bytes log t) → Some bytes ≡ option_map (take (16777472 + 1)) o
    → bytes ≡ bundle_bytes log t
bundle_read log t o bytes short wide is read =
    let part : AreShort (take t.width (drop (256 * t.number) log.entries)) =
    all_take (λ (e : List ℕ). length e < 65536) t.width (drop (256 * t.number) log.entries)
    (all_drop (λ (e : List ℕ). length e < 65536) (256 * t.number) log.entries short) in
    read_within o bytes (bundle_bytes log t) 16777472 read is
    (omega (arith, bundle_size (take t.width (drop (256 * t.number) log.entries)) part, length_part))
  where
    length_part : length (take t.width (drop (256 * t.number) log.entries)) ≤ 256
    length_part = elim (cases_lt t.width (length (drop (256 * t.number) log.entries))) [
      | inl less ↦ omega (arith, length-take-le t.width (drop (256 * t.number) log.entries) (omega (arith, less)), wide)
      | inr all ↦ omega (arith, ap length (take_all t.width (drop (256 * t.number) log.entries) all), all, wide)
    ]

-- A checkpoint's text.

-- what a log says can be said
pub can_be_said : (log : LogOf) → CanBeKept log → CanBeSaid (said_of log)
can_be_said log can = record {
  origin = can.origin;
  length = can.most;
  root = root_digest (leaves_of sha256 log.entries)
      (leaves_digests log.entries);
  extensions = can.lines;
}

line_on : (a r x : List ℕ) → line a r ++ x ≡ line a (r ++ x)
line_on a r x = append_assoc a (10 ∷ r) x

lines_on : (ls : List (List ℕ)) (r x : List ℕ) → lines ls r ++ x ≡ lines ls (r ++ x)
unfolding lines
lines_on [] r x = refl
lines_on (l ∷ ls) r x = line_on l (lines ls r) x ∙ ap (line l) (lines_on ls r x)

-- a text, and what stands behind it
pub text_parts : (said : Said) (rest : Option (List ℕ)) → text_before said rest ≡ text_of said ++ behind rest
text_parts said rest = sym (line_on _ _ (behind rest)
    ∙ ap (line said.origin) (line_on _ _ (behind rest)
    ∙ ap (line _) (line_on _ _ (behind rest) ∙ ap (line _) (lines_on said.extensions [] (behind rest)))))

-- what a kept log says is a text that can be served
pub kept_said : (log : LogOf) → CanBeKept log → CanBeServed (said_of log)
kept_said log can = record { can = can_be_said log can; text = can.text }

pub agrees_self : (said : Said) → AgreesWith said said
agrees_self said = record { origin = refl; length = omega arith; root = λ same. refl }

-- a text that was read up to a length behind it
pub text_read : (said : Said) (rest : Option (List ℕ)) (o : Option (List ℕ)) (bytes : List ℕ) (most : ℕ)
    → CanBeServed said → most ≡ 2 ^ 20 → o ≡ Some (text_before said rest) → Some bytes ≡ option_map (take (most + 1)) o
    → (found : Option (List ℕ)) × (bytes ≡ text_before said found)
text_read said None o bytes most can is there read =
    (None, read_within o bytes (text_before said None) most read there (omega (arith, is, can.text)))
text_read said (Some rest) o bytes most can is there read =
    let text = text_of said in
    let cut : bytes ≡ take (most + 1) (text ++ (10 ∷ rest)) =
    one_value refl (rw there at read) ∙ ap (take (most + 1)) (text_parts said (Some rest)) in
    let left : most + 1 ≡ length text + suc (most - length text) = omega (arith, is, can.text) in (
      Some (take (most - length text) rest),
      cut ∙ ap (λ n. take n (text ++ (10 ∷ rest))) left ∙ take-append-add text (10 ∷ rest) (suc (most - length text))
          ∙ sym (text_parts said (Some (take (most - length text) rest))),
    )

-- The right edge.

-- the partial tiles of the first levels
abbrev pub parts_to : ℕ → ℕ → List TileAt
parts_to n levels = filter (λ t. nat_lt 0 t.width) (map (last_tile n) (range_with_len 0 levels))

-- the tiles are these, with the digests of the log
abbrev pub ArePartsTo : LogOf → ℕ → Tiles → Type 0
ArePartsTo log levels tiles = AreTilesOf sha256 (leaves_of sha256 log.entries) (parts_to (length log.entries) levels)
    tiles

parts_more : (n level : ℕ) → parts_to n (level + 1) ≡ parts_to n level ++ cond (nat_lt 0 (last_tile n level).width)
    (last_tile n level ∷ []) []
parts_more n level = filter_of_map_range_with_len_more (λ (t : TileAt). nat_lt 0 t.width) (last_tile n) 0 level level
    (omega arith)

pub part_none : (log : LogOf) (level : ℕ) (tiles : Tiles) → length log.entries / 2 ^ (8 * level) % 256 ≡ 0
    → ArePartsTo log level tiles → ArePartsTo log (level + 1) tiles
part_none log level tiles none are = record {
  places = are.places ∙ sym (parts_more (length log.entries) level
      ∙ rw (le-ltb 0 (length log.entries / 2 ^ (8 * level) % 256) (omega (arith, none)))
      (append-nil (parts_to (length log.entries) level)));
  digests = are.digests;
}

last_exists : (n level : ℕ) → 0 < n / 2 ^ (8 * level) % 256 → IsTileOf n (last_tile n level)
last_exists n level some = record { some = some; width = omega arith }

-- the files of a log have such a tile
pub part_there : (log : LogOf) (files : Files) (level : ℕ) → level < 8 → 0 < length log.entries / 2 ^ (8 * level) % 256
    → HasFiles log files
    → files (tile_path (last_tile (length log.entries) level))
    ≡ Some (tile_bytes log (last_tile (length log.entries) level))
part_there log files level low some has = has.tile (last_tile (length log.entries) level)
    (record { level = low; exists = last_exists (length log.entries) level some })

pub part_some : (log : LogOf) (level : ℕ) (tiles : Tiles) (digests : List (List ℕ))
    → 0 < length log.entries / 2 ^ (8 * level) % 256
    → digests ≡ tile_digests sha256 (leaves_of sha256 log.entries) (last_tile (length log.entries) level)
    → ArePartsTo log level tiles
    → ArePartsTo log (level + 1) (tiles ++ (last_tile (length log.entries) level, digests) ∷ [])
part_some log level tiles digests some is are =
    let n = length log.entries in
    let ds = leaves_of sha256 log.entries in
    let t = last_tile n level in
    let within : tile_end t ≤ length ds = omega (
      arith,
      end_inside n t (last_exists n level some),
      length-map log.entries (λ (e : List ℕ). sha256 (0 ∷ e)),
    ) in
    record {
      places = map-append (λ (x : TileAt × List (List ℕ)). x.0) tiles ((t, digests) ∷ [])
          ∙ ap (λ (l : List TileAt). l ++ t ∷ []) are.places
          ∙ sym (parts_more n level ∙ rw (lt-ltb 0 (n / 2 ^ (8 * level) % 256) some) refl);
      digests = all_append (λ (x : TileAt × List (List ℕ)). IsTileBy (own_digest sha256 ds) x.0 x.1) tiles
          ((t, digests) ∷ []) are.digests (
            rw is (tile_own sha256 ds t within),
            tt,
          );
    }

-- The last bundle.

pub last_bundle_is : (log : LogOf) (t : TileAt) → t.level ≡ 0 → IsTileOf (length log.entries) t → t.width < 256
    → bundle_bytes log t ≡ bundle_of (drop (256 * (length log.entries / 256)) log.entries)
last_bundle_is log t level is part =
    let n = length log.entries in
    let g = ground n t level is in
    let number : t.number ≡ n / 256 = omega (arith, g.0, g.1, part) in
    rw (
      number,
      take_all t.width (drop (256 * (n / 256)) log.entries)
          (omega (arith, length-drop (256 * (n / 256)) log.entries, g.0, g.1, part, number)),
    ) refl

pub no_last_bundle : (log : LogOf) → length log.entries % 256 ≡ 0
    → [] ≡ bundle_of (drop (256 * (length log.entries / 256)) log.entries)
unfolding bundle_of
no_last_bundle log none = sym (ap bundle_of
    (drop_all (256 * (length log.entries / 256)) log.entries (omega (arith, none))))

-- each partial tile is one of the log, and the first of them is of level 0 unless the bundles are full
pub part_of : (log : LogOf) (tiles : Tiles) (x : TileAt × List (List ℕ)) (rest : Tiles) → CanBeKept log
    → ArePartsTo log 8 tiles → tiles ≡ x ∷ rest → IsTileOf (length log.entries) x.0 × (x.0.width < 256)
part_of log tiles x rest can are is =
    ((partial_of (length log.entries) can.most).exactly x.0).0
    (rw (← are.places, is) (0, omega arith, refl))

abbrev higher_parts : ℕ → List TileAt
higher_parts n = filter (λ t. nat_lt 0 t.width) (map (last_tile n) (range_with_len 1 7))

pub first_part : (log : LogOf) (tiles : Tiles) → ArePartsTo log 8 tiles → 0 < length log.entries % 256
    → (x : TileAt × List (List ℕ)) × (rest : Tiles) × (tiles ≡ x ∷ rest) × (x.0.level ≡ 0)
first_part log tiles are some = at tiles (are.places ∙ parts)
  where
    parts : parts_to (length log.entries) 8 ≡ last_tile (length log.entries) 0 ∷ higher_parts (length log.entries)
    parts = rw (lt-ltb 0 (length log.entries / 2 ^ (8 * 0) % 256) (omega (arith, some))) refl

    at : (l : Tiles) → map (λ (x : TileAt × List (List ℕ)). x.0) l ≡ last_tile (length log.entries) 0 ∷ higher_parts
        (length log.entries) → (x : TileAt × List (List ℕ)) × (rest : Tiles) × (l ≡ x ∷ rest) × (x.0.level ≡ 0)
    at [] e = cc
    at (x ∷ xs) e = (
      x,
      xs,
      refl,
      ap (λ (t : TileAt). t.level)
          (let first : x.0 ≡ last_tile (length log.entries) 0 = cc in first),
    )

pub front_is : {X : Type 0} (xs : List X) (x : X) → Some x ≡ slice_get xs 0 → (rest : List X) × (xs ≡ x ∷ rest)
front_is [] x e = cc
front_is (y ∷ ys) x e = (ys, ap (λ z. z ∷ ys) (let same : y ≡ x = cc in same))

-- where the first partial tile isn't of level 0, the bundles are full
pub bundles_full : {X : Type 0} (log : LogOf) (tile_of : X → TileAt) (digests_of : X → List (List ℕ)) (xs : List X)
    → ArePartsTo log 8 (map (λ x. (tile_of x, digests_of x)) xs)
    → ((x : X) → slice_get xs 0 ≡ Some x → (tile_of x).level ≡ 0 → ⊥) → length log.entries % 256 ≡ 0
bundles_full {X = X} log tile_of digests_of xs are none = elim (cases_lt 0 (length log.entries % 256)) [
  | inl some ↦ let first = first_part log (map (λ x. (tile_of x, digests_of x)) xs) are some in
      absurd (at xs none first.0 first.1 first.2 first.3)
  | inr few ↦ omega (arith, few)
]
  where
    at : (ys : List X) → ((x : X) → slice_get ys 0 ≡ Some x → (tile_of x).level ≡ 0 → ⊥)
        → (y : TileAt × List (List ℕ)) (rest : Tiles) → map (λ x. (tile_of x, digests_of x)) ys ≡ y ∷ rest
        → y.0.level ≡ 0 → ⊥
    at [] others y rest e level = cc
    at (x ∷ ys) others y rest e level =
        others x refl (ap (λ (z : TileAt × List (List ℕ)). z.0.level) (let same : (tile_of x, digests_of x) ≡ y = cc in
        same) ∙ level)

-- the partial tile of a level of the log's length is the log's, and its file is there
pub level_there : (log : LogOf) (files : Files) (n level : ℕ) (t : TileAt) → level < 8 → n ≡ length log.entries
    → t.level ≡ level → t.number ≡ n / 2 ^ (8 * level) / 256 → t.width ≡ n / 2 ^ (8 * level) % 256
    → 0 < n / 2 ^ (8 * level) % 256 → HasFiles log files
    → (t ≡ last_tile (length log.entries) level) × (files (tile_path t) ≡ Some (tile_bytes log t))
level_there log files n level t low size at number width some has =
    let last = last_tile (length log.entries) level in
    let same : t ≡ last = same_tile t last at (number ∙ ap (λ n. n / 2 ^ (8 * level) / 256) size)
    (width ∙ ap (λ n. n / 2 ^ (8 * level) % 256) size) in
    (same, rw same (part_there log files level low (rw size at some) has))

-- The opened log.

pub opened_has : {F : Type 0} (seen : F → Files) (may_leave : F → Files → Type 0) (served log : LogOf) (folder : F)
    (said : Said) (edge : RightEdge) (bundle : List ℕ) (held : ℕ) → said ≡ said_of log
    → Keeps served log (seen folder) → NothingStaged (seen folder) → IsStaging (seen folder) (may_leave folder)
    → edge.len ≡ said.length → edge.taken ≡ said.length
    → StandsFor sha256 edge (leaves_of sha256 log.entries)
    → bundle ≡ bundle_of (drop (256 * (length log.entries / 256)) log.entries) → held ≡ said.length % 256
    → Has seen may_leave served log log
    (record { folder = folder; text = said; is_open = true; edge = edge; bundle = bundle; held = held })
opened_has seen may_leave served log folder said edge bundle held is keeps nothing staging len taken stands bytes rest =
    record {
      is_open = refl;
      keeps = keeps;
      extends = extends_self log;
      short = keeps.can.short;
      text = is;
      edge = stands;
      since = omega (arith, taken);
      order = omega (arith, taken, len);
      held = omega (arith, taken, len, rest);
      most = omega (arith, rest);
      bundle = rw (taken, is) bytes;
      staged = none_staged log (seen folder) taken nothing;
      pages = own_pages (λ path. nothing (staged (page_name path)) refl);
      staging = staging;
    }

-- The state, where a folder had none.

-- a folder that serves a log, and has its text as its state, keeps it
pub taken_over : (log : LogOf) (s : Files) → Serves log s → Keeps log log (put (state, checkpoint_of log) s)
taken_over log s serves =
    let same : (n : List ℕ) → IsFileOf log n → put (state, checkpoint_of log) s n ≡ s n =
    λ n is. put_apart (state, checkpoint_of log) s n (served_not_state n (file_served log n is)) in
    record {
      can = serves.can;
      state = put_here (state, checkpoint_of log) s;
      holds = same_files (put (state, checkpoint_of log) s) same serves.holds;
      serves = same_served (put (state, checkpoint_of log) s) same
          (put_apart (state, checkpoint_of log) s checkpoint (λ e. apart (ap is_own e))) serves;
      begins = extends_self log;
      newest = λ _. refl;
    }

-- nothing is staged where nothing but the state differs
pub beside_state : (s t : Files) → SameBut state s t → NothingStaged s → NothingStaged t
beside_state s t same nothing n is = same n (λ e. apart (sym is ∙ ap is_staged (sym e))) ∙ nothing n is
