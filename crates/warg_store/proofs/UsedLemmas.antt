-- A folder's files, as the entries of their bundles are read back and the tiles over them used.
use Rattle.std.proofs.Common.{◌≡◌, ◌≢◌, ◌↔◌, ◌⊎◌, inl, inr, ⊎_elim, ℕ, zero, suc, ◌+◌, ◌-◌, ◌*◌, ◌/◌, ◌^◌, ◌<◌, ◌≤◌, false, min, List, [], ◌∷◌, ◌++◌, length, drop, Some, refl, sym, ap, ◌∙◌, arith}
use Rattle.std.specs.List.{Contains}
use Rattle.std.proofs.lemmas.Bool.{cases_lt}
use Rattle.std.proofs.lemmas.List.{length-append, length-map, take_all}
use Rattle.std.proofs.lemmas.Nat.{pow_pos}
use Rattle.std.proofs.Math.Nat.{mul-le-mul_right}
use Rattle.std.proofs.Math.Seq.{drop-append_seam}
use Rattle.warg_crypto.specs.Digests.{sha256}
use Rattle.warg_log.specs.Claims.{RootAndLength}
use Rattle.warg_log.specs.Tree.{root_of, leaves_of}
use Rattle.warg_protobuf.proofs.ForCallers.{all_append}
use Rattle.warg_tiles.specs.Between.{IsTileOf, filled}
use Rattle.warg_tiles.specs.EntryBundles.{bundle_of}
use Rattle.warg_tiles.specs.Tiles.{TileAt, tile_end}
use Rattle.warg_tiles.specs.TileData.{Tiles}
use Rattle.warg_tiles.specs.TileLog.{RightEdge, StandsFor, AreTilesOf, full_between, partial_tiles}
use Rattle.warg_tiles.specs.TilePaths.{tile_path, entries_path}
use Rattle.warg_tiles.proofs.ForCallers.{full_tiles, partial_of, low_level}
use Rattle.warg_folder.specs.Files.{Files}
use Rattle.warg_folder.specs.Names.{is_staged}
use Rattle.warg_store.specs.Audited.{log_of, ShowsLogAndOlder}
use Rattle.warg_store.specs.Log.{LogOf, AreShort, Extends, IsTileIn, IsBundleIn, said_of, tile_bytes, bundle_bytes}
use Rattle.warg_store.specs.Reading.{checkpoint_said}
use Rattle.warg_store.specs.Staged.{new_files}
use Rattle.warg_store.specs.Private.Compared.{HasTiles, IsNarrower, HasNarrowerBundles}
use Rattle.warg_store.specs.Private.Used.{place_of, AreUsed, HasUsed, HasUsedAll}
use Rattle.warg_store.specs.declared.auditing.Use.{Use}
use Rattle.warg_store.specs.declared.auditing.Use.TheVariants.{Compare, Stage}
use Rattle.warg_store.proofs.GrowingLemmas.{ground, from_ground, full_stays, own_files, own_parts, tile_there, apart_there}
use Rattle.warg_store.proofs.PathLemmas.{same_tile}
use Rattle.warg_store.proofs.LeadLemmas.{stands_length, no_tile, width_at_most, bytes_kept, entries_kept, tile_kept, bundle_kept, tile_was, bundle_was}
use Rattle.warg_store.proofs.OptionLemmas.{one_value}
use Rattle.warg_store.proofs.OlderLemmas.{IsPlaced, narrow_end, own_narrow, placed, same_or_narrower}
use Rattle.warg_store.proofs.StagedLemmas.{tiles_of, AreFilesOf, staged_outside}
use Rattle.warg_store.proofs.WholeLemmas.{same_said}

-- a tile ends behind no entry
ends_behind : (t : TileAt) → 0 < t.width → tile_end t ≤ 0 → ⊥
ends_behind t some none =
    let one : 1 ≤ 256 * t.number + t.width = omega (arith, some) in
    omega (arith, none, mul-le-mul_right (2 ^ (8 * t.level)) one, pow_pos (8 * t.level))

-- a log's own tiles, which the files have, have its bytes there
own_there : (log : LogOf) (R : TileAt → Type 0) (files : Files) (tiles : Tiles)
    → AreFilesOf log R tiles → HasTiles files tiles → (t : TileAt) → Contains (tiles_of tiles) t
    → files (tile_path t) ≡ Some (tile_bytes log t)
own_there log R files [] own has t (k, low, is) = absurd (omega arith)
own_there log R files (x ∷ xs) own has t (zero, low, is) =
    rw (← is) (has.0 ∙ ap (λ (b : List ℕ). Some b) own.0.1)
own_there log R files (x ∷ xs) own has t (suc k, low, is) =
    own_there log R files xs own.1 has.1 t (k, omega arith, is)

-- Tiles of a log that are used: R says of each which one it is.
module _ (log : LogOf) (R : TileAt → Type 0) (exists : (t : TileAt) → R t → IsTileIn log t)
    (tiles : Tiles)
    (own : AreFilesOf log R tiles) (old new : Files) where
  -- each is at its place, and so is one that was there
  pub used_there : (how : Use) → AreUsed how tiles old new → (t : TileAt) → IsTileIn log t
      → Contains (tiles_of tiles) t
      ⊎ (old (place_of how (tile_path t)) ≡ Some (tile_bytes log t))
      → new (place_of how (tile_path t)) ≡ Some (tile_bytes log t)
  used_there Compare used t is from = rw used.0 (⊎_elim (own_there log R old tiles own used.1 t) (λ was. was) from)
  used_there Stage used t is from = rw used (tile_there log R exists 0 tiles own old t is
      (⊎_elim (λ has. inl (has, ends_behind t is.exists.some)) (λ was. inr was) from))

  -- and at the path of no other one anything changes
  pub used_apart : (how : Use) → AreUsed how tiles old new → (n : List ℕ) → ((t : TileAt) → R t → tile_path t ≢ n)
      → new (place_of how n) ≡ old (place_of how n)
  used_apart Compare used n none = rw used.0 refl
  used_apart Stage used n none = rw used (apart_there log R exists 0 tiles own old n none)

-- nothing but staged files changes
used_outside : (how : Use) (tiles : Tiles) (old new : Files) → AreUsed how tiles old new → (n : List ℕ)
    → is_staged n ≡ false → new n ≡ old n
used_outside Compare tiles old new used n isnt = rw used.0 refl
used_outside Stage tiles old new used n isnt = rw used (staged_outside (new_files 0 tiles) old n isnt)

-- no entry has files
pub none_used : (how : Use) (files : Files) (edge : RightEdge) → edge.taken ≡ edge.len → StandsFor sha256 edge []
    → HasUsed how files files 0 edge
none_used how files edge taken stands = record {
  entries = [];
  count = refl;
  short = tt;
  stands = stands;
  taken = taken;
  bundle = λ t is. absurd (no_tile t is.exists);
  tile = λ t is full. absurd (no_tile t is.exists);
  older = λ compared. record {
    tile = λ t newer bytes is. absurd (no_tile newer is.exists);
    bundle = λ t newer bytes is. absurd (no_tile newer is.exists);
  };
  other = λ n apart. refl;
  outside = λ n isnt. refl;
}

-- One bundle more: its entries are pushed, and the tiles that they fill are taken and used.
module _ (how : Use) (first before after : Files) (number size : ℕ) (old mid new : RightEdge) (xs : List (List ℕ))
    (tiles : Tiles) (inside : 256 * number < size) (fits : size ≤ 2 ^ 63)
    (count : length xs ≡ min (size - 256 * number) 256) (short : AreShort xs)
    (file : before (entries_path (filled 0 size number)) ≡ Some (bundle_of xs))
    (pushed : (es : List (List ℕ)) → StandsFor sha256 old (leaves_of sha256 es)
    → StandsFor sha256 mid (leaves_of sha256 (es ++ xs))) (taken : mid.taken ≡ old.taken)
    (own : (ds : List (List ℕ)) → StandsFor sha256 mid ds
    → AreTilesOf sha256 ds (full_between mid.taken mid.len) tiles)
    (rest : new ≡ record mid { taken = mid.len; full = [] })
    (stands : (ds : List (List ℕ)) → StandsFor sha256 mid ds → StandsFor sha256 new ds)
    (older : how ≡ Compare → HasNarrowerBundles before number xs)
    (used : AreUsed how tiles before after) (was : HasUsed how first before (256 * number) old) where
  abbrev all : List (List ℕ)
  all = was.entries ++ xs

  abbrev IsFull : TileAt → Type 0
  IsFull t = IsTileIn (log_of (was.entries ++ xs)) t × (t.width ≡ 256)

  grown : Extends (log_of was.entries) (log_of all)
  grown = record { origin = refl; entries = (xs, refl); still = λ same. (refl, refl) }

  size_now : length all ≡ min (256 * number + 256) size
  size_now = omega (arith, length-append was.entries xs, count, was.count, inside)

  stand : StandsFor sha256 mid (leaves_of sha256 all)
  stand = pushed was.entries was.stands

  old_len : length was.entries ≡ mid.taken
  old_len = stands_length was.entries was.stands ∙ sym (taken ∙ was.taken)

  own_now : AreTilesOf sha256 (leaves_of sha256 all) (full_between (length was.entries) (length all)) tiles
  own_now = rw (old_len, stands_length all stand) (own (leaves_of sha256 all) stand)

  most : length all ≤ 2 ^ 63
  most = omega (arith, size_now, fits)

  exactly : (t : TileAt) → Contains (tiles_of tiles) t
      ↔ ((t.width ≡ 256) × IsTileOf (length all) t × (IsTileOf (length was.entries) t → ⊥))
  exactly t = rw own_now.places ((full_tiles (length was.entries) (length all) most).exactly t)

  each_full : (t : TileAt) → Contains (tiles_of tiles) t → IsFull t
  each_full t has = let is = (exactly t).0 has in
      (record { level = low_level (length all) t most is.1; exists = is.1 }, is.0)

  own_full : AreFilesOf (log_of all) IsFull tiles
  own_full = own_files (log_of all) IsFull tiles each_full own_now.digests

  new_tile : (t : TileAt) → IsTileIn (log_of all) t → t.width ≡ 256 → (IsTileIn (log_of was.entries) t → ⊥)
      → Contains (tiles_of tiles) t
  new_tile t is full fresh =
      (exactly t).1 (full, is.exists, λ before. fresh (record { level = is.level; exists = before }))

  full_kept : (t : TileAt) → IsTileIn (log_of was.entries) t → t.width ≡ 256 → IsFull t
  full_kept t is full =
      let longer : length was.entries ≤ length all = omega (arith, length-append was.entries xs) in
      (record { level = is.level; exists = full_stays (length was.entries) (length all) t longer full is.exists }, full)

  the_bundle : (t : TileAt) → IsBundleIn (log_of all) t → (IsBundleIn (log_of was.entries) t → ⊥)
      → t ≡ filled 0 size number
  the_bundle t is fresh =
      let g = ground (length all) t is.level is.exists in
      let low : t.number ≤ number = omega (arith, g.0, g.1, size_now) in
      let high : number ≤ t.number = elim (cases_lt t.number number) [
        | inl lt ↦ absurd (fresh (record {
          level = is.level;
          exists = from_ground (length was.entries) t is.level g.0 (omega (arith, g.1, size_now, was.count, lt));
        }))
        | inr le ↦ le
      ] in
      let same : t.number ≡ number = omega (arith, low, high) in
      same_tile t (filled 0 size number) is.level same (omega (arith, g.1, size_now, same, inside))

  rest_is : drop (256 * number) all ≡ xs
  rest_is = rw (← was.count) (drop-append_seam was.entries xs)

  new_bundle : first (entries_path (filled 0 size number)) ≡ Some (bundle_bytes (log_of all) (filled 0 size number))
  new_bundle = sym (was.outside (entries_path (filled 0 size number)) refl) ∙ file
      ∙ rw (rest_is, take_all (min (size - 256 * number) 256) xs (omega (arith, count))) refl

  -- what is left in the places of the tiles that were compared, and of the bundle
  tile_left : how ≡ Compare → (t newer : TileAt) (bytes : List ℕ) → IsTileIn (log_of all) newer → newer.width ≡ 256
      → IsNarrower t newer → first (tile_path t) ≡ Some bytes → bytes ≡ tile_bytes (log_of all) t
  tile_left compared t newer bytes is full narrow there = ⊎_elim
      (λ had. (was.older compared).tile t newer bytes had full narrow there
      ∙ sym (bytes_kept grown t
      (narrow_end (length was.entries) t newer had.exists narrow)))
      (λ fresh. own_narrow (log_of all) before tiles own_now.digests (rw compared at used).2 newer
      (new_tile newer is full fresh) t bytes narrow (was.outside (tile_path t) refl ∙ there))
      (tile_was grown newer is)

  bundle_left : how ≡ Compare → (t newer : TileAt) (bytes : List ℕ) → IsBundleIn (log_of all) newer
      → IsNarrower t newer → first (entries_path t) ≡ Some bytes → bytes ≡ bundle_bytes (log_of all) t
  bundle_left compared t newer bytes is narrow there = ⊎_elim
      (λ had.
      let g = ground (length was.entries) newer had.level had.exists in
      (was.older compared).bundle t newer bytes had narrow there
      ∙ sym (entries_kept grown t
      (omega (arith, g.0, g.1, narrow.number, narrow.less))))
      (λ fresh.
      let same = the_bundle newer is fresh in
      let number_is : t.number ≡ number = narrow.number ∙ ap (λ (u : TileAt). u.number) same in
      older compared t bytes (record {
        is = narrow.is;
        level = narrow.level ∙ is.level;
        number = number_is;
        less = omega (arith, narrow.less, ap (λ (u : TileAt). u.width) same, count);
        partial = narrow.partial;
      }) (was.outside (entries_path t) refl ∙ there) ∙ rw (number_is, rest_is) refl)
      (bundle_was grown newer is)

  pub bundle_more : HasUsed how first after (min (256 * number + 256) size) new
  bundle_more = record {
    entries = all;
    count = size_now;
    short = all_append (λ (e : List ℕ). length e < 65536) was.entries xs was.short short;
    stands = stands (leaves_of sha256 all) stand;
    taken = ap (λ (e : RightEdge). e.taken) rest ∙ sym (ap (λ (e : RightEdge). e.len) rest);
    bundle = λ t is. ⊎_elim (λ had. rw (bundle_kept grown t had) (was.bundle t had))
        (λ fresh. rw (the_bundle t is fresh) new_bundle) (bundle_was grown t is);
    tile = λ t is full. used_there (log_of all) IsFull (λ t is. is.0) tiles own_full before after how used t is (⊎_elim
        (λ had. inr (rw (tile_kept grown t had) (was.tile t had full)))
        (λ fresh. inl (new_tile t is full fresh)) (tile_was grown t is));
    older = λ compared. record { tile = tile_left compared; bundle = bundle_left compared };
    other = λ n apart. used_apart (log_of all) IsFull (λ t is. is.0) tiles own_full before after how used n
        (λ t is. apart t is.0 is.1)
        ∙ was.other n (λ t is full. let now = full_kept t is full in apart t now.0 full);
    outside = λ n isnt. used_outside how tiles before after used n isnt ∙ was.outside n isnt;
  }

-- the same from one round of a loop to the next
pub bundle_next : (how : Use) (first before after : Files) (number size : ℕ) (old new : RightEdge)
    → 256 * number < size
    → (HasUsed how first before (256 * number) old → HasUsed how first after (min (256 * number + 256) size) new)
    → HasUsed how first before (min (256 * number) size) old
    → HasUsed how first after (min (256 * (number + 1)) size) new
bundle_next how first before after number size old new inside step was =
    let now : min (256 * number) size ≡ 256 * number = omega (arith, inside) in
    let next : min (256 * number + 256) size ≡ min (256 * (number + 1)) size = omega arith in
    rw (← next) (step (rw now at was))

-- With the partial tiles all are used.
module _ (how : Use) (first before after : Files) (count : ℕ) (edge : RightEdge) (tiles : Tiles) (most : count ≤ 2 ^ 63)
    (own : (ds : List (List ℕ)) → StandsFor sha256 edge ds → AreTilesOf sha256 ds (partial_tiles edge.len) tiles)
    (used : AreUsed how tiles before after) (has : HasUsed how first before count edge) where
  abbrev log : LogOf
  log = log_of has.entries

  own_parted : AreTilesOf sha256 (leaves_of sha256 log.entries) (partial_tiles (length has.entries)) tiles
  own_parted = own_parts log edge tiles has.stands own

  fits : length has.entries ≤ 2 ^ 63
  fits = omega (arith, has.count, most)

  exactly_parts : (t : TileAt) → Contains (tiles_of tiles) t ↔ (IsTileOf (length has.entries) t × (t.width < 256))
  exactly_parts t = rw own_parted.places ((partial_of (length has.entries) fits).exactly t)

  part_files : AreFilesOf log (IsTileIn log) tiles
  part_files = own_files log (IsTileIn log) tiles (λ t is. let part = (exactly_parts t).0 is in
      record { level = low_level (length has.entries) t fits part.0; exists = part.0 }) own_parted.digests

  part_there : (t : TileAt) → IsTileIn log t → t.width < 256
      → Contains (tiles_of tiles) t
  part_there t is part = (exactly_parts t).1 (is.exists, part)

  tile_now : (t : TileAt) → IsTileIn log t → after (place_of how (tile_path t)) ≡ Some (tile_bytes log t)
  tile_now t is = used_there log (IsTileIn log) (λ t is. is) tiles part_files before after how used t is
      (elim (cases_lt t.width 256) [
        | inl part ↦ inl (part_there t is part)
        | inr over ↦ inr (has.tile t is (omega (arith, over, width_at_most _ t is.exists)))
      ])

  placed_in : (m : ℕ) (t : TileAt) → m ≤ length has.entries → t.level < 8 → IsTileOf m t
      → IsPlaced (length has.entries) t (filled t.level (length has.entries / 2 ^ (8 * t.level)) t.number)
  placed_in m t longer level of = placed m (length has.entries) t longer fits level of

  -- what is left of older tiles and bundles
  older_tile : how ≡ Compare → (m : ℕ) (t : TileAt) (bytes : List ℕ) → m ≤ length has.entries → t.level < 8
      → IsTileOf m t → first (tile_path t) ≡ Some bytes → bytes ≡ tile_bytes log t
  older_tile compared m t bytes longer level of there =
      let newer : TileAt = filled t.level (length has.entries / 2 ^ (8 * t.level)) t.number in
      let at = placed_in m t longer level of in
      let is : IsTileIn log newer = record { level = level; exists = at.of } in
      let used_so = rw compared at used in
      let same : before (tile_path t) ≡ first (tile_path t) = has.outside (tile_path t) refl in
      ⊎_elim
      (λ one. let now = rw compared at (tile_now t (rw one is)) in
      one_value there (sym same ∙ (rw used_so.0 at now)))
      (λ narrow. elim (cases_lt newer.width 256) [
        | inl part ↦ own_narrow log before tiles own_parted.digests used_so.2 newer
            (part_there newer is part) t bytes narrow (same ∙ there)
        | inr full ↦ (has.older compared).tile t newer bytes is
            (omega (arith, full, width_at_most _ newer is.exists)) narrow there
      ])
      (same_or_narrower (length has.entries) t newer at)

  older_bundle : how ≡ Compare → (m : ℕ) (t : TileAt) (bytes : List ℕ) → m ≤ length has.entries → t.level ≡ 0
      → IsTileOf m t → first (entries_path t) ≡ Some bytes → bytes ≡ bundle_bytes log t
  older_bundle compared m t bytes longer level of there =
      let newer : TileAt = filled t.level (length has.entries / 2 ^ (8 * t.level)) t.number in
      let at = placed_in m t longer (omega (arith, level)) of in
      let is : IsBundleIn log newer = record { level = level; exists = at.of } in
      ⊎_elim
      (λ one. one_value there (has.bundle t (rw one is)))
      (λ narrow. (has.older compared).bundle t newer bytes is narrow there)
      (same_or_narrower (length has.entries) t newer at)

  pub all_used : HasUsedAll how first after edge
  all_used = record {
    entries = has.entries;
    short = has.short;
    stands = has.stands;
    bundle = has.bundle;
    tile = tile_now;
    older = λ compared. record { tile = older_tile compared; bundle = older_bundle compared };
    other = λ n apart. used_apart log (IsTileIn log) (λ t is. is) tiles part_files before after how used n apart
        ∙ has.other n (λ t is full. apart t is);
    outside = λ n isnt. used_outside how tiles before after used n isnt ∙ has.outside n isnt;
  }

-- what a checkpoint of these entries says
pub said_by : (entries : List (List ℕ)) (edge : RightEdge) (found : RootAndLength)
    → ((ds : List (List ℕ)) → StandsFor sha256 edge ds → (found.length ≡ length ds) × (found.root ≡ root_of sha256 ds))
    → StandsFor sha256 edge (leaves_of sha256 entries) → found ≡ checkpoint_said (said_of (log_of entries))
said_by entries edge found same stands =
    let is = same (leaves_of sha256 entries) stands in
    same_said found (said_of (log_of entries)) is.1 (is.0 ∙ length-map entries (λ (e : List ℕ). sha256 (0 ∷ e)))

-- where all tiles were compared, the files have a log with the checkpoint, and of older ones no other bytes
pub shown : (files now : Files) (edge : RightEdge) (found : RootAndLength) → now ≡ files
    → ((ds : List (List ℕ)) → StandsFor sha256 edge ds → (found.length ≡ length ds) × (found.root ≡ root_of sha256 ds))
    → HasUsedAll Compare files now edge → ShowsLogAndOlder files found
shown files now edge found still same has = (
  log_of has.entries,
  said_by has.entries edge found same has.stands,
  has.short,
  record {
    tile = λ t is. (rw still at (has.tile t is));
    bundle = has.bundle;
    page = λ f (k, low, is). absurd (omega arith);
  },
  has.older refl,
)
