-- What is made of a log's own tiles and bundles is the log's.
use Rattle.std.proofs.Common.{◌≡◌, ℕ, ◌+◌, ◌-◌, ◌*◌, ◌/◌, ◌%◌, ◌^◌, ◌<◌, ◌≤◌, List, [], ◌∷◌, ◌++◌, length, take, drop, min, get_or, Some, sym, ap, ◌∙◌, refl, arith}
use Rattle.std.specs.List.{slice_get}
use Rattle.std.proofs.lemmas.List.{append-nil, take_min, length-map, length-drop, length-take-le, get_or-drop, get_or-take}
use Rattle.std.proofs.lemmas.Option.{slice_get_within, slice_get-get_or, get_or_from_slice_get}
use Rattle.std.proofs.Math.Nat.{div-one}
use Rattle.warg_crypto.specs.Digests.{sha256}
use Rattle.warg_log.specs.Cut.{old_over}
use Rattle.warg_log.specs.Tree.{leaves_of, own_digest}
use Rattle.warg_log.proofs.ForCallers.{old_more}
use Rattle.warg_paths.specs.Paths.{inclusion_of, consistency_of}
use Rattle.warg_paths.proofs.ForCallers.{inclusion_more, consistency_more}
use Rattle.warg_tiles.specs.Tiles.{TileAt, tile_end}
use Rattle.warg_tiles.specs.Between.{IsTileOf, filled}
use Rattle.warg_tiles.specs.TileData.{Tiles, IsTileBy, digest_by}
use Rattle.warg_tiles.specs.TileLog.{tile_digests}
use Rattle.warg_tiles.specs.EntryBundles.{bundle_of}
use Rattle.warg_tiles.proofs.ForCallers.{bundle_once, bundle_same, digest_by_own, low_level, tile_own}
use Rattle.warg_folder.specs.Files.{Files}
use Rattle.warg_folder.specs.Moments.{Within}
use Rattle.warg_store.specs.Log.{LogOf, IsTileIn, IsBundleIn, bundle_bytes}
use Rattle.warg_store.specs.Growing.{LogIn, Has}
use Rattle.warg_store.proofs.ReadyRuns.{staging_kept}
use Rattle.warg_store.specs.Reading.{bundle_in, inclusion_in, consistency_in}
use Rattle.warg_store.specs.Private.Fetched.{AreOwn}
use Rattle.warg_protobuf.proofs.ForCallers.{all_push}
use Rattle.warg_store.proofs.PathLemmas.{same_tile}
use Rattle.warg_store.proofs.GrowingLemmas.{in_folder}
use Rattle.warg_store.proofs.LeadLemmas.{end_inside}

-- one tile more
pub own_more : (log : LogOf) (tiles : Tiles) (t : TileAt) (digests : List (List ℕ)) → IsTileIn log t
    → digests ≡ tile_digests sha256 (leaves_of sha256 log.entries) t → AreOwn log tiles
    → AreOwn log (tiles ++ (t, digests) ∷ [])
own_more log tiles t digests is read own =
    let ds = leaves_of sha256 log.entries in
    let count : length ds ≡ length log.entries = length-map log.entries (λ (e : List ℕ). sha256 (0 ∷ e)) in
    let fits : tile_end t ≤ length ds = omega (arith, count, end_inside (length log.entries) t is.exists) in
    all_push (λ (u : TileAt × List (List ℕ)). IsTileBy (own_digest sha256 ds) u.0 u.1) tiles (t, digests) own
    (rw read (tile_own sha256 ds t fits))

-- The log's own tiles make its own paths.
module _ (log : LogOf) (tiles : Tiles) (own : AreOwn log tiles) where
  pub own_inclusion : (m n : ℕ) (path : List (List ℕ))
      → inclusion_of (old_over sha256 (λ x. digest_by sha256 tiles x)) m n ≡ Some path → inclusion_in log m n
      ≡ Some path
  own_inclusion = inclusion_more _ _
      (old_more sha256 _ _ (λ y e. digest_by_own sha256 (leaves_of sha256 log.entries) tiles y e own))

  pub own_consistency : (m n : ℕ) (path : List (List ℕ))
      → consistency_of (old_over sha256 (λ x. digest_by sha256 tiles x)) m n ≡ Some path → consistency_in log m n
      ≡ Some path
  own_consistency = consistency_more _ _
      (old_more sha256 _ _ (λ y e. digest_by_own sha256 (leaves_of sha256 log.entries) tiles y e own))

-- an entry of a log's own bundle is the log's
pub own_entry : (log : LogOf) (t : TileAt) (es : List (List ℕ)) (place : ℕ) (entry : List ℕ)
    → 256 * t.number + t.width ≤ length log.entries → bundle_of es ≡ bundle_bytes log t → length es ≡ t.width
    → slice_get es place ≡ Some entry → slice_get log.entries (256 * t.number + place) ≡ Some entry
own_entry log t es place entry fits is count found =
    let behind = drop (256 * t.number) log.entries in
    let more : length behind ≡ length log.entries - 256 * t.number = length-drop (256 * t.number) log.entries in
    let taken : length (take t.width behind) ≡ t.width = length-take-le t.width behind (omega (arith, more, fits)) in
    let same : es ≡ take t.width behind = bundle_once es (take t.width behind) [] (count ∙ sym taken)
    (append-nil (bundle_of es) ∙ is) in
    let inside : place < t.width = omega (arith, count, slice_get_within es place entry found) in
    let at : slice_get log.entries (256 * t.number + place) ≡ Some (get_or log.entries (256 * t.number + place) entry) =
    slice_get-get_or log.entries (256 * t.number + place) entry (omega (arith, fits, inside)) in
    at ∙ ap (λ (e : List ℕ). Some e) (sym (get_or-drop (256 * t.number) log.entries place entry)
    ∙ sym (get_or-take t.width behind place entry inside) ∙ ap (λ (l : List (List ℕ)). get_or l place entry)
    (sym same) ∙ get_or_from_slice_get es place entry entry found)

-- a tile of a length, as wide as a longer log has it, is one of that log
pub wide_in : (log : LogOf) (n count : ℕ) (t u : TileAt) → length log.entries ≡ count → n ≤ 2 ^ 63 → IsTileOf n t
    → u.level ≡ t.level → IsTileOf count u → IsTileIn log u
wide_in log n count t u is most of level wide = record {
  level = omega (arith, level, low_level n t most of);
  exists = rw is wide;
}

-- the tile over an entry's digest alone
pub leaf_tile : (index : ℕ) → IsTileOf (index + 1) (record { level = 0; number = index / 256; width = index % 256 + 1 })
leaf_tile index = record { some = omega arith; width = omega arith }

-- and as wide as the log has it, one of the log
pub leaf_in : (log : LogOf) (index count : ℕ) (t wide : TileAt) → length log.entries ≡ count → index < 2 ^ 63
    → index < count → t.level ≡ 0 → t.number ≡ index / 256 → t.width ≡ index % 256 + 1 → wide.level ≡ t.level
    → ((n : ℕ) → n ≤ count → n ≤ 2 ^ 63 → IsTileOf n t → IsTileOf count wide) → IsTileIn log wide
leaf_in log index count t wide is small below level number width same of =
    let least : TileAt = record { level = 0; number = index / 256; width = index % 256 + 1 } in
    let named : IsTileOf (index + 1) t = rw (same_tile t least level number width) (leaf_tile index) in
    let most : index + 1 ≤ 2 ^ 63 = omega (arith, small) in
    let more : index + 1 ≤ count = omega (arith, below) in
    wide_in log (index + 1) count t wide is most named same (of (index + 1) more most named)

-- The bundle of an entry is one of the log.
pub record IsEntryTile (log : LogOf) (t : TileAt) (index : ℕ) : Type 0 where
  pub is_in : IsBundleIn log t
  pub most : t.width ≤ 256
  pub fits : 256 * t.number + t.width ≤ length log.entries
  pub place : 256 * t.number + index % 256 ≡ index

pub entry_tile : (log : LogOf) (t : TileAt) (index count : ℕ) → length log.entries ≡ count → index < count
    → t ≡ filled 0 count (index / 256) → IsEntryTile log t index
entry_tile log t index count is below tile =
    let nodes : length log.entries / 1 ≡ count = div-one (length log.entries) ∙ is in
    rw tile (record {
      is_in = record { level = refl; exists = record { some = omega (arith, below); width = omega (arith, nodes) } };
      most = omega arith;
      fits = omega (arith, below, is);
      place = omega arith;
    })

-- The bundle of a number is one of the log.
pub bundle_tile : (log : LogOf) (t : TileAt) (bundle count : ℕ) → length log.entries ≡ count → 256 * bundle < count
    → t ≡ filled 0 count bundle → IsEntryTile log t (256 * bundle)
bundle_tile log t bundle count is below tile =
    entry_tile log t (256 * bundle) count is below (tile ∙ ap (filled 0 count) (omega arith))

-- and its bytes have its entries
pub own_bundle : (log : LogOf) (t : TileAt) (bundle count : ℕ) (es : List (List ℕ)) → length log.entries ≡ count
    → t ≡ filled 0 count bundle → bundle_of es ≡ bundle_bytes log t → es ≡ bundle_in log bundle
own_bundle log t bundle count es is tile same =
    let behind = drop (256 * bundle) log.entries in
    let wide : min (count - 256 * bundle) 256 ≡ min 256 (length behind) =
    omega (arith, is, length-drop (256 * bundle) log.entries) in
    bundle_same es (take (min (count - 256 * bundle) 256) behind) (same ∙ ap (bundle_bytes log) tile)
    ∙ ap (λ n. take n behind) wide ∙ take_min 256 behind

-- Reading changes nothing of what a log has.
pub has_read : {F : Type 0} (seen : F → Files) (may_leave : F → Files → Type 0) (served old next : LogOf) (l : LogIn F)
    (f : F) → seen f ≡ seen l.folder → Within (may_leave l.folder) (may_leave f)
    → Has seen may_leave served old next l → Has seen may_leave served old next (record l { folder = f })
has_read seen may_leave served old next l f same within has =
    in_folder f has (rw same has.keeps) (rw same has.staged) (rw same has.pages)
    (staging_kept (seen l.folder) (seen f) (may_leave l.folder) (may_leave f) same within has.staging)
