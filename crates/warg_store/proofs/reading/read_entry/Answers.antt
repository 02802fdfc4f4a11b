use Rattle.std.proofs.Common.{◌≡◌, ℕ, ◌%◌, List, map, length, Some, Bor, refl, sym, ap, ◌∙◌}
use Rattle.std.specs.Prelude.{option_map}
use Rattle.std.specs.List.{slice_get}
use Rattle.std.proofs.lemmas.List.{length-map}
use Rattle.std.proofs.lemmas.Option.{slice_get-map, slice_get_read}
use Rattle.warg_tiles.specs.Tiles.{TileAt}
use Rattle.warg_tiles.specs.EntryBundles.{bundle_of}
use Rattle.warg_store.specs.Log.{bundle_bytes}
use Rattle.warg_store.proofs.FetchedLemmas.{own_entry, entry_tile}
use Rattle.warg_store.proofs.WholeLemmas.{err_same}
use Rattle.warg_store.proofs.reading.read_entry.Goals as goal

pub returns-in-Some-clause-own : goal.returns-in-Some-clause-own
returns-in-Some-clause-own g c faithful log files short count =
    let t : TileAt = c.bundle_tile-tile.result in
    let place = c.args.index % 256 in
    let bounds = entry_tile log t c.args.index c.args.log_length count c.requires c.bundle_tile-tile.ensures in
    let read = c.in_ok-bytes.ensures.own faithful log short bounds.most (files.bundle t bounds.is_in) in
    let found = c.in-Some.ensures.lookup in
    let slice : List (Bor (List ℕ)) = c.as_slice-2.result.now in
    let es : List (List ℕ) = map (λ (e : Bor (List ℕ)). e.now) slice in
    let entry : List ℕ = c.in-Some.entry.now.now in
    let at : slice_get slice place ≡ Some c.in-Some.entry.now = slice_get_read slice
    (length slice) place c.in-Some.entry.now refl found.3.0 found.1 in
    let got : slice_get es place ≡ Some entry = slice_get-map (λ (e : Bor (List ℕ)). e.now) slice place
    ∙ ap (option_map (λ (e : Bor (List ℕ)). e.now)) at in
    let bytes : bundle_of es ≡ bundle_bytes log t = rw c.as_slice-2.ensures.value
    (sym c.in_ok-entries.ensures.entries ∙ c.as_slice.ensures.value ∙ read) in
    let width : length es ≡ t.width = length-map slice (λ (e : Bor (List ℕ)). e.now)
    ∙ ap (λ (l : List (Bor (List ℕ))). length l) c.as_slice-2.ensures.value ∙ c.in_ok-entries.ensures.count in
    ap (slice_get log.entries) (sym bounds.place) ∙ own_entry log t es place entry bounds.fits bytes width got
    ∙ ap (λ (e : List ℕ). Some e) (sym (c.in_ok-to_vec-in-Some.ensures.items_if_clones_equal (λ x y e. e)))

pub returns-in_err-bytes-clause-whole : goal.returns-in_err-bytes-clause-whole
returns-in_err-bytes-clause-whole g c = λ faithful log files short count.
    let t : TileAt = c.bundle_tile-tile.result in
    let bounds = entry_tile log t c.args.index c.args.log_length count c.requires c.bundle_tile-tile.ensures in
    err_same _ _ _ c.from_residual.ensures.1
    (c.in_err-bytes.ensures.whole faithful log (files.bundle t bounds.is_in))

pub returns-in_err-entries-clause-whole : goal.returns-in_err-entries-clause-whole
returns-in_err-entries-clause-whole g c = λ faithful log files short count.
    let t : TileAt = c.bundle_tile-tile.result in
    let bounds = entry_tile log t c.args.index c.args.log_length count c.requires c.bundle_tile-tile.ensures in
    let read = c.in_ok-bytes.ensures.own faithful log short bounds.most (files.bundle t bounds.is_in) in
    err_same _ _ _ c.from_residual-in_err-entries.ensures.1
    (c.in_err-entries.ensures.whole log short bounds.is_in (c.as_slice.ensures.value ∙ read))
