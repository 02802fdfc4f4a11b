use Rattle.std.proofs.Common.{◌≡◌, ◌≤◌, ◌*◌, List, ℕ, Bor, length, map, sym, ap, ◌∙◌, arith}
use Rattle.warg_tiles.specs.Tiles.{TileAt}
use Rattle.warg_tiles.specs.EntryBundles.{bundle_of}
use Rattle.warg_store.specs.Log.{bundle_bytes}
use Rattle.std.proofs.lemmas.List.{length-map}
use Rattle.warg_store.proofs.FetchedLemmas.{bundle_tile, own_bundle}
use Rattle.warg_store.proofs.OpenLemmas.{bundle_size}
use Rattle.warg_store.proofs.reading.read_entries.Goals as goal

pub returns-clause-own : goal.returns-clause-own
returns-clause-own g c = λ faithful log files short count.
    let t : TileAt = c.bundle_tile-tile.result in
    let is = bundle_tile log t c.args.bundle c.args.log_length count c.requires c.bundle_tile-tile.ensures in
    let read = c.in_ok-bytes.ensures.own faithful log short is.most (files t is.is_in) in
    let es : List (List ℕ) = map (λ (e : Bor (List ℕ)). e.now) c.as_slice-2.result.now in
    let bytes : bundle_of es ≡ bundle_bytes log t = rw c.as_slice-2.ensures.value
    (sym c.in_ok-entries.ensures.entries ∙ c.as_slice.ensures.value ∙ read) in
    c.in_ok-copies.ensures.copies ∙ own_bundle log t c.args.bundle c.args.log_length es count c.bundle_tile-tile.ensures
    bytes

pub returns-clause-file : goal.returns-clause-file
returns-clause-file g c = λ faithful.
    let es : List (List ℕ) = map (λ (e : Bor (List ℕ)). e.now) c.in_ok-entries.entries.items in
    let bytes = c.in_ok-bytes.bytes.items in
    let are : bytes ≡ bundle_of es = sym c.as_slice.ensures.value ∙ c.in_ok-entries.ensures.entries in
    let size : length bytes ≤ 256 * 65537 = omega (
      arith,
      ap (λ (l : List ℕ). length l) are,
      bundle_size es c.in_ok-entries.ensures.short,
      length-map c.in_ok-entries.entries.items (λ (e : Bor (List ℕ)). e.now),
      c.in_ok-entries.ensures.count,
      ap (λ (t : TileAt). t.width) c.bundle_tile-tile.ensures,
    ) in
    rw (c.in_ok-copies.ensures.copies, c.as_slice-2.ensures.value, ← are)
    (rw c.bundle_tile-tile.ensures at (c.in_ok-bytes.ensures.file faithful size))

pub returns-clause-short : goal.returns-clause-short
returns-clause-short g c =
    rw (c.in_ok-copies.ensures.copies, c.as_slice-2.ensures.value) c.in_ok-entries.ensures.short
