use Rattle.std.proofs.Common.{◌≡◌, ◌≤◌, ◌+◌, ◌*◌, List, ℕ, Vec, true, false, length, map, drop, sym, ap, ◌∙◌, arith}
use Rattle.std.proofs.lemmas.Result.{on_ok_weaker}
use Rattle.std.specs.declared.alloc.Global.{Global}
use Rattle.std.proofs.lemmas.List.{length-map, length-take, length-drop}
use Rattle.warg_tiles.specs.Tiles.{TileAt}
use Rattle.warg_store.specs.Reading.{bundle_in}
use Rattle.warg_store.proofs.OptionLemmas.{one_value}
use Rattle.warg_store.proofs.OlderLemmas.{older_tile, older_bundle}
use Rattle.warg_store.proofs.PathLemmas.{one_tile, entries_path_once}
use Rattle.warg_store.proofs.older.compare_named.Goals.{in_default-via-in-Ok+else-is_older, in_default-via-in_default, in_default-from_entries_path-via-in-Ok-from_entries_path+then-number+else-width-entries, in_default-from_entries_path-via-in-Ok-from_entries_path+else-number, in_default-from_entries_path-via-in_default-from_entries_path}
use Rattle.warg_store.proofs.older.compare_named.Goals as goal

pub returns-in-Ok-clause-whole : goal.returns-in-Ok-clause-whole
returns-in-Ok-clause-whole g c = λ faithful log short part older there.
    let own = rw c.in-Tile.is at part in
    let is = c.is_older.ensures.0 c.if-is_older.true in
    c.compare_older_tile.ensures.whole faithful log own is.0 is.1 is.2
    (older_tile log _ c.in-Ok.tile _ own.0 is.0 is.1 is.2 c.in-Ok.ensures.ok.0.some older
    (rw c.in-Ok.ensures.ok.1 at there))

pub returns-in-Ok-from_entries_path-clause-whole : goal.returns-in-Ok-from_entries_path-clause-whole
returns-in-Ok-from_entries_path-clause-whole g c = λ faithful log short part older there.
    let tile = c.in-Ok-from_entries_path.tile in
    let ok = c.in-Ok-from_entries_path.ensures.ok in
    let entries = c.in-Bundle.entries.now in
    let number : c.in-Bundle.number ≡ tile.number = omega (arith, c.if-number.true, c.number.ensures.value) in
    let here : map (λ (e : Vec ℕ Global). e.items) entries ≡ bundle_in log tile.number =
    rw (← number) (rw c.in-Bundle.is at part) in
    let inside : 256 * tile.number + tile.width ≤ length log.entries = omega (
      arith,
      ap (λ (l : List (List ℕ)). length l) here,
      length-map entries (λ (e : Vec ℕ Global). e.items),
      length-take 256 (drop (256 * tile.number) log.entries),
      length-drop (256 * tile.number) log.entries,
      c.if-width-entries.true,
      c.width.ensures.value,
    ) in
    c.compare_older_bundle.ensures.whole faithful log short here
    (older_bundle log _ tile ok.1 ok.0.some ok.0.most inside older (rw ok.2 at there))

pub returns-in-Ok-clause-older : goal.returns-in-Ok-clause-older
returns-in-Ok-clause-older g c = λ faithful. on_ok_weaker c.compare_older_tile.result
    (λ file. rw c.in-Tile.is (λ t bytes narrow path there.
    let ok = c.in-Ok.ensures.ok in
    let same : t ≡ c.in-Ok.tile = one_tile t c.in-Ok.tile narrow.is ok.0 (path ∙ ok.1) in
    one_value there (rw (ok.1, same) file)))
    (c.compare_older_tile.ensures.file faithful)

pub returns-in_default-clause-older : goal.returns-in_default-clause-older
returns-in_default-clause-older g c = λ faithful.
    rw c.in-Tile.is (λ t bytes narrow path there. absurd (elim c.in_default.branch [
      | in_default-via-in-Ok+else-is_older w ↦
          let ok = w.in-Ok.ensures.ok in
          let same : t ≡ w.in-Ok.tile = one_tile t w.in-Ok.tile narrow.is ok.0 (path ∙ ok.1) in
          let is : w.is_older.result ≡ true =
          w.is_older.ensures.1 (rw (← same) (narrow.level, narrow.number, narrow.less)) in
          let no : true ≡ false = sym is ∙ w.if-is_older.false in cc
      | in_default-via-in_default w ↦ w.in_default.ensures.err t narrow.is (sym path)
    ]))

pub returns-in-Ok-from_entries_path-clause-older : goal.returns-in-Ok-from_entries_path-clause-older
returns-in-Ok-from_entries_path-clause-older g c = λ faithful. on_ok_weaker c.compare_older_bundle.result
    (λ file. rw c.in-Bundle.is (λ t bytes narrow path there.
    let ok = c.in-Ok-from_entries_path.ensures.ok in
    let same : t ≡ c.in-Ok-from_entries_path.tile =
    entries_path_once t _ narrow.level ok.1 narrow.is.most ok.0.most (path ∙ ok.2) in
    one_value there (rw (ok.2, same) file)))
    (c.compare_older_bundle.ensures.file faithful)

pub returns-in_default-from_entries_path-clause-older : goal.returns-in_default-from_entries_path-clause-older
returns-in_default-from_entries_path-clause-older g c = λ faithful.
    rw c.in-Bundle.is (λ t bytes narrow path there. absurd (elim c.in_default-from_entries_path.branch [
      | in_default-from_entries_path-via-in-Ok-from_entries_path+then-number+else-width-entries w ↦
          let ok = w.in-Ok-from_entries_path.ensures.ok in
          let same : t ≡ w.in-Ok-from_entries_path.tile =
          entries_path_once t _ narrow.level ok.1 narrow.is.most ok.0.most (path ∙ ok.2) in
          omega (arith, ap (λ (u : TileAt). u.width) same, narrow.less, w.width.ensures.value, w.if-width-entries.false)
      | in_default-from_entries_path-via-in-Ok-from_entries_path+else-number w ↦
          let ok = w.in-Ok-from_entries_path.ensures.ok in
          let same : t ≡ w.in-Ok-from_entries_path.tile =
          entries_path_once t _ narrow.level ok.1 narrow.is.most ok.0.most (path ∙ ok.2) in
          omega (arith, ap (λ (u : TileAt). u.number) same, narrow.number, w.number.ensures.value, w.if-number.false)
      | in_default-from_entries_path-via-in_default-from_entries_path w ↦
          w.in_default-from_entries_path.ensures.err t narrow.is (sym path)
    ]))
