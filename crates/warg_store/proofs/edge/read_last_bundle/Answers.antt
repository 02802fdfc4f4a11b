use Rattle.std.proofs.Common.{◌≡◌, ◌∷◌, List, ℕ, length, map, ap, ◌∙◌, arith}
use Rattle.std.specs.declared.alloc.Global.{Global}
use Rattle.warg_crypto.specs.declared.hash.Sha256.{Sha256}
use Rattle.warg_crypto.specs.Digests.{sha256}
use Rattle.warg_log.specs.Tree.{leaves_of}
use Rattle.warg_tiles.specs.Tiles.{TileAt}
use Rattle.warg_tiles.specs.TileLog.{tile_digests}
use Rattle.warg_tiles.specs.declared.stored.StoredTile.{StoredTile}
use Rattle.warg_tiles.proofs.ForCallers.{own_tile}
use Rattle.warg_store.specs.Growing.{ArePartsOf}
use Rattle.warg_store.specs.Log.{LogOf, CanBeKept, IsBundleIn}
use Rattle.warg_store.proofs.LeadLemmas.{width_at_most}
use Rattle.warg_store.proofs.WholeLemmas.{err_same}
use Rattle.warg_store.proofs.OpenLemmas.{part_of, last_bundle_is, no_last_bundle, front_is, bundles_full}
use Rattle.warg_store.proofs.edge.read_last_bundle.Goals.{in_default-via-in-Some+else-level-eq0, in_default-via-in_default}
use Rattle.warg_store.proofs.edge.read_last_bundle.Goals as goal

pub returns-in_ok-check_entries-in-Some-clause-bundle : goal.returns-in_ok-check_entries-in-Some-clause-bundle
returns-in_ok-check_entries-in-Some-clause-bundle g c = λ faithful log can has are.
    let stored = c.in-Some.stored.now in
    let with_digests : StoredTile Sha256 Global → TileAt × List (List ℕ) = λ t. (t.tile, t.digests.items) in
    let front = front_is c.args.edge.now stored c.in-Some.ensures.value in
    let part = part_of log (map with_digests c.args.edge.now) (with_digests stored) (map with_digests front.0) can are
    (ap (map with_digests) front.1) in
    let level : stored.tile.level ≡ 0 = omega (arith, c.level.ensures.value, c.if-level-eq0.true) in
    c.in_ok-bytes-in-Some.ensures.own faithful log can.short (omega (arith, part.1))
    (has.bundle stored.tile (record { level = level; exists = part.0 }))
    ∙ last_bundle_is log stored.tile level part.0 part.1

pub returns-in_default-clause-bundle : goal.returns-in_default-clause-bundle
returns-in_default-clause-bundle g c = λ faithful log can has are.
    c.new.ensures.items
    ∙ no_last_bundle log (bundles_full log (λ (t : StoredTile Sha256 Global). t.tile)
    (λ (t : StoredTile Sha256 Global). t.digests.items) c.args.edge.now are
    (λ y is level. elim c.in_default.branch [
      | in_default-via-in-Some+else-level-eq0 w ↦
          let value = w.in-Some.ensures.value in
          let same : w.in-Some.stored.now ≡ y = cc in
          absurd (omega (
            arith,
            w.if-level-eq0.false,
            w.level.ensures.value,
            ap (λ (t : StoredTile Sha256 Global). t.tile.level) same,
            level,
          ))
      | in_default-via-in_default w ↦ let none = w.in_default.ensures.value in cc
    ]))

-- The bundle below the first partial tile, where that is of level 0, is one of the log, and the tile has the log's
-- digests.
module _ (log : LogOf) (edge front : List (StoredTile Sha256 Global)) (stored : StoredTile Sha256 Global)
    (first : edge ≡ stored ∷ front) (can : CanBeKept log) (are : ArePartsOf log edge) where
  abbrev with_digests : StoredTile Sha256 Global → TileAt × List (List ℕ)
  with_digests t = (t.tile, t.digests.items)

  bundle_in : stored.tile.level ≡ 0 → IsBundleIn log stored.tile
  bundle_in level = record {
    level = level;
    exists = (part_of log (map with_digests edge) (with_digests stored) (map with_digests front) can are
        (ap (map with_digests) first)).0;
  }

  own_digests : stored.digests.items ≡ tile_digests sha256 (leaves_of sha256 log.entries) stored.tile
  own_digests = own_tile sha256 (leaves_of sha256 log.entries) stored.digests.items stored.tile
      (rw (ap (map with_digests) first) at are.digests).0

pub returns-in_err-bytes-in-Some-clause-whole : goal.returns-in_err-bytes-in-Some-clause-whole
returns-in_err-bytes-in-Some-clause-whole g c = λ faithful log can has are.
    let stored = c.in-Some.stored.now in
    let front = front_is c.args.edge.now stored c.in-Some.ensures.value in
    let level : stored.tile.level ≡ 0 = omega (arith, c.level.ensures.value, c.if-level-eq0.true) in
    err_same _ _ _ c.from_residual.ensures.1
    (c.in_err-bytes-in-Some.ensures.whole faithful log
    (has.bundle stored.tile (bundle_in log c.args.edge.now front.0 stored front.1 can are level)))

pub returns-in_err-check_entries-in-Some-clause-whole : goal.returns-in_err-check_entries-in-Some-clause-whole
returns-in_err-check_entries-in-Some-clause-whole g c = λ faithful log can has are.
    let stored = c.in-Some.stored.now in
    let front = front_is c.args.edge.now stored c.in-Some.ensures.value in
    let level : stored.tile.level ≡ 0 = omega (arith, c.level.ensures.value, c.if-level-eq0.true) in
    let is = bundle_in log c.args.edge.now front.0 stored front.1 can are level in
    let bytes = c.in_ok-bytes-in-Some.ensures.own faithful log can.short
    (width_at_most (length log.entries) stored.tile is.exists) (has.bundle stored.tile is) in
    err_same _ _ _ c.from_residual-in_err-check_entries-in-Some.ensures.1
    (c.in_err-check_entries-in-Some.ensures.whole log can.short is (c.as_slice.ensures.value ∙ bytes)
    (own_digests log c.args.edge.now front.0 stored front.1 can are))
