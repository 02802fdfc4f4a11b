use Rattle.std.proofs.Common.{◌≡◌, ℕ, ◌*◌, ◌/◌, ◌%◌, ◌^◌, ◌<◌, refl, List, [], ◌∷◌, length, map, arith}
use Rattle.std.proofs.lemmas.List.{map-append}
use Rattle.std.specs.declared.alloc.Global.{Global}
use Rattle.warg_crypto.specs.declared.hash.Sha256.{Sha256}
use Rattle.warg_tiles.specs.Tiles.{TileAt}
use Rattle.warg_tiles.specs.declared.stored.StoredTile.{StoredTile}
use Rattle.warg_folder.proofs.ForCallers.{read_is, read_then}
use Rattle.warg_store.proofs.OpenLemmas.{part_none, part_some, level_there}
use Rattle.warg_store.proofs.WholeLemmas.{err_same}
use Rattle.warg_store.proofs.edge.read_edge.Goals.{then-count-ne0+in_ok-read_tile+in_ok-push, else-count-ne0}
use Rattle.warg_store.proofs.edge.read_edge.Goals as goal

pub levels-init : goal.levels-init
levels-init g c = record {
  faults = omega arith;
  read = λ faithful. read_is _ _ _ _ _;
  edge = λ faithful log size has. rw c.new-edge.ensures.items (record { places = refl; digests = tt });
}

pub levels-preserved : goal.levels-preserved
levels-preserved g c =
    let level = c.levels.level in
    let with_digests : StoredTile Sha256 Global → TileAt × List (List ℕ) = λ t. (t.tile, t.digests.items) in
    elim c.if-count-ne0.branch [
      | then-count-ne0+in_ok-read_tile+in_ok-push w ↦ record {
        faults = rw w.folder-is (omega (arith, c.levels.invariant.faults, w.in_ok-read_tile.ensures.cause.later));
        read = λ faithful. rw w.folder-is (read_then _ _ _ _ _ _ _ (g.met.F.Folder.counts_now c.args.folder.now)
            (c.levels.invariant.read faithful) (w.read_tile.ensures.read faithful));
        edge = λ faithful log size has.
            let read = w.in_ok-read_tile.field-0 in
            let there = level_there log (g.F.Folder.seen c.levels.folder) c.args.log_length level w.new-tile.result
            c.levels-test.true size w.new-tile.ensures.level w.new-tile.ensures.number w.new-tile.ensures.width
            (omega (arith, w.if-count-ne0.true)) (rw (c.levels.invariant.read faithful).found has) in
            rw (
              w.edge-is,
              w.in_ok-push.ensures.items,
              map-append with_digests c.levels.edge.items (read ∷ []),
              w.in_ok-read_tile.ensures.tile,
              there.0,
            )
            (part_some log level (map with_digests c.levels.edge.items) read.digests.items
            (rw size at (let some : 0 < c.args.log_length / 2 ^ (8 * level) % 256 =
            omega (arith, w.if-count-ne0.true) in some))
            (rw there.0 at (w.in_ok-read_tile.ensures.own faithful log there.1))
            (c.levels.invariant.edge faithful log size has));
      }
      | else-count-ne0 w ↦ record {
        faults = rw w.folder-is c.levels.invariant.faults;
        read = λ faithful. rw w.folder-is (c.levels.invariant.read faithful);
        edge = λ faithful log size has.
            let none : length log.entries / 2 ^ (8 * level) % 256 ≡ 0 =
            rw (← size) (omega (arith, w.if-count-ne0.false)) in
            rw w.edge-is (part_none log level (map with_digests c.levels.edge.items) none
            (c.levels.invariant.edge faithful log size has));
      }
    ]

pub returns-in_err-read_tile-clause-whole : goal.returns-in_err-read_tile-clause-whole
returns-in_err-read_tile-clause-whole g c = λ faithful log size has.
    let there = level_there log (g.F.Folder.seen c.levels.folder) c.args.log_length c.levels.level c.new-tile.result
    c.levels-test.true size c.new-tile.ensures.level c.new-tile.ensures.number c.new-tile.ensures.width
    (omega (arith, c.if-count-ne0.true)) (rw (c.levels.invariant.read faithful).found has) in
    err_same _ _ _ c.from_residual.ensures.1
    (c.in_err-read_tile.ensures.whole faithful log there.1)

pub returns-in_err-read_tile-clause-read : goal.returns-in_err-read_tile-clause-read
returns-in_err-read_tile-clause-read g c = λ faithful.
    read_then _ _ _ _ _ _ _ (g.met.F.Folder.counts_now c.args.folder.now) (c.levels.invariant.read faithful)
    (c.read_tile.ensures.read faithful)

pub returns-in_err-push-clause-read : goal.returns-in_err-push-clause-read
returns-in_err-push-clause-read g c = λ faithful.
    read_then _ _ _ _ _ _ _ (g.met.F.Folder.counts_now c.args.folder.now) (c.levels.invariant.read faithful)
    (c.read_tile.ensures.read faithful)
