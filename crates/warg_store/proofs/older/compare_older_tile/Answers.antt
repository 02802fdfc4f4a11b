use Rattle.std.proofs.Common.{◌≡◌, ◌++◌, List, ℕ, true, false, length, take, drop, sym, ap, ◌∙◌, arith}
use Rattle.std.proofs.Math.Seq.{take-append_seam}
use Rattle.std.proofs.lemmas.Slice.Eq.{starts_is}
use Rattle.warg_crypto.specs.Digests.{sha256}
use Rattle.warg_log.specs.Tree.{leaves_of}
use Rattle.warg_tiles.specs.Tiles.{TileAt}
use Rattle.warg_tiles.specs.TileLog.{tile_digests}
use Rattle.warg_store.proofs.OlderLemmas.{older_digests}
use Rattle.warg_store.proofs.ReadLemmas.{digest_decides}
use Rattle.warg_store.proofs.older.compare_older_tile.Goals as goal

pub returns-clause-whole : goal.returns-clause-whole
returns-clause-whole g c = λ faithful log own level number less there.
    let ds = leaves_of sha256 log.entries in
    let newer = c.args.newer.now.tile in
    let rest : List (List ℕ) = drop c.args.tile.width (tile_digests sha256 ds newer) in
    let begins : c.as_slice.result.now ≡ c.as_slice-2.result.now ++ rest =
    rw (c.as_slice.ensures.value, own.1, c.as_slice-2.ensures.value, c.in_ok-older.ensures.own faithful log there)
    (older_digests ds c.args.tile newer level number less) in
    let is : c.starts_with.result ≡ true = (starts_is digest_decides c.as_slice.result.now c.as_slice-2.result.now
    c.starts_with.result c.starts_with.ensures.value).1 rest begins in
    absurd (let no : true ≡ false = sym is ∙ c.if-starts_with.false in cc)

pub returns-then-starts_with-clause-file : goal.returns-then-starts_with-clause-file
returns-then-starts_with-clause-file g c = λ faithful.
    let older = c.in_ok-older.field-0 in
    let all = c.as_slice.result.now in
    let first = c.as_slice-2.result.now in
    let behind : List (List ℕ) = drop (length first) all in
    let begins : all ≡ first ++ behind = (starts_is digest_decides all first c.starts_with.result
    c.starts_with.ensures.value).0 c.if-starts_with.true in
    let wide : c.args.tile.width ≡ length first = omega (
      arith,
      older.count,
      ap (λ (t : TileAt). t.width) c.in_ok-older.ensures.tile,
      ap (λ (ds : List (List ℕ)). length ds) c.as_slice-2.ensures.value,
    ) in
    let are : take c.args.tile.width c.args.newer.now.digests.items ≡ older.digests.items =
    rw (wide, ← c.as_slice.ensures.value, begins) (take-append_seam first behind ∙ c.as_slice-2.ensures.value) in
    rw are (c.in_ok-older.ensures.file faithful)
