use Rattle.std.proofs.Common.{◌≡◌, ⊎_elim, ◌<◌, ◌≤◌, Some, arith}
use Rattle.std.specs.List.{AllByRecursion}
use Rattle.std.proofs.lemmas.Result.{IfOk-weaker, IfOk-at_ok}
use Rattle.warg_crypto.specs.Digests.{sha256}
use Rattle.warg_log.specs.Cut.{old_over}
use Rattle.warg_paths.specs.Paths.{consistency_of}
use Rattle.warg_paths.proofs.ForCallers.{consistency_known}
use Rattle.warg_tiles.specs.Between.{IsTileOf}
use Rattle.warg_tiles.specs.TileData.{digest_by}
use Rattle.warg_tiles.proofs.ForCallers.{given_known}
use Rattle.warg_store.proofs.EnoughLemmas.{gives_all, on_any, path_memory, some_none}
use Rattle.warg_store.proofs.FetchedLemmas.{own_consistency}
use Rattle.warg_store.proofs.WholeLemmas.{err_same}
use Rattle.warg_store.proofs.reading.fetched_growth.Goals as goal

pub returns-clause-own : goal.returns-clause-own
returns-clause-own g c faithful =
    IfOk-weaker c.made.result _ _ (λ path made log files count below own.
    let named : AllByRecursion (IsTileOf c.args.new) c.as_slice.result.now =
    rw c.as_slice.ensures.value c.in_ok-named.ensures.tiles_of.of_length in
    let tiles = c.in_ok-fetch.ensures.own faithful log c.args.new files count below c.requires.fits named own in
    let made : (0 < c.args.old) × (c.args.old ≤ c.args.new)
    × (consistency_of (old_over sha256 (λ x. digest_by sha256 c.fetch.new.fetched x)) c.args.old c.args.new
    ≡ Some path.items) = IfOk-at_ok _ made c.consistency_path.ensures.ok in
    own_consistency log _ tiles c.args.old c.args.new path.items made.2) c.made.ensures.path

pub returns-clause-tiles : goal.returns-clause-tiles
returns-clause-tiles g c = λ faithful. on_any c.made.result _ (λ log files count below own.
    c.in_ok-fetch.ensures.own faithful log c.args.new files count below c.requires.fits
    (rw c.as_slice.ensures.value c.in_ok-named.ensures.tiles_of.of_length) own)

pub returns-clause-known : goal.returns-clause-known
returns-clause-known g c = on_any c.made.result _
    (given_known sha256 _ _ (gives_all c.args.tiles.now c.as_slice.result.now c.fetch.new.fetched _
    c.in_ok-fetch.ensures.gives (rw c.as_slice.ensures.value c.in_ok-named.ensures.give)))

pub returns-clause-whole : goal.returns-clause-whole
returns-clause-whole g c = λ faithful log files count some below.
    c.made.ensures.whole (path_memory c.consistency_path.result
    (λ e. ⊎_elim (λ zero. omega (arith, zero, some)) (λ less. omega (arith, less, c.requires.order))
    (c.consistency_path.ensures.out_of_range.0 e))
    (λ e. some_none _ (consistency_known sha256 (digest_by sha256 c.fetch.new.fetched) c.args.old c.args.new some
    c.requires.order (given_known sha256 _ _ (gives_all c.args.tiles.now c.as_slice.result.now c.fetch.new.fetched _
    c.in_ok-fetch.ensures.gives (rw c.as_slice.ensures.value c.in_ok-named.ensures.give))))
    (c.consistency_path.ensures.not_known.0 e).2))

pub returns-in_err-fetch-clause-whole : goal.returns-in_err-fetch-clause-whole
returns-in_err-fetch-clause-whole g c = λ faithful log files count some below.
    err_same _ _ _ c.from_residual-in_err-fetch.ensures.1
    (c.in_err-fetch.ensures.whole faithful log c.args.new files count below c.requires.fits
    (rw c.as_slice.ensures.value c.in_ok-named.ensures.tiles_of.of_length))
