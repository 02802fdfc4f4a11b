use Rattle.std.proofs.Common.{◌≡◌, ◌<◌, length, ◌*◌, true, ap, sym, ◌∙◌, arith}
use Rattle.warg_crypto.specs.Digests.{sha256}
use Rattle.warg_tiles.specs.TileData.{has_below, digest_by}
use Rattle.warg_tiles.proofs.ForCallers.{leaf_given}
use Rattle.warg_store.specs.Log.{LogOf, IsTileIn}
use Rattle.warg_store.proofs.EnoughLemmas.{fetched_leaf, given_some, some_none}
use Rattle.warg_store.proofs.FetchedLemmas.{leaf_in}
use Rattle.warg_store.proofs.WholeLemmas.{err_same}
use Rattle.warg_store.proofs.fetched.fetch_leaf.Goals.{After-tile_at}
use Rattle.warg_store.proofs.fetched.fetch_leaf.Goals as goal

-- the tile that is read is one of the log
tile_in : (g : _) (c : After-tile_at g) (log : LogOf) → length log.entries ≡ c.args.log_length
    → c.args.index < c.args.log_length → IsTileIn log c.tile_at.result
tile_in g c log count below = leaf_in log c.args.index _ _ _ count c.requires below c.new-tile.ensures.level
    c.new-tile.ensures.number c.new-tile.ensures.width c.tile_at.ensures.level c.tile_at.ensures.of

pub returns-in-Some-clause-own : goal.returns-in-Some-clause-own
returns-in-Some-clause-own g c faithful log files count below own = own

pub returns-in-Some-hash_for-clause-own : goal.returns-in-Some-hash_for-clause-own
returns-in-Some-hash_for-clause-own g c faithful log files count below own =
    let wide = tile_in g (goal.at.returns-in-Some-hash_for-clause-own g c).After-tile_at log count below in
    c.in_ok-fetch_one.ensures.own faithful log files wide own

pub returns-in_err-fetch_one-clause-whole : goal.returns-in_err-fetch_one-clause-whole
returns-in_err-fetch_one-clause-whole g c = λ faithful log files count below.
    let wide = tile_in g (goal.at.returns-in_err-fetch_one-clause-whole g c).After-tile_at log count below in
    err_same _ _ _ c.from_residual.ensures.1
    (c.in_err-fetch_one.ensures.whole faithful log files wide)

pub returns-in-Some-clause-leaf : goal.returns-in-Some-clause-leaf
returns-in-Some-clause-leaf g c = λ faithful log files count below own.
    fetched_leaf log c.args.fetched.now c.args.index c.leaf-leaf.result.0 c.in-Some.digest
    (omega (arith, c.leaf-leaf.ensures)) own (omega (arith, count, below)) (sym c.hash_for.ensures ∙ c.in-Some.is)

pub returns-in-Some-hash_for-clause-leaf : goal.returns-in-Some-hash_for-clause-leaf
returns-in-Some-hash_for-clause-leaf g c = λ faithful log files count below own.
    let wide = tile_in g (goal.at.returns-in-Some-hash_for-clause-leaf g c).After-tile_at log count below in
    fetched_leaf log c.fetch_one.new.fetched c.args.index c.leaf-leaf.result.0 c.in-Some-hash_for.digest
    (omega (arith, c.leaf-leaf.ensures)) (c.in_ok-fetch_one.ensures.own faithful log files wide own)
    (omega (arith, count, below)) (sym c.hash_for-2.ensures ∙ c.in-Some-hash_for.is)

pub returns-in-None-clause-whole : goal.returns-in-None-clause-whole
returns-in-None-clause-whole g c = λ faithful log files count below.
    let has : has_below c.tile_at.result c.leaf-leaf.result.0 ≡ true = ap (has_below c.tile_at.result)
    (let at : c.leaf-leaf.result.0 ≡ 2 * c.args.index = omega (arith, c.leaf-leaf.ensures) in at)
    ∙ leaf_given c.tile_at.result c.args.index (c.tile_at.ensures.level ∙ c.new-tile.ensures.level)
    (c.tile_at.ensures.number ∙ c.new-tile.ensures.number)
    (omega (arith, c.tile_at.ensures.width, c.new-tile.ensures.width)) in
    absurd (some_none (digest_by sha256 c.fetch_one.new.fetched c.leaf-leaf.result.0)
    (given_some c.args.fetched.now c.tile_at.result c.fetch_one.new.fetched c.leaf-leaf.result.0
    c.in_ok-fetch_one.ensures.gives has) (sym c.hash_for-2.ensures ∙ c.in-None.is))
