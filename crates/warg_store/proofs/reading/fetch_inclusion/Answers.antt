use Rattle.std.proofs.Common.{◌*◌, arith}
use Rattle.std.specs.List.{AllByRecursion}
use Rattle.std.proofs.lemmas.Result.{IfOk-weaker, on_ok_weaker}
use Rattle.warg_crypto.specs.Digests.{sha256}
use Rattle.warg_log.specs.Walks.{needed}
use Rattle.warg_tiles.specs.Between.{IsTileOf}
use Rattle.warg_tiles.proofs.ForCallers.{given_known}
use Rattle.warg_store.proofs.EnoughLemmas.{gives_all, gives_then}
use Rattle.warg_store.proofs.WholeLemmas.{err_same}
use Rattle.warg_store.proofs.reading.fetch_inclusion.Goals.{After-fetch}
use Rattle.warg_store.proofs.reading.fetch_inclusion.Goals as goal

-- the tiles that are read are of the length
are_of_length : (g : _) (c : After-fetch g) → AllByRecursion (IsTileOf c.args.log_length) c.as_slice.result.now
are_of_length g c = rw c.as_slice.ensures.value c.in_ok-named.ensures.tiles_of.of_length

pub returns-clause-own : goal.returns-clause-own
returns-clause-own g c = λ faithful. on_ok_weaker c.fetch_leaf.result
    (λ more log files count below own.
    let named = are_of_length g (goal.at.returns-clause-own g c).After-fetch in
    more log (rw (c.fetch.ensures.seen faithful) files) count (omega (arith, c.requires.order, below))
    (c.in_ok-fetch.ensures.own faithful log c.args.log_length files count below c.requires.fits named own))
    (c.fetch_leaf.ensures.own faithful)

pub returns-clause-leaf : goal.returns-clause-leaf
returns-clause-leaf g c = λ faithful. IfOk-weaker c.fetch_leaf.result _ _
    (λ leaf is log files count below own.
    let named = are_of_length g (goal.at.returns-clause-leaf g c).After-fetch in
    is log (rw (c.fetch.ensures.seen faithful) files) count (omega (arith, c.requires.order, below))
    (c.in_ok-fetch.ensures.own faithful log c.args.log_length files count below c.requires.fits named own))
    (c.fetch_leaf.ensures.leaf faithful)

pub returns-clause-known : goal.returns-clause-known
returns-clause-known g c = on_ok_weaker c.fetch_leaf.result
    (λ more.
    let nodes = needed (2 * c.args.index) c.args.log_length in
    given_known sha256 c.fetch_leaf.new.fetched nodes (gives_all c.args.tiles.now c.as_slice.result.now
    c.fetch_leaf.new.fetched nodes
    (gives_then c.args.tiles.now c.fetch.new.fetched c.fetch_leaf.new.fetched c.as_slice.result.now
    c.in_ok-fetch.ensures.gives more)
    (rw c.as_slice.ensures.value c.in_ok-named.ensures.give)))
    c.fetch_leaf.ensures.gives

pub returns-clause-whole : goal.returns-clause-whole
returns-clause-whole g c = λ faithful log files count below.
    c.fetch_leaf.ensures.whole faithful log (rw (c.fetch.ensures.seen faithful) files) count
    (omega (arith, c.requires.order, below))

pub returns-in_err-fetch-clause-whole : goal.returns-in_err-fetch-clause-whole
returns-in_err-fetch-clause-whole g c = λ faithful log files count below.
    let named = are_of_length g (goal.at.returns-in_err-fetch-clause-whole g c).After-fetch in
    err_same _ _ _ c.from_residual-in_err-fetch.ensures.1
    (c.in_err-fetch.ensures.whole faithful log c.args.log_length files count below c.requires.fits named)
