use Rattle.std.proofs.Common.{List, ℕ, sym, ◌∙◌}
use Rattle.warg_store.proofs.FetchedLemmas.{own_more}
use Rattle.warg_store.proofs.EnoughLemmas.{gives_held, gives_added}
use Rattle.warg_store.proofs.WholeLemmas.{err_same}
use Rattle.warg_store.proofs.fetched.fetch_one.Goals as goal

pub returns-clause-own : goal.returns-clause-own
returns-clause-own g c faithful log files is own =
    let digests : List (List ℕ) = c.in_ok-stored.stored.digests.items in
    rw (c.in_ok-insert.ensures.ok, c.in_ok-stored.ensures.tile)
    (own_more log c.args.fetched.now c.args.tile digests is
    (c.in_ok-stored.ensures.own faithful log (files.tile c.args.tile is))
    own)

pub returns-then-has_tile-clause-gives : goal.returns-then-has_tile-clause-gives
returns-then-has_tile-clause-gives g c = gives_held c.args.fetched.now c.args.tile
    (sym c.has_tile.ensures ∙ c.if-has_tile.true)

pub returns-clause-gives : goal.returns-clause-gives
returns-clause-gives g c =
    rw (c.in_ok-insert.ensures.ok, c.in_ok-stored.ensures.tile)
    (gives_added c.args.fetched.now c.args.tile c.in_ok-stored.stored.digests.items)

pub returns-in_err-stored-clause-whole : goal.returns-in_err-stored-clause-whole
returns-in_err-stored-clause-whole g c = λ faithful log files is.
    err_same _ _ _ c.from_residual.ensures.1
    (c.in_err-stored.ensures.whole faithful log (files.tile c.args.tile is))
