use Rattle.std.proofs.lemmas.Result.{on_ok_weaker}
use Rattle.warg_store.proofs.AuditLemmas.{ok_and}
use Rattle.warg_store.proofs.auditing.use_tiles.Goals as goal

pub stage_tiles-requires-clause-staging : goal.stage_tiles-requires-clause-staging
stage_tiles-requires-clause-staging g c = λ faithful.
    rw c.in-Stage.is at (c.requires faithful)

pub returns-in_ok-stage_tiles-in-Stage-clause-tiles : goal.returns-in_ok-stage_tiles-in-Stage-clause-tiles
returns-in_ok-stage_tiles-in-Stage-clause-tiles g c = λ faithful.
    rw c.in-Stage.is (c.in_ok-stage_tiles-in-Stage.ensures.staged faithful)

pub returns-in_ok-stage_tiles-in-Stage-clause-used : goal.returns-in_ok-stage_tiles-in-Stage-clause-used
returns-in_ok-stage_tiles-in-Stage-clause-used g c = λ faithful.
    rw c.in-Stage.is
    (record { staging = c.stage_tiles.ensures.staging faithful; run = c.stage_tiles.ensures.any_moment faithful })

pub returns-in_err-stage_tiles-in-Stage-clause-used : goal.returns-in_err-stage_tiles-in-Stage-clause-used
returns-in_err-stage_tiles-in-Stage-clause-used g c = λ faithful.
    rw c.in-Stage.is
    (record { staging = c.stage_tiles.ensures.staging faithful; run = c.stage_tiles.ensures.any_moment faithful })

pub returns-in-Compare-clause-tiles : goal.returns-in-Compare-clause-tiles
returns-in-Compare-clause-tiles g c = λ faithful.
    on_ok_weaker c.compare_tiles.result
    (λ both. rw c.in-Compare.is ((c.compare_tiles.ensures.read faithful).found, both.0, both.1))
    (ok_and c.compare_tiles.result _ _ (c.compare_tiles.ensures.files faithful)
    (c.compare_tiles.ensures.older faithful))

pub returns-in-Compare-clause-used : goal.returns-in-Compare-clause-used
returns-in-Compare-clause-used g c = λ faithful.
    rw c.in-Compare.is (c.compare_tiles.ensures.read faithful)

pub returns-in-Compare-clause-whole : goal.returns-in-Compare-clause-whole
returns-in-Compare-clause-whole g c = λ faithful kept enough own.
    c.compare_tiles.ensures.whole faithful kept (enough.whole c.in-Compare.is) own
