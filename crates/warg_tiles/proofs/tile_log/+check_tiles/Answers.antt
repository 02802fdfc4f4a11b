use Rattle.std.proofs.Common.{◌+◌, map, ap, ◌∙◌, arith}
use Rattle.std.proofs.lemmas.Result.{IfErr-weaker, on_ok_weaker}
use Rattle.warg_protobuf.specs.Decoding.{earlier}
use Rattle.warg_tiles.specs.TileLog.{tiles_fault}
use Rattle.warg_tiles.specs.Private.Edges.{partial_from}
use Rattle.warg_tiles.proofs.ForCallers.{err_same}
use Rattle.warg_tiles.proofs.OpenLemmas.{from_none, fault_step, fault_missing}
use Rattle.warg_tiles.proofs.tile_log.+check_tiles.Goals as goal

pub returns-then-places-eq0-clause-err : goal.returns-then-places-eq0-clause-err
returns-then-places-eq0-clause-err g t c =
    rw (from_none c.args.log_length c.args.level (omega arith) c.if-places-eq0.true) c.check_tiles.ensures.err

pub returns-in_default-clause-err : goal.returns-in_default-clause-err
returns-in_default-clause-err g t c = fault_missing (λ t. t.tile) c.args.tiles.now c.args.log_length c.args.level
    (omega arith) c.if-places-eq0.false c.in_default.ensures.cases

pub returns-in_err-check_tile-clause-err : goal.returns-in_err-check_tile-clause-err
returns-in_err-check_tile-clause-err g t c =
    let step = fault_step (λ t. t.tile) c.args.tiles.now c.in-Some.others.now c.in-Some.first.now c.new.result
    c.args.log_length c.args.level (omega arith) c.if-places-eq0.false c.new.ensures.level c.new.ensures.number
    c.new.ensures.width c.in-Some.ensures.cases.0 in
    err_same _ c.in_err-check_tile.field-0.0 c.from_residual.result c.from_residual.ensures.1
    (step ∙ ap (λ o. earlier o (tiles_fault (partial_from c.args.log_length (c.args.level + 1))
    (map (λ t. t.tile) c.in-Some.others.now))) c.in_err-check_tile.ensures.err)

pub returns : goal.returns
returns g t c =
    let step = fault_step (λ t. t.tile) c.args.tiles.now c.in-Some.others.now c.in-Some.first.now c.new.result
    c.args.log_length c.args.level (omega arith) c.if-places-eq0.false c.new.ensures.level c.new.ensures.number
    c.new.ensures.width c.in-Some.ensures.cases.0
    ∙ ap (λ o. earlier o (tiles_fault (partial_from c.args.log_length (c.args.level + 1))
    (map (λ t. t.tile) c.in-Some.others.now))) c.in_ok-check_tile.ensures.ok in
    record {
      ok = on_ok_weaker c.check_tiles-2.result (λ none. step ∙ none) c.check_tiles-2.ensures.ok;
      err = IfErr-weaker c.check_tiles-2.result _ _ (λ e fault. step ∙ fault) c.check_tiles-2.ensures.err;
    }
