use Rattle.std.proofs.Common.{◌≡◌, ◌<◌, length, refl, arith}
use Rattle.std.proofs.lemmas.Result.{err_from_is_err_and}
use Rattle.warg_protobuf.specs.Private.Lent.{field_view}
use Rattle.warg_protobuf.specs.Schema.{check_by, message_of}
use Rattle.warg_protobuf.proofs.Readers.{found, shorter, Fails-then}
use Rattle.warg_protobuf.proofs.Decoders.{decodes}
use Rattle.warg_protobuf.proofs.Fields.{fields}
use Rattle.warg_protobuf.proofs.Loops.{Collects-next, Collects-fails, Collects-done}
use Rattle.warg_protobuf.proofs.message.read_message.Goals as goal

pub returns-in_err-field : goal.returns-in_err-field
unfolding message_of
returns-in_err-field g c =
    let p = err_from_is_err_and c.from_residual.result c.from_residual.ensures.1 in
    let left : 0 < length c.loop-rest.rest.now = grind arith in
    let met = Fails-then _ _ (λ x. check_by g.M.Message.schema.table x.0) c.in_err-field.ensures in
    rw (p.1, p.2) (decodes g.M.Message.view g.M.Message.schema _ _
    (Fails-then _ _ _ (Collects-fails (check_by g.M.Message.schema.table) fields _ _ _ _ c.loop-rest.invariant _
    left met)))

pub returns-in_err-put : goal.returns-in_err-put
unfolding message_of
returns-in_err-put g c =
    let p = err_from_is_err_and c.from_residual-in_err-put.result c.from_residual-in_err-put.ensures.1 in
    let left : 0 < length c.loop-rest.rest.now = grind arith in
    rw (p.1, p.2) (decodes g.M.Message.view g.M.Message.schema _ _ (Fails-then _ _ _
    (Collects-fails (check_by g.M.Message.schema.table) fields _ _ _ _ c.loop-rest.invariant _ left
    (rw c.in_ok-field.ensures c.in_err-put.ensures))))

pub loop-rest-smaller : goal.loop-rest-smaller
loop-rest-smaller g c = shorter fields _ _ _
    (found fields c.loop-rest.rest.now (field_view c.in_ok-field.field) c.in_ok-field.after.now c.in_ok-field.ensures)

pub loop-rest-preserved : goal.loop-rest-preserved
loop-rest-preserved g c =
    Collects-next (check_by g.M.Message.schema.table) fields _ _ _ _ c.loop-rest.invariant g.M.Message.add
    g.met.M.Message.adds (field_view c.in_ok-field.field) c.in_ok-field.after.now _ c.in_ok-field.ensures
    c.in_ok-put.ensures

pub returns : goal.returns
unfolding message_of
returns g c =
    let none : length c.loop-rest.rest.now ≡ 0 = grind arith in
    let d = Collects-done (check_by g.M.Message.schema.table) fields _ _ _ _ c.loop-rest.invariant none in
    decodes g.M.Message.view g.M.Message.schema _ _ (rw (d.1, ← d.2) refl)
