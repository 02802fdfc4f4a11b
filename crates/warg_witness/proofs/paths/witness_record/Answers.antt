use Rattle.std.proofs.Common.{◌<◌, length, map, sym, arith}
use Rattle.std.proofs.lemmas.Result.{IfOk-weaker}
use Rattle.warg_witness.proofs.AgreementLemmas.{finds_as}
use Rattle.warg_witness.proofs.HashLemmas.{entries_count}
use Rattle.warg_paths.proofs.ForCallers.{leads_inside}
use Rattle.warg_witness.proofs.RecordLemmas.{own_from, met_from, met_then, record_placed}
use Rattle.warg_witness.proofs.paths.witness_record.Goals as goal

pub returns-clause-found : goal.returns-clause-found
returns-clause-found g c =
    let H = g.D.SupportedDigest.digest in
    let entries = map g.V.VisitBytes.bytes c.args.entries.now in
    let value = g.V.VisitBytes.bytes c.args.value.now in
    let own = c.in_ok-own.own.items in
    let count = entries_count g.V.VisitBytes.bytes c.args.entries.now in
    let inside : c.args.index < length entries = grind (arith, leads_inside) in
    let made = own_from H c.args.index entries _ own c.in_ok-tree.ensures inside c.in_ok-own.ensures in
    IfOk-weaker c.agree_record.result _ _ (finds_as _ _ (met_from H c.args.index c.args.path.now value entries own
    inside made)
    (met_then H c.args.index c.args.path.now value entries own inside made) sym sym
    (λ _. record_placed H c.args.index c.args.path.now value entries own inside made))
    (rw (c.deref.ensures.value, ← count, ← c.entry_at-entry.ensures) at c.agree_record.ensures.found)
