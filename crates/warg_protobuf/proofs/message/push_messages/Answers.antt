use Rattle.std.proofs.lemmas.List.{take_all}
use Rattle.std.proofs.lemmas.List.Elements.{All-map}
use Rattle.std.proofs.lemmas.List.Folds.{flat_map-map}
use Rattle.warg_protobuf.proofs.message.push_messages.Goals as goal

pub returns-clause-written : goal.returns-clause-written
returns-clause-written g c = simp (
  flat_map-map,
  c.loop-message.invariant.written,
  take_all c.loop-message.message-index c.args.messages.now c.loop-message-test.false,
)

pub returns-clause-fits : goal.returns-clause-fits
returns-clause-fits g c =
    All-map g.M.Message.Fits g.M.Message.view c.args.messages.now
    (rw (take_all c.loop-message.message-index c.args.messages.now c.loop-message-test.false) at
    c.loop-message.invariant.fits)
