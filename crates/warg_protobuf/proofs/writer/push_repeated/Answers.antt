use Rattle.std.proofs.lemmas.List.{take_all}
use Rattle.std.proofs.lemmas.List.Folds.{flat_map-map}
use Rattle.warg_protobuf.proofs.writer.push_repeated.Goals as goal

pub returns : goal.returns
returns g c = simp (
  flat_map-map,
  c.loop-digest.invariant,
  take_all c.loop-digest.digest-index c.args.digests.now c.loop-digest-test.false,
)
