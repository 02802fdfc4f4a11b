use Rattle.std.proofs.Common.{◌≡◌, ◌+◌, take, map}
use Rattle.warg_log.specs.Tree.{leaves_of}
use Rattle.warg_log.specs.Growing.{Appends}
use Rattle.warg_log.proofs.log.push_all.Given as goal

abbrev pub invariant-entries : goal.invariant-entries
invariant-entries g l = record {
  len : g.B.LogBuilder.len l.log ≡ g.B.LogBuilder.len l.initial.log + l.entry-index;
  appends : Appends g.B.LogBuilder.stands_for l.initial.log l.log
      (leaves_of g.D.SupportedDigest.digest (map g.V.VisitBytes.bytes (take l.entry-index l.entries)));
}
