use Rattle.std.proofs.Common.{◌≡◌, take, map}
use Rattle.warg_log.specs.Tree.{leaves_of}
use Rattle.warg_claims.proofs.convict.have_root.Given as goal

abbrev pub invariant-entries : goal.invariant-entries
invariant-entries g l = l.log ≡ leaves_of g.D.SupportedDigest.digest
    (map g.V.VisitBytes.bytes (take l.entry-index l.entries))
