use Rattle.std.proofs.Common.{◌≡◌, take, map}
use Rattle.warg_log.specs.Tree.{leaves_of}
use Rattle.warg_witness.proofs.plain.plain_tree.Given as goal

abbrev pub invariant-entries : goal.invariant-entries
invariant-entries g l = l.tree ≡ leaves_of g.D.SupportedDigest.digest
    (map g.V.VisitBytes.bytes (take l.entry-index l.entries))
