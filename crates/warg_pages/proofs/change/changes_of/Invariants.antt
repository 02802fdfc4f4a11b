use Rattle.std.proofs.Common.{◌≡◌, ◌+◌, ◌++◌, drop}
use Rattle.warg_map.specs.Sparse.{pair_bytes}
use Rattle.warg_pages.specs.Private.Updates.{changes_from}
use Rattle.warg_pages.proofs.change.changes_of.Given as goal

abbrev pub invariant-loop-insertion : goal.invariant-loop-insertion
invariant-loop-insertion g l = record {
  number : l.version ≡ l.count + l.insertion-index;
  changes : l.changes.items ++ changes_from g.D.SupportedDigest.digest l.version
      (pair_bytes g.K.VisitBytes.bytes g.V.VisitBytes.bytes (drop l.insertion-index l.insertions))
      ≡ changes_from g.D.SupportedDigest.digest l.count
      (pair_bytes g.K.VisitBytes.bytes g.V.VisitBytes.bytes l.insertions);
}
