use Rattle.std.proofs.Common.{◌^◌, ◌≡◌, ◌≤◌}
use Rattle.std.specs.List.{AllByRecursion}
use Rattle.warg_log.specs.Nodes.{end_of}
use Rattle.warg_log.specs.Consistency.{agreed_root}
use Rattle.warg_log.proofs.consistency.agree.Given as goal

abbrev pub invariant-roots : goal.invariant-roots
invariant-roots g l = record {
  ends : AllByRecursion (λ t. end_of t ≤ 2 ^ 63) l.root-iterator;
  rest : agreed_root g.D.SupportedDigest.digest (g.L.LogData.digest_at l.hashes) l.whole.count l.agreed l.root-iterator
      ≡ agreed_root g.D.SupportedDigest.digest (g.L.LogData.digest_at l.hashes) l.whole.count l.agreed l.fn.roots;
}
