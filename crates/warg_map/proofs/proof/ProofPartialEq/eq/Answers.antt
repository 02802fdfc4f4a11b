use Rattle.std.proofs.Common.{◌≡◌, rules}
use Rattle.warg_map.specs.Messages.{same_peers}
use Rattle.warg_map.proofs.ProofEquality.{peers_decide}
use Rattle.warg_map.proofs.proof.ProofPartialEq.eq.Goals as goal

pub returns-clause-exact : goal.returns-clause-exact
returns-clause-exact g c =
    let same : c.eq.result ≡ same_peers c.args.self.now c.args.other.now = search rules in
    rw same (peers_decide _ _)
