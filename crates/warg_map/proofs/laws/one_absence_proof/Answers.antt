use Rattle.warg_map.proofs.UniqueRootsAndProofs.{same_proof}
use Rattle.warg_map.proofs.laws.one_absence_proof.Goals as goal

pub returns : goal.returns
returns c = λ H m bits ps qs g h. same_proof H _ ps qs g.peers_from_top h.peers_from_top g.count h.count
