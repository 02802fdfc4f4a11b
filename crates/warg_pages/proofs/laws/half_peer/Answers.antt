use Rattle.warg_pages.proofs.HeldHalves.{half_peer}
use Rattle.warg_pages.proofs.laws.half_peer.Goals as goal

pub returns : goal.returns
returns c = half_peer
