use Rattle.std.proofs.Common.{◌≤◌, length, ◌∙◌}
use Rattle.std.specs.Prelude.{IsSome}
use Rattle.warg_map.specs.Bits.{last_bits}
use Rattle.warg_map.specs.Peers.{ProvesEmpty}
use Rattle.warg_map.proofs.CollectedPeers.{proves_asked}
use Rattle.warg_map.proofs.KeyBits.{length-last_bits}
use Rattle.warg_map.proofs.map.Map.proof_of.Goals as goal
use Rattle.warg_map.proofs.map.Map.proof_of.Goals.{In_ok-collect}

proves : (g : _) (c : In_ok-collect g) → (length c.collect.new.to.peers.items ≤ 256)
    × (IsSome c.collect.new.to.held → ProvesEmpty g.D.SupportedDigest.digest c.args.self.now
    (last_bits c.args.key.now 256) c.collect.new.to.peers.items)
proves g c = proves_asked _ c.args.asked _ _ _
    (c.node.ensures.seen ∙ (λ i. (c.self.invariant.0 i, c.self.view_is i))) (length-last_bits c.args.key.now 256)
    c.in_ok-collect.ensures.answer c.in_ok-collect.ensures.peers

pub new-requires-2 : goal.new-requires-2
new-requires-2 g c = (proves g (goal.at.new-requires-2 g c).In_ok-collect).0

pub returns-clause-proof : goal.returns-clause-proof
returns-clause-proof g c = rw c.new-2.ensures (proves g (goal.at.returns-clause-proof g c).In_ok-collect).1
