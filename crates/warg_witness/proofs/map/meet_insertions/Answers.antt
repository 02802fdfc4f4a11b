use Rattle.std.proofs.Common.{◌∙◌, sym}
use Rattle.warg_map.specs.Sparse.{pair_bytes}
use Rattle.warg_map.proofs.ForCallers.{key_beside}
use Rattle.warg_witness.proofs.KeyLemmas.{own_root, own_met}
use Rattle.warg_witness.proofs.map.meet_insertions.Goals as goal

pub returns : goal.returns
returns g c = (
  c.last_of_digest-last.ensures _ c.of-digest.ensures,
  own_met _ _ _ _ (key_beside _ _ (g.K.VisitBytes.bytes c.args.key.now) _ c.in_ok-own.ensures) _
      (c.last_of_digest-last.ensures _ c.of-digest.ensures) _ _ _
      (rw (c.peers.ensures.value, c.of-digest.ensures, c.plain_leaf.ensures, c.hash_leaf.ensures) at c.in-Some.ensures),
)

pub returns-in_default : goal.returns-in_default
returns-in_default g c met =
    let apart = rw (c.peers.ensures.value, c.of-digest.ensures, c.plain_leaf.ensures, c.hash_leaf.ensures) at
    c.in_default.ensures in
    let beside = key_beside _ _ (g.K.VisitBytes.bytes c.args.key.now) _ c.in_ok-own.ensures in
    apart (met ∙ sym (own_root _ (pair_bytes g.K.VisitBytes.bytes g.V.VisitBytes.bytes c.args.insertions.now) _ _ beside
    _ (c.last_of_digest-last.ensures _ c.of-digest.ensures)))
