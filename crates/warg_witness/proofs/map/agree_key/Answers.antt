use Rattle.warg_witness.proofs.AgreementLemmas.{keys_agreed, agreed_none, agreed_found}
use Rattle.warg_witness.proofs.map.agree_key.Goals as goal

pub returns : goal.returns
returns g c =
    let agreed = keys_agreed _ (g.K.VisitBytes.bytes c.args.key.now) _ _ _ _ c.of-digest.ensures c.peers.ensures.value
    c.peers-2.ensures.value c.hash_leaf.ensures c.hash_leaf-2.ensures c.meet_on_path-met.result
    c.meet_on_path-met.ensures in
    record {
      unmet = λ other. c.compare_values.ensures.unmet (agreed_none _ c.meet_on_path-met.result agreed other);
      found = agreed_found _ c.meet_on_path-met.result agreed c.compare_values.result c.compare_values.ensures.found;
    }
