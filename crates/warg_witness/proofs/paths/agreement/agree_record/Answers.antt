use Rattle.warg_witness.proofs.AgreementLemmas.{records_agreed, agreed_none, agreed_found}
use Rattle.warg_witness.proofs.paths.agreement.agree_record.Goals as goal

pub returns : goal.returns
returns g c =
    let agreed = records_agreed _ c.args.index c.args.length c.args.first_path.now _ c.args.second_path.now _
    c.hash_leaf-first_leaf.ensures c.hash_leaf-second_leaf.ensures c.meet_paths-met.result
    c.meet_paths-met.ensures in
    record {
      unmet = λ other. c.compare_values.ensures.unmet (agreed_none _ c.meet_paths-met.result agreed other);
      found = agreed_found _ c.meet_paths-met.result agreed c.compare_values.result c.compare_values.ensures.found;
    }
