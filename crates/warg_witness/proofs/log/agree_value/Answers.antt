use Rattle.std.proofs.Common.{refl}
use Rattle.warg_witness.proofs.AgreementLemmas.{values_agreed, agreed_none, agreed_found}
use Rattle.warg_witness.proofs.log.agree_value.Goals as goal

pub returns : goal.returns
returns g c =
    let exists = rw (c.leaf.ensures, c.log_length.ensures.value) at (c.if-not-exists_at_length.ensures.0 refl) in
    let target = rw c.leaf-2.ensures at c.leaf_range-target.ensures in
    let whole = rw c.log_length-2.ensures.value at c.new-whole.ensures in
    let agreed = values_agreed _ _ c.args.proof.now _ _ _ exists c.hash_leaf-first_hash.ensures
    c.hash_leaf-second_hash.ensures target whole c.meet_ranges-met.result c.meet_ranges-met.ensures in
    record {
      unmet = λ other. c.compare_values.ensures.unmet (agreed_none _ c.meet_ranges-met.result agreed other);
      found = agreed_found _ c.meet_ranges-met.result agreed c.compare_values.result c.compare_values.ensures.found;
    }
