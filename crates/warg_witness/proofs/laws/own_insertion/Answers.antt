use Rattle.warg_witness.proofs.LawLemmas.{own_absent}
use Rattle.warg_witness.proofs.laws.own_insertion.Goals as goal

pub returns : goal.returns
returns c = own_absent
