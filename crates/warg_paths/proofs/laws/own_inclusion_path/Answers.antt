use Rattle.warg_paths.proofs.LawLemmas.{own_leads}
use Rattle.warg_paths.proofs.laws.own_inclusion_path.Goals as goal

pub returns : goal.returns
returns c = own_leads
