use Rattle.warg_paths.proofs.LawLemmas.{leads_as_proof}
use Rattle.warg_paths.proofs.laws.path_leads_as_proof.Goals as goal

pub returns : goal.returns
returns c = leads_as_proof
