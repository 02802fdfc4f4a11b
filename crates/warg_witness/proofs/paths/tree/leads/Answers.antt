use Rattle.warg_witness.proofs.GrowthLemmas.{leads_nowhere}
use Rattle.warg_witness.proofs.paths.tree.leads.Goals as goal

pub returns-clause-nowhere : goal.returns-clause-nowhere
returns-clause-nowhere g c = λ old. rw (c.is_some.ensures, c.roots_of_consistency.ensures)
    (leads_nowhere g.D.SupportedDigest.digest c.args.old_length c.args.new_length _ old c.args.path.now)
