use Rattle.warg_crypto.specs.Digests.{sha256}
use Rattle.warg_uses.proofs.MapCallers.{absence_leads}
use Rattle.warg_uses.proofs.map.absence.Goals as goal

pub returns-clause-root : goal.returns-clause-root
returns-clause-root c = absence_leads sha256 c.args.packages.now c.args.name.now c.prove_absence.result
    c.prove_absence.ensures.empty c.prove_absence.ensures.peers
