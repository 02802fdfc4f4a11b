use Rattle.warg_program.proofs.BundledLemmas.{claim_is}
use Rattle.warg_program.proofs.session.Session.bundle_of.Goals as goal

pub returns : goal.returns
returns g c =
    let proof = c.prove_inclusion.ensures in
    rw (c.new.ensures.items, c.in_ok-proofs.ensures.items, claim_is _ _ _ proof.leaf proof.log_length) at
    c.bundle.ensures
