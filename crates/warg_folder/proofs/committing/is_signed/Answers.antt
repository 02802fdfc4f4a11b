use Rattle.std.proofs.Common.{refl, ◌∙◌}
use Rattle.warg_folder.specs.declared.committing.TheConstants.{MOST_TEXT}
use Rattle.warg_folder.proofs.ReadLemmas.{signed_read}
use Rattle.warg_folder.proofs.ForCallers.{read_none, unsigned_is}
use Rattle.warg_folder.proofs.committing.is_signed.Goals as goal

pub returns-in-Some-clause-signed : goal.returns-in-Some-clause-signed
returns-in-Some-clause-signed g c = λ faithful.
    c.has_signatures.ensures ∙ signed_read _ _ MOST_TEXT refl
    (rw c.as_slice.ensures.value (rw c.in-Some.is at (c.in_ok-bytes.ensures.found faithful)))

pub returns-in-None-clause-signed : goal.returns-in-None-clause-signed
returns-in-None-clause-signed g c = λ faithful.
    unsigned_is _ (read_none _ MOST_TEXT (rw c.in-None.is at (c.in_ok-bytes.ensures.found faithful)))
