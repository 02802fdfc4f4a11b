-- What an inclusion proof evaluates to, over digests F.
use Rattle.std.specs.Prelude.{ℕ, nat_le, if◌then◌else◌, List, Option, Result, Err}
use Rattle.std.specs.Option.{ok_or}
use Rattle.warg_log.specs.declared.proof.InclusionProofError.{InclusionProofError}
use Rattle.warg_log.specs.declared.proof.InclusionProofError.TheVariants.{LeafTooNew, HashNotKnown}
use Rattle.warg_log.specs.Nodes.{end_of}
use Rattle.warg_log.specs.Cut.{cut_root}
use Rattle.warg_log.specs.Claims.{InclusionClaim}

-- The root to which a proof leads with the digest x at its node: the cut root at its length, or why there is none.
-- `laws::inclusion_met` says when each comes.
abbrev pub inclusion : (List ℕ → List ℕ) → (ℕ → Option (List ℕ)) → InclusionClaim → List ℕ → Result (List ℕ) InclusionProofError
inclusion H F proof x =
    if nat_le (end_of proof.leaf.0) proof.log_length
    then ok_or (cut_root H F proof.leaf.0 x proof.log_length) HashNotKnown
    else Err LeafTooNew
