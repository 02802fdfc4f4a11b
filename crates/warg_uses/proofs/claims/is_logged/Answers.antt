use Rattle.std.proofs.Common.{◌≡◌, Bool, true, Result, Ok, Err, ◌∙◌}
use Rattle.warg_protobuf.specs.Reading.{Answers}
use Rattle.warg_check.specs.declared.verdict.CheckError.{CheckError}
use Rattle.warg_check.specs.declared.verdict.CheckError.TheVariants as fault
use Rattle.warg_check.specs.Claims.Claim.{entry_at}
use Rattle.warg_check.specs.Claims.Evidence.{by_bundle}
use Rattle.warg_uses.proofs.claims.is_logged.Goals as goal

-- a verdict that was returned is the verdict
returned : (result verdict : Result Bool CheckError) → Answers fault.Memory result verdict → result ≡ Ok true
    → verdict ≡ Ok true
returned (Ok holds) verdict same is = same ∙ is
returned (Err e) verdict refused is = absurd cc

pub returns : goal.returns
returns g c = λ passed entries is_log untrue.
    c.true_or_collision.ensures g.D.SupportedDigest.digest (entry_at c.args.index c.args.release.now c.args.log.now)
    (by_bundle c.args.bundle.now 0) entries g.met.D.SupportedDigest.is_digest
    (returned c.check_entry.result _ c.check_entry.ensures.verdict passed) is_log untrue
