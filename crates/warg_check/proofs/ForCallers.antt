-- Lemmas for the proofs of the crates above, over public definitions alone.
use Rattle.std.proofs.Common.{◌≡◌, ℕ, Bool, List, Some, Result, Ok}
use Rattle.std.specs.Prelude.{slice_get}
use Rattle.warg_protobuf.specs.declared.value_error.DecodeError.{DecodeError}
use Rattle.warg_check.specs.Verdicts.{verdict_at}
use Rattle.warg_check.proofs.VerdictLemmas as verdicts

-- from a bundle that is read to the verdict on one of its proofs
pub judged_at : {B P : Type 0} (proofs : B → List P) (holds : B → P → Bool) (at : ℕ) (read : Result B DecodeError)
    (b : B) (proof : P) (is : Bool)
    → read ≡ Ok b → slice_get (proofs b) at ≡ Some proof → holds b proof ≡ is → verdict_at proofs holds at read ≡ Ok is
judged_at = verdicts.judged_at
