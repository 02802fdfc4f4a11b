-- What a witness returns, by what its claim says.
use Rattle.std.specs.Prelude.{ℕ, List}
use Rattle.warg_witness.specs.declared.collision.Finding.{Finding}
use Rattle.warg_witness.specs.declared.collision.Finding.TheVariants.{Holds, NotMet, Collision}

-- The finding is right: the claim isn't met; or it is met and true; or it is met and false, and the two byte strings stand
-- where `placed` says. That they differ and have one digest is `Collision`'s own promise.
abbrev pub Finds : {D A : _} → Type 0 → Type 0 → (List ℕ → List ℕ → Type 0) → Finding D A → Type 0
Finds met claim placed NotMet = ¬ met
Finds met claim placed Holds = met × claim
Finds met claim placed (Collision c) = met × (¬ claim) × placed c.0 c.1
