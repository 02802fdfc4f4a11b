-- What a conviction finds.
use Rattle.std.specs.Prelude.{◌≡◌, ℕ, true, List, Ok}
use Rattle.warg_witness.specs.declared.collision.Finding.{Finding}
use Rattle.warg_witness.specs.Findings.{Finds}
use Rattle.warg_check.specs.Claims.{Claim, Evidence, verdict}
use Rattle.warg_claims.specs.Worlds.{World, HasRoots, IsTrueOf}
use Rattle.warg_claims.specs.Placed.{IsPlaced}

-- The evidence shows the claim, and the world has the roots that it names.
pub record IsShownOf (H : List ℕ → List ℕ) (claim : Claim) (evidence : Evidence) (world : World claim) : Type 0 where
  pub shown : verdict H claim evidence ≡ Ok true
  pub roots : HasRoots H claim world

-- The finding is right: the claim isn't shown under the world's roots; or it is, and it is true of the world; or it is shown
-- and untrue, and the two byte strings stand at the named place. That they differ and have one digest is `Collision`'s own
-- promise.
abbrev pub Convicts : {D A : _} → (List ℕ → List ℕ) → (claim : Claim) → Evidence → World claim → Finding D A → Type 0
Convicts H claim evidence world finding = Finds (IsShownOf H claim evidence world) (IsTrueOf claim world) (IsPlaced H claim evidence world) finding
