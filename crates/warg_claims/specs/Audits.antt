-- What an auditor checks who holds a map's root alone: steps, each with its evidence.
use Rattle.std.specs.Prelude.{◌≡◌, ℕ, true, List, [], ◌∷◌, map, Ok}
use Rattle.warg_bundle.specs.MapBundles.{map_bundle_of}
use Rattle.warg_witness.specs.UpdateClaims.{Step}
use Rattle.warg_check.specs.Claims.{Claim, Evidence, verdict}
use Rattle.warg_check.specs.Claims.Claim.{update, insertion}
use Rattle.warg_check.specs.Claims.Evidence.{by_bundle}
use Rattle.warg_claims.specs.Placed.{peers_in}

-- The claim is of one step from the first root to the second. No other claim is.
abbrev pub IsStep : Claim → List ℕ → List ℕ → Type 0
IsStep (update key old_value new_value old_root new_root) old new = (old_root ≡ old) × (new_root ≡ new)
IsStep (insertion key value old_root new_root) old new = (old_root ≡ old) × (new_root ≡ new)
IsStep _ old new = ⊥

-- Each step goes on from the root before it, and its verdict is true: from the first root to the last.
unfoldable pub AreChecked : (List ℕ → List ℕ) → List ℕ → List (Claim × Evidence) → List ℕ → Type 0
AreChecked H root [] end = root ≡ end
AreChecked H root (step ∷ steps) end = (next : List ℕ) × IsStep step.0 root next × (verdict H step.0 step.1 ≡ Ok true) × AreChecked H next steps end

-- A step with its peers. What is no step inserts no bytes under no bytes.
abbrev pub step_of : Claim × Evidence → Step
step_of (update key old_value new_value old_root new_root, by_bundle bytes place) =
    record { peers = peers_in (λ b. b.proofs) place (map_bundle_of bytes); key = key; old_value = old_value; new_value = new_value }
step_of (insertion key value old_root new_root, by_bundle bytes place) =
    record { peers = peers_in (λ b. b.absences) place (map_bundle_of bytes); key = key; old_value = []; new_value = value }
step_of _ = record { peers = []; key = []; old_value = []; new_value = [] }

-- The steps with their peers.
abbrev pub steps_of : List (Claim × Evidence) → List Step
steps_of steps = map step_of steps
