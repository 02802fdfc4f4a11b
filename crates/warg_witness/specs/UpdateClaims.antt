-- What a map's proof claims of one insertion more, and what a list of such steps leads through.
use Rattle.std.specs.Prelude.{◌≡◌, ℕ, List, [], ◌∷◌, ◌++◌, map, Option}
use Rattle.warg_crypto.specs.Collisions.{SomeCollision}
use Rattle.warg_map.specs.Bits.{key_bits}
use Rattle.warg_crypto.specs.Tree.{leaf_digest}
use Rattle.warg_map.specs.ProofValue.{proof_value}
use Rattle.warg_witness.specs.MapClaims.{IsKeyMet}
use Rattle.warg_witness.specs.MapPlaced.{IsPlacedAtPrefix}

-- The claim of an update: from the new value the proof leads to the plain sparse root of the insertions and then of
-- this one. It is met where from the old value the proof leads to that of the insertions, as a key's claim is.
abbrev pub IsUpdated : (List ℕ → List ℕ) → List (Option (List ℕ)) → List ℕ → List ℕ → List (List ℕ × List ℕ) → Type 0
IsUpdated H peers key new_value insertions = IsKeyMet H peers key new_value (insertions ++ (key, new_value) ∷ [])

-- A step that an auditor checks: the peers of its proof, the key, and the key's value before and after. A key without a
-- value before has no bytes.
pub record Step : Type 0 where
  pub peers : List (Option (List ℕ))
  pub key : List ℕ
  pub old_value : List ℕ
  pub new_value : List ℕ

-- What steps insert, in order.
abbrev pub insertions_of : List Step → List (List ℕ × List ℕ)
insertions_of steps = map (λ (s : Step). (s.key, s.new_value)) steps

-- The step's proof leads from a value under the key to this root.
abbrev pub Leads : (List ℕ → List ℕ) → Step → List ℕ → List ℕ → Type 0
Leads H step value root = proof_value H step.peers (leaf_digest H value) (key_bits H step.key) ≡ root

-- The steps lead from the first root to the last: each from its old value to the root before it, and from its new value
-- to the root after it.
unfoldable pub LeadThrough : (List ℕ → List ℕ) → List ℕ → List Step → List ℕ → Type 0
LeadThrough H root [] end = root ≡ end
LeadThrough H root (step ∷ steps) end = (next : List ℕ) × Leads H step step.old_value root × Leads H step step.new_value next × LeadThrough H next steps end

-- At one of the steps two byte strings differ and have one digest: the input of the evaluation from its old value, and
-- the plain input over what the steps before it insert, at one prefix of the key's bits.
pub record CollidesAtStep (H : List ℕ → List ℕ) (steps : List Step) : Type 0 where
  pub before : List Step
  pub step : Step
  pub after : List Step
  pub split : steps ≡ before ++ step ∷ after
  pub collision : SomeCollision H (IsPlacedAtPrefix H step.peers step.old_value step.key (insertions_of before))
