-- What two evaluations of two values show, where they lead to one root, and entries compared by their bytes.
use Rattle.std.specs.Prelude.{◌≡◌, ℕ, ◌<◌, List, [], length, take, Option, Some, None, MatchOption, slice_index_or}
use Rattle.warg_crypto.specs.Tree.{leaf_input}
use Rattle.warg_witness.specs.Claims.{Begins}
use Rattle.warg_witness.specs.Findings.{Finds}
use Rattle.warg_witness.specs.Private.Divergence.{Shows, inputs, inputs_of}
use Rattle.warg_witness.specs.declared.collision.Finding.{Finding}
use Rattle.warg_witness.specs.declared.collision.Finding.TheVariants.{Holds, NotMet}
use Rattle.warg_witness.specs.declared.divergence.Divergence.{Divergence}
use Rattle.warg_witness.specs.declared.divergence.Divergence.TheVariants.{Target, Branch}

-- What is found of them, where the evaluations don't meet, or diverge as said: whether the values are the same, or the pair
-- that the divergence shows.
abbrev pub IsCompared : {D A : _} → Option (Divergence D) → List ℕ → List ℕ → Finding D A → Type 0
IsCompared None first second finding = finding ≡ NotMet
IsCompared (Some p) first second finding = Finds Unit (first ≡ second) (λ l r. (l, r) ≡ inputs_of p (leaf_input first) (leaf_input second)) finding

-- The evaluations meet exactly where the claim is met that they lead to one root, and the divergence shows a collision if
-- the values differ.
pub record IsAgreed {D : _} (H : List ℕ → List ℕ) (agree : Type 0) (placed : List ℕ → List ℕ → Type 0) (first second : List ℕ) (met : Option (Divergence D)) : Type 0 where
  pub is : MatchOption met (agree → ⊥) (λ p. agree × ((first ≡ second → ⊥) → Shows H placed (inputs_of p (leaf_input first) (leaf_input second))))

-- What is found where an evaluation diverges nowhere from a tree, and so holds, or diverges at these branches: whether it holds
-- all the same, or the pair that the branches show.
abbrev pub IsFoundAt : {D A : _} → Divergence D → Type 0 → Finding D A → Type 0
IsFoundAt Target holds finding = finding ≡ Holds
IsFoundAt (Branch branches) holds finding = Finds Unit holds (λ l r. (l, r) ≡ inputs branches) finding

-- The value is the entry of a lone leaf.
abbrev pub IsAt : List ℕ → List (List ℕ) → ℕ → ℕ → Type 0
IsAt value entries start count = (count ≡ 1) × (slice_index_or entries start [] ≡ value)

-- The first place at which the new entries have another entry than the old ones.
pub record DiffersFirst (old new : List (List ℕ)) (place : ℕ) : Type 0 where
  pub within : place < length old
  pub before : take place old ≡ take place new
  pub differ : slice_index_or old place [] ≡ slice_index_or new place [] → ⊥

-- Nothing where the new entries begin with the old ones, else the first place at which they don't.
abbrev pub IsFirstDifference : List (List ℕ) → List (List ℕ) → Option ℕ → Type 0
IsFirstDifference old new None = Begins old new
IsFirstDifference old new (Some place) = DiffersFirst old new place
