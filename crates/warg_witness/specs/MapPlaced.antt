-- Where the two byte lists of a map's collision stand.
use Rattle.std.specs.Prelude.{◌≡◌, ℕ, ◌⊎◌, Bool, List, ◌++◌, length, map, Option, Contains}
use Rattle.warg_map.specs.Bits.{key_bits}
use Rattle.warg_witness.specs.MapInputs.{path_input, plain_input_at}

-- The evaluation's input (first) and the plain input (second) at one prefix of the key's bits.
pub record IsPlacedAtPrefix (H : List ℕ → List ℕ) (peers : List (Option (List ℕ))) (value key : List ℕ) (insertions : List (List ℕ × List ℕ)) (first second : List ℕ) : Type 0 where
  pub prefix : List Bool
  pub rest : List Bool
  pub bits : key_bits H key ≡ prefix ++ rest
  pub evaluation : first ≡ path_input H peers value rest
  pub plain : second ≡ plain_input_at H insertions prefix (length rest)

-- The claimed key's bytes (first) and an inserted key's bytes (second).
pub record IsPlacedAtKeys (key : List ℕ) (insertions : List (List ℕ × List ℕ)) (first second : List ℕ) : Type 0 where
  pub claimed : first ≡ key
  pub inserted : Contains (map (λ e. e.0) insertions) second

-- For a key with a value: one of the two. For an absence: the same, with no bytes as value.
abbrev pub IsKeyPlaced : (List ℕ → List ℕ) → List (Option (List ℕ)) → List ℕ → List ℕ → List (List ℕ × List ℕ) → List ℕ → List ℕ → Type 0
IsKeyPlaced H peers value key insertions first second = IsPlacedAtPrefix H peers value key insertions first second ⊎ IsPlacedAtKeys key insertions first second

-- For an agreement of two proofs on a key, each with its value: the two evaluations' inputs at one prefix of its bits, in the
-- order given.
pub record IsKeyAgreementPlaced (H : List ℕ → List ℕ) (key : List ℕ) (one other : List (Option (List ℕ)) × List ℕ) (first second : List ℕ) : Type 0 where
  pub prefix : List Bool
  pub rest : List Bool
  pub bits : key_bits H key ≡ prefix ++ rest
  pub first_evaluation : first ≡ path_input H one.0 one.1 rest
  pub second_evaluation : second ≡ path_input H other.0 other.1 rest
