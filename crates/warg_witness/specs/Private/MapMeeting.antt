-- A map's proof that leads to the plain root of given insertions, and what a witness knows of it.
use Rattle.std.specs.Prelude.{◌≡◌, ◌⊎◌, ℕ, List, [], ◌∷◌, ◌++◌, if◌then◌else◌, Option, Some, None, Bool}
use Rattle.std.specs.Option.{option_map}
use Rattle.warg_crypto.specs.Bytes.{same_bytes}
use Rattle.warg_map.specs.Bits.{key_bits}
use Rattle.warg_crypto.specs.Tree.{leaf_digest, leaf_input}
use Rattle.warg_map.specs.Sparse.{map_of}
use Rattle.warg_map.specs.Last.{last_under}
use Rattle.warg_map.specs.Peers.{IsBeside}
use Rattle.std.specs.FinMap.{get}
use Rattle.warg_witness.specs.MapClaims.{value_in, IsKeyMet}
use Rattle.warg_witness.specs.MapPlaced.{IsPlacedAtPrefix}
use Rattle.warg_witness.specs.MapsPlaced.{Insertions, IsPlacedInMaps}
use Rattle.warg_witness.specs.UpdateClaims.{IsUpdated}
use Rattle.warg_witness.specs.Private.Divergence.{Parts, inputs}
use Rattle.warg_witness.specs.declared.divergence.Divergence.{Divergence}
use Rattle.warg_witness.specs.declared.divergence.Divergence.TheVariants.{Target, Branch}
use Rattle.std.specs.Borrow.{Bor}
use Rattle.warg_map.specs.ProofValue.{proof_value}
use Rattle.warg_witness.specs.MapInputs.{fork_input}
use Rattle.warg_witness.specs.declared.divergence.Climb.{Climb}

-- The bytes of an insertion that is lent, if there is one.
abbrev pub lent_pair : {K V : Type 0} → (K → List ℕ) → (V → List ℕ) → Option (Bor (K × V)) → Option (List ℕ × List ℕ)
lent_pair key_bytes value_bytes pair = option_map (λ e. (key_bytes e.now.0, value_bytes e.now.1)) pair

-- A proof's evaluation diverges nowhere from the plain tree: both have one leaf digest under the key, and from any other
-- value the evaluation leads to the plain root with this value inserted too.
pub record IsAlike (H : List ℕ → List ℕ) (peers : List (Option (List ℕ))) (key value : List ℕ) (insertions : List (List ℕ × List ℕ)) : Type 0 where
  pub same : leaf_digest H value ≡ leaf_digest H (value_in (last_under H (key_bits H key) insertions))
  pub updates : (new : List ℕ) → IsUpdated H peers key new insertions

-- The claim of a key is met; the evaluation diverges from the plain tree as said, on the way to the key's leaf; and these peers
-- stand beside the key's path in the plain tree.
pub record IsKeyMeeting {D : _} (H : List ℕ → List ℕ) (peers : List (Option (List ℕ))) (key value : List ℕ) (insertions : List (List ℕ × List ℕ)) (divergence : Divergence D) (own : List (Option (List ℕ))) : Type 0 where
  pub met : IsKeyMet H peers key value insertions
  pub diverges : Parts H (IsPlacedAtPrefix H peers value key insertions) (IsAlike H peers key value insertions) divergence
  pub beside : IsBeside H own (get (map_of H insertions)) (key_bits H key)

-- The two byte lists that a false claim of a key shows: those of the branches at which the evaluation diverges; or those
-- of the leaves; or, where these have one value, the key and the inserted one.
abbrev pub key_inputs : {D : _} → Divergence D → Option (List ℕ × List ℕ) → List ℕ → List ℕ → List ℕ × List ℕ
key_inputs (Branch branches) last key value = inputs branches
key_inputs Target None key value = (leaf_input value, leaf_input [])
key_inputs Target (Some e) key value = if same_bytes value e.1 then (key, e.0) else (leaf_input value, leaf_input e.1)

-- Where the two byte lists of a step's lie stand: at the branches at which the evaluation diverges, or in both maps.
abbrev pub IsPlacedInStep : {D : _} → (List ℕ → List ℕ) → Divergence D → Insertions → Insertions → List ℕ → List ℕ → Type 0
IsPlacedInStep H (Branch branches) xs ys first second = ((first, second) ≡ inputs branches) ⊎ IsPlacedInMaps H xs ys first second
IsPlacedInStep H Target xs ys first second = IsPlacedInMaps H xs ys first second

-- The inputs of two evaluations at one of these bits, each by its peers from its leaf digest.
pub record OnBits (H : List ℕ → List ℕ) (one other : List (Option (List ℕ)) × List ℕ) (bits : List Bool) (first second : List ℕ) : Type 0 where
  pub above : List Bool
  pub bit : Bool
  pub below : List Bool
  pub split : bits ≡ above ++ bit ∷ below
  pub first_is : first ≡ fork_input H one.0 one.1 bit below
  pub second_is : second ≡ fork_input H other.0 other.1 bit below

-- They diverge nowhere, and lead to one root from each leaf, or they diverge at one of the bits.
abbrev pub IsBitDivergence : {D : _} → (List ℕ → List ℕ) → List (Option (List ℕ)) × List ℕ → List (Option (List ℕ)) × List ℕ → List Bool → Divergence D → Type 0
IsBitDivergence H one other bits p =
    Parts H (OnBits H one other bits) ((one.1 ≡ other.1) × ((leaf : List ℕ) → proof_value H one.0 leaf bits ≡ proof_value H other.0 leaf bits)) p

-- They lead to the climb's digests, and diverge as it says if the two are one.
pub record IsBitClimb {D : _} (H : List ℕ → List ℕ) (one other : List (Option (List ℕ)) × List ℕ) (bits : List Bool) (climb : Climb D) : Type 0 where
  pub first_is : climb.first ≡ proof_value H one.0 one.1 bits
  pub second_is : climb.second ≡ proof_value H other.0 other.1 bits
  pub diverges : climb.first ≡ climb.second → IsBitDivergence H one other bits climb.divergence

-- They lead to one root, and diverge as said on the way down from it.
pub record MeetsOnPath {D : _} (H : List ℕ → List ℕ) (one other : List (Option (List ℕ)) × List ℕ) (bits : List Bool) (divergence : Divergence D) : Type 0 where
  pub met : proof_value H one.0 one.1 bits ≡ proof_value H other.0 other.1 bits
  pub diverges : IsBitDivergence H one other bits divergence
