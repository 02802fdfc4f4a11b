-- The laws that end in a collision, each by the premises that it asks: stated once, for itself and for what is false without
-- one of them.
use Rattle.std.specs.Prelude.{◌≡◌, ℕ, ◌⊎◌, Bool, true, false, List, [], length, Option}
use Rattle.std.specs.Bool.{OnTrue}
use Rattle.std.specs.FinMap.{empty}
use Rattle.warg_crypto.specs.Collisions.{GivesHashes, AreHashes, SomeCollision}
use Rattle.warg_crypto.specs.Tree.{leaf_digest}
use Rattle.warg_log.specs.Claims.{InclusionClaim}
use Rattle.warg_map.specs.Sparse.{sparse_root, map_of}
use Rattle.warg_witness.specs.Claims.{IsMet, IsEntry, IsRootBelow, IsAgreement, IsConsistencyMet, Begins}
use Rattle.warg_witness.specs.Placed.{IsValuePlaced, IsHashPlaced, IsAgreementPlaced, IsConsistencyPlaced}
use Rattle.warg_witness.specs.PathClaims.{IsRecord, IsRecordMet, IsRecordAgreement, IsTreeMet}
use Rattle.warg_witness.specs.PathPlaced.{IsRecordPlaced, IsRecordAgreementPlaced}
use Rattle.warg_witness.specs.TreePlaced.{IsTreePlaced}
use Rattle.warg_witness.specs.MapClaims.{IsKeyMet, IsAbsenceMet, IsKeyAgreement, IsLastValue}
use Rattle.warg_witness.specs.MapPlaced.{IsPlacedAtPrefix, IsKeyPlaced, IsKeyAgreementPlaced}
use Rattle.warg_witness.specs.MapsPlaced.{Insertions, HaveSameValues, IsPlacedInMaps}
use Rattle.warg_witness.specs.UpdateClaims.{IsUpdated, Step, insertions_of, LeadThrough, CollidesAtStep}

-- Which premises are asked: that digests have 32 bytes, that the claim is met, and that it isn't true.
pub record Asked : Type 0 where
  pub hashes : Bool
  pub meeting : Bool
  pub untruth : Bool

-- All of them.
abbrev pub all_asked : Asked
all_asked = record { hashes = true; meeting = true; untruth = true }

-- All but that digests have 32 bytes.
abbrev pub but_hashes : Asked
but_hashes = record { hashes = false; meeting = true; untruth = true }

-- All but that the claim is met.
abbrev pub but_meeting : Asked
but_meeting = record { hashes = true; meeting = false; untruth = true }

-- All but that it isn't true.
abbrev pub but_untruth : Asked
but_untruth = record { hashes = true; meeting = true; untruth = false }

-- That the claim is met alone.
abbrev pub meeting_alone : Asked
meeting_alone = record { hashes = false; meeting = true; untruth = false }

-- That it isn't true alone.
abbrev pub untruth_alone : Asked
untruth_alone = record { hashes = false; meeting = false; untruth = true }

-- Under the premises that are asked two byte strings collide that stand where `placed` says.
abbrev pub Collide : Asked → (List ℕ → List ℕ) → Type 0 → Type 0 → (List ℕ → List ℕ → Type 0) → Type 0
Collide asked H met claim placed =
    OnTrue asked.hashes (GivesHashes H) → OnTrue asked.meeting met → OnTrue asked.untruth (¬ claim) → SomeCollision H placed

-- Of a value's claim.
abbrev pub ValueLaw : Asked → (List ℕ → List ℕ) → Type 0
ValueLaw asked H = (F : ℕ → Option (List ℕ)) (proof : InclusionClaim) (value : List ℕ) (entries : List (List ℕ))
    → Collide asked H (IsMet H F proof (leaf_digest H value) entries) (IsEntry value proof.leaf.0 entries) (IsValuePlaced H F value proof.leaf.0 entries)

-- Of a hash's claim, by whether it is asked that the hash has 32 bytes.
abbrev pub HashLaw : Bool → Asked → (List ℕ → List ℕ) → Type 0
HashLaw sized asked H = (F : ℕ → Option (List ℕ)) (proof : InclusionClaim) (hash : List ℕ) (entries : List (List ℕ)) → OnTrue sized (length hash ≡ 32)
    → Collide asked H (IsMet H F proof hash entries) (IsRootBelow H hash proof.leaf.0 entries) (IsHashPlaced H F hash proof.leaf.0 entries)

-- Of two values over two data.
abbrev pub AgreementLaw : Asked → (List ℕ → List ℕ) → Type 0
AgreementLaw asked H = (proof : InclusionClaim) (F : ℕ → Option (List ℕ)) (value : List ℕ) (G : ℕ → Option (List ℕ)) (other : List ℕ)
    → Collide asked H (IsAgreement H proof F (leaf_digest H value) G (leaf_digest H other)) (value ≡ other) (IsAgreementPlaced H (F, value) (G, other) proof.leaf.0 proof.log_length)

-- Of a claim of consistency.
abbrev pub ConsistencyLaw : Asked → (List ℕ → List ℕ) → Type 0
ConsistencyLaw asked H = (F : ℕ → Option (List ℕ)) (m n : ℕ) (old new : List (List ℕ))
    → Collide asked H (IsConsistencyMet H F m n old new) (Begins old new) (IsConsistencyPlaced H F old new)

-- Of a record's claim.
abbrev pub RecordLaw : Asked → (List ℕ → List ℕ) → Type 0
RecordLaw asked H = (index : ℕ) (path : List (List ℕ)) (value : List ℕ) (entries : List (List ℕ))
    → Collide asked H (IsRecordMet H index path value entries) (IsRecord index value entries) (IsRecordPlaced H index path value entries)

-- Of two values along two paths: it is the paths' digests that have 32 bytes, those of the other one always.
abbrev pub RecordAgreementLaw : Asked → (List ℕ → List ℕ) → Type 0
RecordAgreementLaw asked H = (index n : ℕ) (path : List (List ℕ)) (value : List ℕ) (other_path : List (List ℕ)) (other : List ℕ)
    → OnTrue asked.hashes (AreHashes path) → AreHashes other_path → OnTrue asked.meeting (IsRecordAgreement H index n path value other_path other)
    → OnTrue asked.untruth (value ≡ other → ⊥) → SomeCollision H (IsRecordAgreementPlaced H index n (path, value) (other_path, other))

-- Of a consistency path's claim.
abbrev pub TreeLaw : Asked → (List ℕ → List ℕ) → Type 0
TreeLaw asked H = (path old new : List (List ℕ)) → Collide asked H (IsTreeMet H path old new) (Begins old new) (IsTreePlaced H path old new)

-- Of two values of one key.
abbrev pub KeyAgreementLaw : Asked → (List ℕ → List ℕ) → Type 0
KeyAgreementLaw asked H = (key : List ℕ) (peers : List (Option (List ℕ))) (value : List ℕ) (other_peers : List (Option (List ℕ))) (other : List ℕ)
    → Collide asked H (IsKeyAgreement H key peers value other_peers other) (value ≡ other) (IsKeyAgreementPlaced H key (peers, value) (other_peers, other))

-- Of a key's claim.
abbrev pub KeyLaw : Asked → (List ℕ → List ℕ) → Type 0
KeyLaw asked H = (peers : List (Option (List ℕ))) (key value : List ℕ) (insertions : Insertions)
    → Collide asked H (IsKeyMet H peers key value insertions) (IsLastValue key value insertions) (IsKeyPlaced H peers value key insertions)

-- Of an absence's claim.
abbrev pub AbsenceLaw : Asked → (List ℕ → List ℕ) → Type 0
AbsenceLaw asked H = (peers : List (Option (List ℕ))) (key : List ℕ) (insertions : Insertions)
    → Collide asked H (IsAbsenceMet H peers key insertions) (IsLastValue key [] insertions) (IsKeyPlaced H peers [] key insertions)

-- Of an update's claim.
abbrev pub UpdateLaw : Asked → (List ℕ → List ℕ) → Type 0
UpdateLaw asked H = (peers : List (Option (List ℕ))) (key old_value new_value : List ℕ) (insertions : Insertions)
    → Collide asked H (IsKeyMet H peers key old_value insertions) (IsUpdated H peers key new_value insertions) (IsPlacedAtPrefix H peers old_value key insertions)

-- Of two maps of one root.
abbrev pub EqualMapsLaw : Asked → (List ℕ → List ℕ) → Type 0
EqualMapsLaw asked H = (insertions others : Insertions)
    → Collide asked H (sparse_root H 256 (map_of H insertions) ≡ sparse_root H 256 (map_of H others)) (HaveSameValues insertions others) (IsPlacedInMaps H insertions others)

-- Of steps from the empty map: they end at the root of what they insert, or collide.
abbrev pub StepsLaw : Asked → (List ℕ → List ℕ) → Type 0
StepsLaw asked H = (steps : List Step) (root : List ℕ) → OnTrue asked.hashes (GivesHashes H) → OnTrue asked.meeting (LeadThrough H (sparse_root H 256 empty) steps root)
    → (root ≡ sparse_root H 256 (map_of H (insertions_of steps))) ⊎ CollidesAtStep H steps

-- The law is false of some function.
abbrev pub Fails : ((List ℕ → List ℕ) → Type 0) → Type 0
Fails law = ¬ ((H : List ℕ → List ℕ) → law H)

-- The law is false of every function.
abbrev pub FailsEverywhere : ((List ℕ → List ℕ) → Type 0) → Type 0
FailsEverywhere law = (H : List ℕ → List ℕ) → ¬ law H

-- Without any one premise the law is false; of every function where the claim needn't be met, or needn't be untrue.
pub record NeedsEach (law : Asked → (List ℕ → List ℕ) → Type 0) : Type 0 where
  pub hashes : Fails (law but_hashes)
  pub meeting : FailsEverywhere (law untruth_alone)
  pub untruth : FailsEverywhere (law meeting_alone)

-- The same of a map's law. Where the claim needn't be met it is false of a function to 32 bytes: it isn't of one for which
-- all byte strings collide.
pub record MapNeedsEach (law : Asked → (List ℕ → List ℕ) → Type 0) : Type 0 where
  pub hashes : Fails (law but_hashes)
  pub meeting : Fails (law but_meeting)
  pub untruth : FailsEverywhere (law meeting_alone)
