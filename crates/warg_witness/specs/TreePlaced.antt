-- Where the two byte lists of a collision stand that a consistency path shows, whose digests come topmost first.
use Rattle.std.specs.Prelude.{◌≡◌, ℕ, ◌<◌, ◌⊎◌, List, ◌∷◌, length, reverse, Option, Some}
use Rattle.warg_log.specs.Tree.{front_of, leaves_of, root_of}
use Rattle.warg_paths.specs.Ways.{IsOnGrowth, old_turn_input, new_turn_input}
use Rattle.warg_witness.specs.Inputs.{plain_input}
use Rattle.warg_witness.specs.Placed.{IsPlacedInBoth}

-- A turn on the way of a consistency path from the old entries to the new ones: a range that isn't all old, how many of its
-- leaves are, the root over these, where it is known, and the digests that are left.
pub record Turning (H : List ℕ → List ℕ) (path old new : List (List ℕ)) : Type 0 where
  pub known : Option (List ℕ)
  pub old_count : ℕ
  pub from : ℕ
  pub count : ℕ
  pub top : List ℕ
  pub below : List (List ℕ)
  pub on_way : IsOnGrowth (Some (root_of H (leaves_of H old))) (length old) (length new) (reverse path) known old_count from count (top ∷ below)
  pub more : old_count < count

-- For the old root: the evaluation's input (first) and the old plain input (second) at the old leaves of one range on
-- the way, which end in its rest.
pub record IsPlacedOnOldWay (H : List ℕ → List ℕ) (path old new : List (List ℕ)) (first second : List ℕ) : Type 0 where
  pub turn : Turning H path old new
  pub in_rest : front_of turn.count < turn.old_count
  pub evaluation : old_turn_input H turn.old_count turn.count turn.top turn.below ≡ Some first
  pub plain : second ≡ plain_input H old turn.from turn.old_count

-- For the new root: the evaluation's input (first) and the new plain input (second) at one range on the way.
pub record IsPlacedOnNewWay (H : List ℕ → List ℕ) (path old new : List (List ℕ)) (first second : List ℕ) : Type 0 where
  pub turn : Turning H path old new
  pub evaluation : new_turn_input H turn.known turn.old_count turn.count turn.top turn.below ≡ Some first
  pub plain : second ≡ plain_input H new turn.from turn.count

-- For a path from the old entries to the new ones: one of these two, or both plain inputs at one range of both trees.
abbrev pub IsTreePlaced : (List ℕ → List ℕ) → List (List ℕ) → List (List ℕ) → List (List ℕ) → List ℕ → List ℕ → Type 0
IsTreePlaced H path old new first second =
    IsPlacedOnOldWay H path old new first second ⊎ (IsPlacedOnNewWay H path old new first second ⊎ IsPlacedInBoth H old new first second)
