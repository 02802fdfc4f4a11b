-- What a map's proof claims of a step from one map to another, and where the two byte strings of a lie stand.
use Rattle.std.specs.Prelude.{ℕ, ◌⊎◌, List, [], ◌∷◌, ◌++◌, Option}
use Rattle.warg_witness.specs.MapClaims.{IsKeyMet, IsLastValue}
use Rattle.warg_witness.specs.MapPlaced.{IsKeyPlaced}
use Rattle.warg_witness.specs.MapsPlaced.{Insertions, HaveSameValues, IsPlacedInMaps}

-- The claim is met: from the old value the proof leads to the root of the old map, and from the new value to that of the
-- new one.
pub record IsChangeMet (H : List ℕ → List ℕ) (peers : List (Option (List ℕ))) (key old_value new_value : List ℕ) (old new : Insertions) : Type 0 where
  pub before : IsKeyMet H peers key old_value old
  pub after : IsKeyMet H peers key new_value new

-- The key has the old value, and the new map the values of the old one after one more insertion: of this key, with the
-- new value.
pub record IsUpdate (key old_value new_value : List ℕ) (old new : Insertions) : Type 0 where
  pub before : IsLastValue key old_value old
  pub after : HaveSameValues (old ++ (key, new_value) ∷ []) new

-- Where those of the old value stand, the first of two, or in the old map with the new value, the second, and the new map.
abbrev pub IsUpdatePlaced : (List ℕ → List ℕ) → List (Option (List ℕ)) → List ℕ × List ℕ → List ℕ → Insertions × Insertions → List ℕ → List ℕ → Type 0
IsUpdatePlaced H peers values key maps first second =
    IsKeyPlaced H peers values.0 key maps.0 first second ⊎ IsPlacedInMaps H (maps.0 ++ (key, values.1) ∷ []) maps.1 first second
