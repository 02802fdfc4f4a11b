-- What claims are about, and when they are true of it.
use Rattle.std.specs.Prelude.{◌≡◌, ℕ, List, [], length, Some, slice_get}
use Rattle.warg_log.specs.Claims.{RootAndLength}
use Rattle.warg_log.specs.Tree.{leaves_of, root_of}
use Rattle.warg_map.specs.Sparse.{sparse_root, map_of}
use Rattle.warg_witness.specs.Claims.{Begins}
use Rattle.warg_witness.specs.MapClaims.{IsLastValue}
use Rattle.warg_witness.specs.MapsPlaced.{Insertions}
use Rattle.warg_witness.specs.ChangeClaims.{IsUpdate}
use Rattle.warg_check.specs.Claims.{Claim}
use Rattle.warg_check.specs.Claims.Claim.{entry_at, growth, value_under, nothing_under, update, insertion}

-- What a claim is about: the log's entries; the old log's and the new one's; the insertions into the map; those into the
-- old map and into the new one.
abbrev pub World : Claim → Type 0
World (entry_at index value log) = List (List ℕ)
World (growth old new) = List (List ℕ) × List (List ℕ)
World (value_under key value root) = Insertions
World (nothing_under key root) = Insertions
World (update key old_value new_value old_root new_root) = Insertions × Insertions
World (insertion key value old_root new_root) = Insertions × Insertions

-- The log of these entries has this root and length (RFC 6962, section 2.1).
pub record IsLogOf (H : List ℕ → List ℕ) (log : RootAndLength) (entries : List (List ℕ)) : Type 0 where
  pub root : log.root ≡ root_of H (leaves_of H entries)
  pub length : log.length ≡ length entries

-- The sparse tree over these insertions has this root.
abbrev pub IsMapOf : (List ℕ → List ℕ) → List ℕ → Insertions → Type 0
IsMapOf H root insertions = root ≡ sparse_root H 256 (map_of H insertions)

-- The world has the roots that the claim speaks of.
abbrev pub HasRoots : (List ℕ → List ℕ) → (claim : Claim) → World claim → Type 0
HasRoots H (entry_at index value log) entries = IsLogOf H log entries
HasRoots H (growth old new) entries = IsLogOf H old entries.0 × IsLogOf H new entries.1
HasRoots H (value_under key value root) insertions = IsMapOf H root insertions
HasRoots H (nothing_under key root) insertions = IsMapOf H root insertions
HasRoots H (update key old_value new_value old_root new_root) maps = IsMapOf H old_root maps.0 × IsMapOf H new_root maps.1
HasRoots H (insertion key value old_root new_root) maps = IsMapOf H old_root maps.0 × IsMapOf H new_root maps.1

-- The claim is true: that entry has these bytes; the new entries begin with the old ones; the key's last value is this
-- one, or has no bytes; nothing but this was inserted.
abbrev pub IsTrueOf : (claim : Claim) → World claim → Type 0
IsTrueOf (entry_at index value log) entries = slice_get entries index ≡ Some value
IsTrueOf (growth old new) entries = Begins entries.0 entries.1
IsTrueOf (value_under key value root) insertions = IsLastValue key value insertions
IsTrueOf (nothing_under key root) insertions = IsLastValue key [] insertions
IsTrueOf (update key old_value new_value old_root new_root) maps = IsUpdate key old_value new_value maps.0 maps.1
IsTrueOf (insertion key value old_root new_root) maps = IsUpdate key [] value maps.0 maps.1
