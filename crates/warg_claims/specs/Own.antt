-- What a log or a map gives as evidence of what it has.
use Rattle.std.specs.Prelude.{◌≡◌, ℕ, ◌<◌, List, [], ◌∷◌, ◌++◌, length, Option, Some, None}
use Rattle.warg_log.specs.Claims.{leaf_claim}
use Rattle.warg_log.specs.Cut.{old_over}
use Rattle.warg_log.specs.Tree.{leaves_of, own_digest}
use Rattle.warg_paths.specs.Paths.{inclusion_of, consistency_of}
use Rattle.warg_paths.specs.Pieces.{hashes_of}
use Rattle.warg_map.specs.Bits.{key_bits}
use Rattle.warg_map.specs.Last.{last_under}
use Rattle.warg_map.specs.Sparse.{map_of}
use Rattle.warg_bundle.specs.Bundling.{SpellsBundle}
use Rattle.warg_bundle.specs.Served.{SpellsKey}
use Rattle.warg_check.specs.Claims.{Claim, Evidence}
use Rattle.warg_claims.specs.Worlds.{World, IsTrueOf}
use Rattle.warg_check.specs.Claims.Claim.{entry_at, growth, value_under, nothing_under, update, insertion}
use Rattle.warg_check.specs.Claims.Evidence.{by_bundle, by_path}

-- The world has what the claim says, as logs and maps keep it: the old log isn't empty, and of the insertions under the
-- key's digest the last is of this key and value, or there is none; the new map has just one insertion more.
abbrev pub Has : (List ℕ → List ℕ) → (claim : Claim) → World claim → Type 0
Has H (entry_at index value log) entries = IsTrueOf (entry_at index value log) entries
Has H (growth old new) entries = (0 < length entries.0) × IsTrueOf (growth old new) entries
Has H (value_under key value root) insertions = last_under H (key_bits H key) insertions ≡ Some (key, value)
Has H (nothing_under key root) insertions = last_under H (key_bits H key) insertions ≡ None
Has H (update key old_value new_value old_root new_root) maps = (last_under H (key_bits H key) maps.0 ≡ Some (key, old_value)) × (maps.1 ≡ maps.0 ++ (key, new_value) ∷ [])
Has H (insertion key value old_root new_root) maps = (last_under H (key_bits H key) maps.0 ≡ None) × (maps.1 ≡ maps.0 ++ (key, value) ∷ [])

-- The bytes of the bundle that the log of the entries, or the map of the insertions, gives for the claim: as
-- `inclusion_bytes`, `growth_bytes` and `key_bytes` of `warg_bundle` say.
abbrev pub GivesBundle : (List ℕ → List ℕ) → (claim : Claim) → World claim → List ℕ → Type 0
GivesBundle H (entry_at index value log) entries bytes = SpellsBundle (own_digest H (leaves_of H entries)) [] (leaf_claim index (length entries) ∷ []) bytes
GivesBundle H (growth old new) entries bytes = SpellsBundle (own_digest H (leaves_of H entries.1)) (record { old_length = length entries.0; new_length = length entries.1 } ∷ []) [] bytes
GivesBundle H (value_under key value root) insertions bytes = SpellsKey H (map_of H insertions) (key_bits H key) bytes
GivesBundle H (nothing_under key root) insertions bytes = SpellsKey H (map_of H insertions) (key_bits H key) bytes
GivesBundle H (update key old_value new_value old_root new_root) maps bytes = SpellsKey H (map_of H maps.0) (key_bits H key) bytes
GivesBundle H (insertion key value old_root new_root) maps bytes = SpellsKey H (map_of H maps.0) (key_bits H key) bytes

-- The path that the log gives, as `inclusion_path` and `consistency_path` of `warg_paths` say. A map gives none.
abbrev pub GivesPath : (List ℕ → List ℕ) → (claim : Claim) → World claim → Option (List (List ℕ)) → Type 0
GivesPath H (entry_at index value log) entries digests = digests ≡ inclusion_of (old_over H (own_digest H (leaves_of H entries))) index (length entries)
GivesPath H (growth old new) entries digests = digests ≡ consistency_of (old_over H (own_digest H (leaves_of H entries.1))) (length entries.0) (length entries.1)
GivesPath H _ world digests = ⊥

-- The evidence is the world's own.
abbrev pub IsOwn : (List ℕ → List ℕ) → (claim : Claim) → Evidence → World claim → Type 0
IsOwn H claim (by_bundle bytes place) world = (place ≡ 0) × GivesBundle H claim world bytes
IsOwn H claim (by_path bytes) world = GivesPath H claim world (hashes_of bytes)
