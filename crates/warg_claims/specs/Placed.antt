-- Where the two byte strings of a collision stand.
use Rattle.std.specs.Prelude.{ℕ, ◌*◌, List, [], Option, Some, None, Result, Ok, Err, slice_get, unwrap_or}
use Rattle.warg_protobuf.specs.MapProofBundle.{MapBundle}
use Rattle.warg_protobuf.specs.declared.value_error.DecodeError.{DecodeError}
use Rattle.warg_log.specs.Sparse.{held_digest}
use Rattle.warg_map.specs.Messages.{Peers}
use Rattle.warg_bundle.specs.LogBundles.{Bundle, bundle_of}
use Rattle.warg_bundle.specs.MapBundles.{map_bundle_of}
use Rattle.warg_witness.specs.Placed.{IsValuePlaced, IsConsistencyPlaced}
use Rattle.warg_witness.specs.MapPlaced.{IsKeyPlaced}
use Rattle.warg_witness.specs.PathPlaced.{IsRecordPlaced}
use Rattle.warg_witness.specs.TreePlaced.{IsTreePlaced}
use Rattle.warg_paths.specs.Pieces.{hashes_of}
use Rattle.warg_witness.specs.ChangeClaims.{IsUpdatePlaced}
use Rattle.warg_check.specs.Claims.{Claim, Evidence}
use Rattle.warg_claims.specs.Worlds.{World}
use Rattle.warg_check.specs.Claims.Claim.{entry_at, growth, value_under, nothing_under, update, insertion}
use Rattle.warg_check.specs.Claims.Evidence.{by_bundle, by_path}

-- The digests of a log's bundle, by their nodes. Bytes that are no bundle have none.
abbrev pub digests_in : Result Bundle DecodeError → ℕ → Option (List ℕ)
digests_in (Ok bundle) = held_digest bundle.hashes
digests_in (Err e) = λ node. None

-- The peers of the proof at a place of a map's bundle, and none where there is none.
abbrev pub peers_in : (MapBundle → List Peers) → ℕ → Result MapBundle DecodeError → Peers
peers_in proofs place (Ok bundle) = unwrap_or (slice_get (proofs bundle) place) []
peers_in proofs place (Err e) = []

-- The digests of a path, and none of bytes that are no path.
abbrev pub path_in : Option (List (List ℕ)) → List (List ℕ)
path_in None = []
path_in (Some digests) = digests

-- With a bundle: the first is what the evaluation of its proof hashes at a range or prefix, the second what the tree over
-- the world hashes there. Or they are what two trees of the world hash at one place; or two keys.
abbrev pub IsPlacedByBundle : (List ℕ → List ℕ) → (claim : Claim) → List ℕ → ℕ → World claim → List ℕ → List ℕ → Type 0
IsPlacedByBundle H (entry_at index value log) bytes place entries = IsValuePlaced H (digests_in (bundle_of bytes)) value (2 * index) entries
IsPlacedByBundle H (growth old new) bytes place entries = IsConsistencyPlaced H (digests_in (bundle_of bytes)) entries.0 entries.1
IsPlacedByBundle H (value_under key value root) bytes place insertions = IsKeyPlaced H (peers_in (λ b. b.proofs) place (map_bundle_of bytes)) value key insertions
IsPlacedByBundle H (nothing_under key root) bytes place insertions = IsKeyPlaced H (peers_in (λ b. b.absences) place (map_bundle_of bytes)) [] key insertions
IsPlacedByBundle H (update key old_value new_value old_root new_root) bytes place maps = IsUpdatePlaced H (peers_in (λ b. b.proofs) place (map_bundle_of bytes)) (old_value, new_value) key maps
IsPlacedByBundle H (insertion key value old_root new_root) bytes place maps = IsUpdatePlaced H (peers_in (λ b. b.absences) place (map_bundle_of bytes)) ([], value) key maps

-- With a path: the same, of the path's evaluation. Nothing stands anywhere of a claim about a map.
abbrev pub IsPlacedByPath : (List ℕ → List ℕ) → (claim : Claim) → List (List ℕ) → World claim → List ℕ → List ℕ → Type 0
IsPlacedByPath H (entry_at index value log) digests entries first second = IsRecordPlaced H index digests value entries first second
IsPlacedByPath H (growth old new) digests entries first second = IsTreePlaced H digests entries.0 entries.1 first second
IsPlacedByPath H _ digests world first second = ⊥

-- Where the two byte strings stand.
abbrev pub IsPlaced : (List ℕ → List ℕ) → (claim : Claim) → Evidence → World claim → List ℕ → List ℕ → Type 0
IsPlaced H claim (by_bundle bytes place) world = IsPlacedByBundle H claim bytes place world
IsPlaced H claim (by_path bytes) world = IsPlacedByPath H claim (path_in (hashes_of bytes)) world
