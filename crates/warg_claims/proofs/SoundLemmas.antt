-- What is true or collides.
use Rattle.std.proofs.Common.{◌≡◌, ℕ, ◌*◌, Bool, true, List, [], ◌∷◌, ◌++◌, length, Option, Some, None, Result, inl, inr, nat_eq, Ok, refl, sym, ap, ◌∙◌, arith, unwrap_or, mul-one, slice_index_or}
use Rattle.std.specs.Prelude.{slice_get}
use Rattle.std.specs.Cmp.Lexicographic.{pointwise, same_text}
use Rattle.std.proofs.lemmas.Option.{slice_get-get_or}
use Rattle.std.proofs.lemmas.Bool.{and_parts, cases_lt, le-ltb}
use Rattle.warg_crypto.specs.Collisions.{SomeCollision}
use Rattle.warg_crypto.specs.EmptyTrees.{empty_root}
use Rattle.warg_crypto.specs.Tree.{leaf_digest}
use Rattle.warg_crypto.proofs.ForCallers.{same_or_not}
use Rattle.warg_protobuf.specs.MapProofBundle.{MapBundle}
use Rattle.warg_protobuf.specs.declared.value_error.DecodeError.{DecodeError}
use Rattle.warg_log.specs.Claims.{leaf_claim}
use Rattle.warg_log.specs.Inclusion.{inclusion}
use Rattle.warg_log.proofs.ForCallers.{node_at, inclusion_leads}
use Rattle.warg_map.specs.Bits.{key_bits}
use Rattle.warg_map.specs.Messages.{Peers}
use Rattle.warg_map.specs.ProofValue.{proof_value}
use Rattle.warg_map.specs.Sparse.{sparse_root, map_of}
use Rattle.warg_paths.specs.Paths.{inclusion_root}
use Rattle.warg_witness.specs.Claims.{IsEntry}
use Rattle.warg_witness.specs.MapClaims.{IsLastValue, value_in, last_insertion}
use Rattle.warg_witness.specs.MapPlaced.{IsKeyPlaced, IsPlacedAtPrefix}
use Rattle.warg_witness.specs.MapsPlaced.{Insertions, HaveSameValues, IsPlacedInMaps}
use Rattle.warg_witness.specs.UpdateClaims.{IsUpdated}
use Rattle.warg_check.specs.PathVerdicts.{is_found, are_both, judged_path}
use Rattle.warg_witness.specs.ChangeClaims.{IsUpdate, IsUpdatePlaced}
use Rattle.warg_claims.specs.Worlds.{IsMapOf}
use Rattle.warg_claims.specs.Placed.{peers_in, path_in}

-- the entry at a leaf of which the proof exists
pub is_held : (H : List ℕ → List ℕ) (F : ℕ → Option (List ℕ)) (index : ℕ) (value root : List ℕ)
    (entries : List (List ℕ)) (x : List ℕ) → inclusion H F (leaf_claim index (length entries)) x ≡ Ok root
    → IsEntry value (2 * index) entries → slice_get entries index ≡ Some value
is_held H F index value root entries x is at =
    let node = node_at (2 * index) 0 index (omega arith) in
    let within = ((inclusion_leads H F (leaf_claim index (length entries)) x root).0 is).0 in
    slice_get-get_or entries index [] (omega (arith, rw (node.0, node.1) at within))
    ∙ ap Some (rw (node.0, node.1, mul-one) at at.same)

-- the entry at the place of a path that leads to a root
pub is_recorded : (H : List ℕ → List ℕ) (index : ℕ) (value root : List ℕ) (entries : List (List ℕ)) (x : List ℕ)
    (path : List (List ℕ)) → inclusion_root H index (length entries) x path ≡ Some root
    → slice_index_or entries index [] ≡ value → slice_get entries index ≡ Some value
is_recorded H index value root entries x path leads same = elim (cases_lt index (length entries)) [
  | inl inside ↦ slice_get-get_or entries index [] inside ∙ ap Some same
  | inr outside ↦ let none : None ≡ Some root = rw (le-ltb index (length entries) outside) at leads in absurd cc
]

-- the peers at a place of a bundle that was read
pub found_peers : (proofs : MapBundle → List Peers) (place : ℕ) {read : Result MapBundle DecodeError}
    {bundle : MapBundle} {peers : Peers} → read ≡ Ok bundle → slice_get (proofs bundle) place ≡ Some peers
    → peers ≡ peers_in proofs place read
found_peers proofs place reads stands =
    sym (ap (peers_in proofs place) reads ∙ ap (λ o. unwrap_or o []) stands)

-- an empty leaf has the digest of a value without bytes
pub empty_leaf : (H : List ℕ → List ℕ) → empty_root H 0 ≡ leaf_digest H []
unfolding empty_root
empty_leaf H = refl

-- an update that isn't true, of the old value or of the new map
pub changed : (H : List ℕ → List ℕ) (peers : Peers) (key old_value new_value new_root : List ℕ)
    (maps : Insertions × Insertions)
    → (¬ IsLastValue key old_value maps.0 → SomeCollision H (IsKeyPlaced H peers old_value key maps.0))
    → (¬ IsUpdated H peers key new_value maps.0 → SomeCollision H (IsPlacedAtPrefix H peers old_value key maps.0))
    → (sparse_root H 256 (map_of H (maps.0 ++ (key, new_value) ∷ [])) ≡ sparse_root H 256 (map_of H maps.1)
    → ¬ HaveSameValues (maps.0 ++ (key, new_value) ∷ []) maps.1
    → SomeCollision H (IsPlacedInMaps H (maps.0 ++ (key, new_value) ∷ []) maps.1))
    → proof_value H peers (leaf_digest H new_value) (key_bits H key) ≡ new_root → IsMapOf H new_root maps.1
    → ¬ IsUpdate key old_value new_value maps.0 maps.1
    → SomeCollision H (IsUpdatePlaced H peers (old_value, new_value) key maps)
changed H peers key old_value new_value new_root maps by_key by_update by_maps new_is root untrue =
    elim (same_or_not (value_in (last_insertion key maps.0)) old_value) [
      | inr other ↦ let c = by_key other in
          record { first = c.first; second = c.second; collide = c.collide; placed = inl c.placed }
      | inl before ↦ elim (same_or_not (proof_value H peers (leaf_digest H new_value) (key_bits H key))
          (sparse_root H 256 (map_of H (maps.0 ++ (key, new_value) ∷ [])))) [
            | inr other ↦ let c = by_update other in
                record { first = c.first; second = c.second; collide = c.collide; placed = inl (inl c.placed) }
            | inl updated ↦
                let c = by_maps (sym updated ∙ new_is ∙ root) (λ after. untrue (record { before = before; after = after })) in
                record { first = c.first; second = c.second; collide = c.collide; placed = inr c.placed }
          ]
    ]

-- a path that shows a claim
pub judged_true : (holds : List (List ℕ) → Bool) (o : Option (List (List ℕ))) → judged_path holds o ≡ Ok true
    → (o ≡ Some (path_in o)) × (holds (path_in o) ≡ true)
judged_true holds None is = absurd cc
judged_true holds (Some digests) is = (refl, cc)

pub found_is : (root : List ℕ) (o : Option (List ℕ)) → is_found root o ≡ true → o ≡ Some root
found_is root None is = absurd cc
found_is root (Some found) is = ap Some (same_text found root (sym is))

pub both_are : (old new : List ℕ) (o : Option (List ℕ × List ℕ)) → are_both old new o ≡ true → o ≡ Some (old, new)
both_are old new None is = absurd cc
both_are old new (Some (first, second)) is =
    let both = and_parts (pointwise nat_eq first old) (pointwise nat_eq second new) is in
    rw (same_text first old (sym both.0), same_text second new (sym both.1)) refl
