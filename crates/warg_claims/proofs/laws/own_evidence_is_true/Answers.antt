use Rattle.std.proofs.Common.{◌≡◌, ℕ, ◌≤◌, true, List, [], ◌∷◌, ◌++◌, length, take, get_or, Some, None, Ok, sym, ap, ◌∙◌, arith, length-take, unwrap_or}
use Rattle.std.specs.FinMap.{get, empty, insert}
use Rattle.std.specs.Option.{option_map}
use Rattle.std.proofs.lemmas.Option.{slice_get_within, get_or_from_slice_get}
use Rattle.std.proofs.lemmas.List.{take-map, get_or-map, length-map}
use Rattle.std.proofs.Math.Seq.{take-length}
use Rattle.warg_crypto.specs.EmptyTrees.{empty_root}
use Rattle.warg_crypto.specs.Tree.{leaf_digest}
use Rattle.warg_log.specs.Claims.{InclusionClaim, ConsistencyClaim, leaf_claim}
use Rattle.warg_log.specs.Tree.{leaves_of, root_of, own_digest}
use Rattle.warg_map.specs.Bits.{key_bits}
use Rattle.warg_map.specs.Sparse.{sparse_root, map_of}
use Rattle.warg_map.proofs.ForCallers.{all_bits}
use Rattle.warg_witness.specs.Claims.{Begins}
use Rattle.warg_witness.proofs.ForCallers.{inserted_push}
use Rattle.warg_check.specs.Verdicts.{leads}
use Rattle.warg_check.specs.UpdateVerdicts.{leads_both}
use Rattle.warg_witness.specs.MapsPlaced.{Insertions}
use Rattle.warg_check.specs.Claims.{Claim, Evidence, verdict}
use Rattle.warg_claims.specs.Worlds.{World, HasRoots, IsMapOf}
use Rattle.warg_check.specs.Claims.Claim.{entry_at, growth, value_under, nothing_under, update, insertion}
use Rattle.warg_check.specs.Claims.Evidence.{by_bundle, by_path}
use Rattle.warg_claims.specs.Own.{Has, IsOwn}
use Rattle.warg_claims.proofs.OwnLemmas.{same, both, entry_by_path, growth_by_path, entry_by_bundle, growth_by_bundle, key_by_bundle, absence_by_bundle}
use Rattle.warg_claims.proofs.laws.own_evidence_is_true.Goals as goal

-- the leaves of the first entries, and of all
first_leaves : (H : List ℕ → List ℕ) (old new : List (List ℕ)) → old ≡ take (length old) new
    → take (length old) (leaves_of H new) ≡ leaves_of H old
first_leaves H old new begins = take-map (leaf_digest H) (length old) new ∙ ap (leaves_of H) (sym begins)

all_leaves : (H : List ℕ → List ℕ) (entries : List (List ℕ)) → take (length entries) (leaves_of H entries)
    ≡ leaves_of H entries
all_leaves H entries = first_leaves H entries entries (sym (take-length entries))

leaves_count : (H : List ℕ → List ℕ) (entries : List (List ℕ)) → length (leaves_of H entries) ≡ length entries
leaves_count H entries = length-map entries (leaf_digest H)

order : (old new : List (List ℕ)) → Begins old new → length old ≤ length new
order old new begins = omega (arith, length-take (length old) new, ap length begins)

-- the root of the map with one insertion more
more : (H : List ℕ → List ℕ) (old new : Insertions) (key value root : List ℕ) → new ≡ old ++ (key, value) ∷ []
    → IsMapOf H root new → sparse_root H 256 (insert (map_of H old) (key_bits H key) (leaf_digest H value)) ≡ root
more H old new key value root grown is = ap (sparse_root H 256) (sym (inserted_push H empty old key value))
    ∙ ap (λ es. sparse_root H 256 (map_of H es)) (sym grown) ∙ sym is

abbrev Complete : (List ℕ → List ℕ) → (claim : Claim) → Evidence → Type 0
Complete H claim evidence = (world : World claim) → HasRoots H claim world → Has H claim world
    → IsOwn H claim evidence world → verdict H claim evidence ≡ Ok true

pub returns : goal.returns
returns c = λ H claim evidence. elim claim as (λ claim. Complete H claim evidence) [
  | entry_at index value log ↦ elim evidence as (λ evidence. Complete H (entry_at index value log) evidence) [
    | by_bundle bytes place ↦ λ entries roots has own.
        let within = slice_get_within entries index value has in
        let spells = own.1 in
        let is = c.own_inclusion.ensures H entries index (length entries) within (omega arith) in
        let F = own_digest H (leaves_of H entries) in
        let proofs : List InclusionClaim = leaf_claim index (length entries) ∷ [] in
        let nodes = c.bundled_parts.ensures.nodes F [] proofs spells.bundle spells.is in
        let lengths = c.bundled_parts.ensures.log_lengths F [] proofs spells.bundle spells.is in
        let as_source = c.bundled_as_source.ensures.inclusions H F [] proofs spells.bundle spells.is in
        rw (own.0, roots.length, roots.root)
        (entry_by_bundle H F index value (length entries) (root_of H (leaves_of H entries)) bytes spells.bundle
        spells.spells nodes lengths.0 as_source
        (rw (take-length entries, get_or_from_slice_get entries index value [] has) at is))
    | by_path bytes ↦ λ entries roots has own.
        let within = slice_get_within entries index value has in
        let leaf : get_or (leaves_of H entries) index [] ≡ leaf_digest H value =
        get_or-map (leaf_digest H) entries index [] [] within
        ∙ ap (leaf_digest H) (get_or_from_slice_get entries index value [] has) in
        let is = c.own_inclusion_path.ensures H (leaves_of H entries) index (length entries) within
        (omega (arith, leaves_count H entries)) in
        rw (own, roots.length, roots.root)
        (entry_by_path H index (length entries) _ _ _ (rw (leaf, all_leaves H entries) at is))
  ]
  | growth old new ↦ elim evidence as (λ evidence. Complete H (growth old new) evidence) [
    | by_bundle bytes place ↦ λ entries roots has own.
        let spells = own.1 in
        let m = length entries.0 in
        let n = length entries.1 in
        let ds = leaves_of H entries.1 in
        let F = own_digest H ds in
        let proofs : List ConsistencyClaim = record { old_length = m; new_length = n } ∷ [] in
        let olds = c.bundled_parts.ensures.old_lengths F proofs [] spells.bundle spells.is in
        let lengths = c.bundled_parts.ensures.new_lengths F proofs [] spells.bundle spells.is in
        let as_source = c.bundled_as_source.ensures.consistencies H F proofs [] spells.bundle spells.is in
        let is = c.own_consistency.ensures H ds m n has.0 (order entries.0 entries.1 has.1)
        (omega (arith, leaves_count H entries.1)) in
        rw (own.0, roots.0.length, roots.0.root, roots.1.length, roots.1.root)
        (growth_by_bundle H F m n (root_of H (leaves_of H entries.0)) (root_of H ds) bytes spells.bundle spells.spells
        olds lengths.0 as_source
        (rw (first_leaves H entries.0 entries.1 has.1, all_leaves H entries.1) at is))
    | by_path bytes ↦ λ entries roots has own.
        let m = length entries.0 in
        let n = length entries.1 in
        let ds = leaves_of H entries.1 in
        let is = c.own_consistency_path.ensures H ds m n has.0 (order entries.0 entries.1 has.1)
        (omega (arith, leaves_count H entries.1)) in
        rw (own, roots.0.length, roots.0.root, roots.1.length, roots.1.root)
        (growth_by_path H m n (root_of H (leaves_of H entries.0)) (root_of H ds) _
        (rw (first_leaves H entries.0 entries.1 has.1, all_leaves H entries.1) at is))
  ]
  | value_under key value root ↦ elim evidence as (λ evidence. Complete H (value_under key value root) evidence) [
    | by_bundle bytes place ↦ λ insertions roots has own.
        let m = map_of H insertions in
        let bits = key_bits H key in
        let x = leaf_digest H value in
        let is : get m bits ≡ Some x = c.last_held.ensures H bits insertions
        ∙ ap (option_map (λ e. leaf_digest H e.1)) has in
        rw own.0 (key_by_bundle H m bits bytes x (leads H x key root) own.1 is
        (λ peers proves. same _ root ((c.own_proof.ensures H m bits peers x (all_bits H key) proves).0 is
        ∙ sym roots)))
    | by_path bytes ↦ λ insertions roots has own. absurd own
  ]
  | nothing_under key root ↦ elim evidence as (λ evidence. Complete H (nothing_under key root) evidence) [
    | by_bundle bytes place ↦ λ insertions roots has own.
        let m = map_of H insertions in
        let bits = key_bits H key in
        let is : get m bits ≡ None = c.last_held.ensures H bits insertions
        ∙ ap (option_map (λ e. leaf_digest H e.1)) has in
        rw own.0 (absence_by_bundle H m bits bytes (leads H (empty_root H 0) key root) own.1 is
        (λ peers proves. same _ root ((c.own_absence.ensures H m bits peers (empty_root H 0) (all_bits H key) proves).0
        (ap (λ o. unwrap_or o (empty_root H 0)) is) ∙ sym roots)))
    | by_path bytes ↦ λ insertions roots has own. absurd own
  ]
  | update key old_value new_value old_root new_root ↦
      elim evidence as (λ evidence. Complete H (update key old_value new_value old_root new_root) evidence) [
        | by_bundle bytes place ↦ λ maps roots has own.
            let m = map_of H maps.0 in
            let bits = key_bits H key in
            let x = leaf_digest H old_value in
            let y = leaf_digest H new_value in
            let is : get m bits ≡ Some x = c.last_held.ensures H bits maps.0
            ∙ ap (option_map (λ e. leaf_digest H e.1)) has.0 in
            rw own.0 (key_by_bundle H m bits bytes x (leads_both H key x y old_root new_root) own.1 is
            (λ peers proves. both (same _ old_root ((c.own_proof.ensures H m bits peers x (all_bits H key) proves).0 is
            ∙ sym roots.0))
            (same _ new_root ((c.own_proof.ensures H m bits peers y (all_bits H key) proves).1
            ∙ more H maps.0 maps.1 key new_value new_root has.1 roots.1))))
        | by_path bytes ↦ λ insertions roots has own. absurd own
      ]
  | insertion key value old_root new_root ↦
      elim evidence as (λ evidence. Complete H (insertion key value old_root new_root) evidence) [
        | by_bundle bytes place ↦ λ maps roots has own.
            let m = map_of H maps.0 in
            let bits = key_bits H key in
            let y = leaf_digest H value in
            let is : get m bits ≡ None = c.last_held.ensures H bits maps.0
            ∙ ap (option_map (λ e. leaf_digest H e.1)) has.0 in
            rw own.0 (absence_by_bundle H m bits bytes (leads_both H key (empty_root H 0) y old_root new_root) own.1 is
            (λ peers proves. both (same _ old_root
            ((c.own_absence.ensures H m bits peers (empty_root H 0) (all_bits H key) proves).0
            (ap (λ o. unwrap_or o (empty_root H 0)) is) ∙ sym roots.0))
            (same _ new_root ((c.own_absence.ensures H m bits peers y (all_bits H key) proves).1
            ∙ more H maps.0 maps.1 key value new_root has.1 roots.1))))
        | by_path bytes ↦ λ insertions roots has own. absurd own
      ]
]
