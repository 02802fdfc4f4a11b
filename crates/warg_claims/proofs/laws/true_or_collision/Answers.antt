use Rattle.std.proofs.Common.{◌≡◌, ℕ, ◌*◌, true, List, [], length, Ok, refl, sym, ap, subst, ◌∙◌}
use Rattle.warg_crypto.specs.Collisions.{GivesHashes, SomeCollision}
use Rattle.warg_crypto.specs.Tree.{leaf_digest}
use Rattle.warg_protobuf.specs.MapProofBundle.{MapBundle}
use Rattle.warg_log.specs.Claims.{leaf_claim}
use Rattle.warg_log.specs.Inclusion.{inclusion}
use Rattle.warg_log.specs.Sparse.{held_digest}
use Rattle.warg_log.specs.Tree.{leaves_of, root_of}
use Rattle.warg_paths.specs.Paths.{inclusion_root, consistency_roots}
use Rattle.warg_paths.specs.Pieces.{hashes_of}
use Rattle.warg_witness.specs.Placed.{IsValuePlaced, IsConsistencyPlaced}
use Rattle.warg_witness.specs.MapPlaced.{IsKeyPlaced}
use Rattle.warg_check.specs.Claims.{Claim, Evidence, verdict, shows}
use Rattle.warg_check.specs.Claims.Claim.{entry_at, growth, value_under, nothing_under, update, insertion}
use Rattle.warg_check.specs.Claims.Evidence.{by_bundle, by_path}
use Rattle.warg_claims.specs.Worlds.{World, HasRoots, IsTrueOf}
use Rattle.warg_witness.specs.ChangeClaims.{IsUpdatePlaced}
use Rattle.warg_claims.specs.Placed.{IsPlaced, digests_in, path_in}
use Rattle.warg_claims.proofs.SoundLemmas.{is_held, is_recorded, found_peers, empty_leaf, changed, judged_true, found_is, both_are}
use Rattle.warg_claims.proofs.laws.true_or_collision.Goals as goal

abbrev Sound : (List ℕ → List ℕ) → (claim : Claim) → Evidence → Type 0
Sound H claim evidence = (world : World claim) → GivesHashes H → verdict H claim evidence ≡ Ok true
    → HasRoots H claim world → ¬ IsTrueOf claim world → SomeCollision H (IsPlaced H claim evidence world)

pub returns : goal.returns
returns c = λ H claim evidence. elim claim as (λ claim. Sound H claim evidence) [
  | entry_at index value log ↦ elim evidence as (λ evidence. Sound H (entry_at index value log) evidence) [
    | by_bundle bytes place ↦ λ entries gives passed roots untrue.
        let shown = c.entry_is_shown.ensures H bytes place index value log.length log.root passed in
        let F = held_digest shown.bundle.hashes in
        let leads = subst (λ n. inclusion H F (leaf_claim index n) (leaf_digest H value)
        ≡ Ok (root_of H (leaves_of H entries))) roots.length (shown.is ∙ ap Ok roots.root) in
        subst (λ F. SomeCollision H (IsValuePlaced H F value (2 * index) entries)) (sym (ap digests_in shown.spelled))
        (c.value_or_collision.ensures H F (leaf_claim index (length entries)) value entries gives
        (record { count = refl; is = leads }) (λ at. untrue (is_held H F index value _ entries _ leads at)))
    | by_path bytes ↦ λ entries gives passed roots untrue.
        let judged = judged_true (shows H (entry_at index value log)) (hashes_of bytes) passed in
        let digests = path_in (hashes_of bytes) in
        let leads = found_is log.root (inclusion_root H index log.length (leaf_digest H value) digests) judged.1 in
        let met = rw (roots.length, roots.root) at leads in
        c.record_or_collision.ensures H index digests value entries gives met
        (λ at. untrue (is_recorded H index value _ entries _ digests met at))
  ]
  | growth old new ↦ elim evidence as (λ evidence. Sound H (growth old new) evidence) [
    | by_bundle bytes place ↦ λ entries gives passed roots untrue.
        let shown = c.growth_is_shown.ensures H bytes place old.length old.root new.length new.root passed in
        subst (λ F. SomeCollision H (IsConsistencyPlaced H F entries.0 entries.1)) (sym (ap digests_in shown.spelled))
        (c.consistency_or_collision.ensures H _ old.length new.length entries.0 entries.1 gives
        (record {
          old_count = sym roots.0.length;
          new_count = sym roots.1.length;
          roots = rw (← roots.0.root, ← roots.1.root) shown.roots;
        }) untrue)
    | by_path bytes ↦ λ entries gives passed roots untrue.
        let judged = judged_true (shows H (growth old new)) (hashes_of bytes) passed in
        let digests = path_in (hashes_of bytes) in
        let leads = both_are old.root new.root (consistency_roots H old.length new.length old.root digests) judged.1 in
        c.tree_or_collision.ensures H digests entries.0 entries.1 gives
        (rw (roots.0.length, roots.1.length, roots.0.root, roots.1.root) at leads) untrue
  ]
  | value_under key value root ↦ elim evidence as (λ evidence. Sound H (value_under key value root) evidence) [
    | by_bundle bytes place ↦ λ insertions gives passed roots untrue.
        let shown = c.key_is_shown.ensures H bytes place key value root passed in
        subst (λ peers. SomeCollision H (IsKeyPlaced H peers value key insertions))
        (found_peers (λ (b : MapBundle). b.proofs) place shown.spelled shown.stands)
        (c.key_or_collision.ensures H shown.peers key value insertions gives (shown.is ∙ roots) untrue)
    | by_path bytes ↦ λ insertions gives passed roots untrue. absurd
        ((let wrong = (judged_true (shows H (value_under key value root)) (hashes_of bytes) passed).1 in cc))
  ]
  | nothing_under key root ↦ elim evidence as (λ evidence. Sound H (nothing_under key root) evidence) [
    | by_bundle bytes place ↦ λ insertions gives passed roots untrue.
        let shown = c.absence_is_shown.ensures H bytes place key root passed in
        subst (λ peers. SomeCollision H (IsKeyPlaced H peers [] key insertions))
        (found_peers (λ (b : MapBundle). b.absences) place shown.spelled shown.stands)
        (c.absence_or_collision.ensures H shown.peers key insertions gives (shown.is ∙ roots) untrue)
    | by_path bytes ↦ λ insertions gives passed roots untrue. absurd
        ((let wrong = (judged_true (shows H (nothing_under key root)) (hashes_of bytes) passed).1 in cc))
  ]
  | update key old_value new_value old_root new_root ↦
      elim evidence as (λ evidence. Sound H (update key old_value new_value old_root new_root) evidence) [
        | by_bundle bytes place ↦ λ maps gives passed roots untrue.
            let shown = c.update_is_shown.ensures H bytes place key old_value new_value old_root new_root passed in
            let met = shown.old_is ∙ roots.0 in
            subst (λ peers. SomeCollision H (IsUpdatePlaced H peers (old_value, new_value) key maps))
            (found_peers (λ (b : MapBundle). b.proofs) place shown.spelled shown.stands)
            (changed H shown.peers key old_value new_value new_root maps
            (c.key_or_collision.ensures H shown.peers key old_value maps.0 gives met)
            (c.update_or_collision.ensures H shown.peers key old_value new_value maps.0 gives met)
            (c.equal_maps_or_collision.ensures H _ maps.1 gives) shown.new_is roots.1 untrue)
        | by_path bytes ↦ λ maps gives passed roots untrue. absurd
            ((let wrong = (judged_true (shows H (update key old_value new_value old_root new_root))
            (hashes_of bytes) passed).1 in cc))
      ]
  | insertion key value old_root new_root ↦
      elim evidence as (λ evidence. Sound H (insertion key value old_root new_root) evidence) [
        | by_bundle bytes place ↦ λ maps gives passed roots untrue.
            let shown = c.insertion_is_shown.ensures H bytes place key value old_root new_root passed in
            let met = shown.old_is ∙ roots.0 in
            subst (λ peers. SomeCollision H (IsUpdatePlaced H peers ([], value) key maps))
            (found_peers (λ (b : MapBundle). b.absences) place shown.spelled shown.stands)
            (changed H shown.peers key [] value new_root maps
            (c.absence_or_collision.ensures H shown.peers key maps.0 gives met)
            (c.update_or_collision.ensures H shown.peers key [] value maps.0 gives (rw (empty_leaf H) at met))
            (c.equal_maps_or_collision.ensures H _ maps.1 gives) shown.new_is roots.1 untrue)
        | by_path bytes ↦ λ maps gives passed roots untrue. absurd
            ((let wrong = (judged_true (shows H (insertion key value old_root new_root)) (hashes_of bytes) passed).1 in cc))
      ]
]
