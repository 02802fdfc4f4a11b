-- From what a witness finds to what a conviction finds.
use Rattle.warg_witness.specs.TreePlaced.{IsTreePlaced}
use Rattle.std.proofs.Common.{◌≡◌, ℕ, ◌*◌, ◌<◌, ◌==◌, ◌&&◌, Bool, true, nat_eq, List, [], length, Option, Some, None, Result, Ok, Err, refl, sym, ap, subst, ◌∙◌, arith, mul-one, get_or, ◌≤◌}
use Rattle.std.specs.Prelude.{slice_get, IfOk, ◌↔◌}
use Rattle.std.specs.Cmp.Lexicographic.{pointwise, same_text}
use Rattle.std.proofs.lemmas.Bool.{and_parts, eqb-true, eq-eqb}
use Rattle.std.proofs.lemmas.Option.{get_or_from_slice_get, slice_get_read, slice_get_past}
use Rattle.warg_crypto.specs.Tree.{leaf_digest}
use Rattle.warg_protobuf.specs.MapProofBundle.{MapBundle}
use Rattle.warg_protobuf.specs.declared.value_error.DecodeError.{DecodeError}
use Rattle.warg_log.specs.Claims.{InclusionClaim, RootAndLength, leaf_claim}
use Rattle.warg_log.specs.Inclusion.{inclusion}
use Rattle.warg_log.specs.Sparse.{held_digest}
use Rattle.warg_log.specs.declared.node.Node.{Node}
use Rattle.warg_log.specs.declared.proof.InclusionProofError.{InclusionProofError}
use Rattle.warg_log.proofs.ForCallers.{node_at, consistency_only, consistency_then}
use Rattle.warg_log.specs.Consistency.{consistency}
use Rattle.warg_log.specs.declared.consistency.ConsistencyProofError.{ConsistencyProofError}
use Rattle.warg_log.specs.Tree.{leaves_of, root_of}
use Rattle.warg_bundle.specs.LogBundles.{Bundle, bundle_of}
use Rattle.warg_bundle.specs.MapBundles.{map_bundle_of}
use Rattle.warg_crypto.specs.EmptyTrees.{empty_root}
use Rattle.warg_map.specs.Bits.{key_bits}
use Rattle.warg_map.specs.Messages.{Peers}
use Rattle.warg_map.specs.ProofValue.{proof_value}
use Rattle.warg_paths.specs.Paths.{inclusion_root, consistency_roots}
use Rattle.warg_paths.specs.Pieces.{hashes_of}
use Rattle.warg_witness.specs.declared.collision.Finding.{Finding}
use Rattle.warg_witness.specs.declared.collision.Finding.TheVariants.{Holds, NotMet, Collision}
use Rattle.warg_witness.specs.Findings.{Finds}
use Rattle.warg_witness.specs.Claims.{IsMet, IsEntry, IsConsistencyMet, Begins}
use Rattle.warg_witness.specs.MapClaims.{IsKeyMet, IsAbsenceMet, IsLastValue}
use Rattle.warg_witness.specs.MapPlaced.{IsKeyPlaced}
use Rattle.warg_witness.specs.MapsPlaced.{Insertions}
use Rattle.warg_witness.specs.ChangeClaims.{IsChangeMet, IsUpdate, IsUpdatePlaced}
use Rattle.warg_witness.specs.PathClaims.{IsRecord, IsRecordMet, IsTreeMet}
use Rattle.warg_witness.specs.PathPlaced.{IsRecordPlaced}
use Rattle.warg_witness.specs.Placed.{IsValuePlaced, IsConsistencyPlaced}
use Rattle.warg_check.specs.Verdicts.{judged, verdict_at, includes, is_root, extends, are_roots, leads, inclusion_verdict, consistency_verdict}
use Rattle.warg_check.specs.CheckpointVerdicts.{is_leaf_at, shows_entry, shows_growth, growth_verdict}
use Rattle.warg_check.specs.Claims.{verdict, shows}
use Rattle.warg_check.specs.Claims.Claim.{entry_at, growth, value_under, nothing_under, update, insertion}
use Rattle.warg_check.specs.UpdateVerdicts.{leads_both}
use Rattle.warg_check.specs.Claims.Evidence.{by_bundle, by_path}
use Rattle.warg_claims.specs.Convictions.{Convicts}
use Rattle.warg_claims.specs.Worlds.{IsLogOf}
use Rattle.warg_claims.proofs.SoundLemmas.{is_held, is_recorded, found_peers, judged_true, found_is, both_are, empty_leaf}

-- What is found of one claim is found of another, where they are met and true together.
pub transfer : {D A : _} {met met' claim claim' : Type 0} {placed placed' : List ℕ → List ℕ → Type 0}
    (finding : Finding D A) → (met → met') → (met' → met) → (met → claim → claim') → (met → claim' → claim)
    → ((first second : List ℕ) → placed first second → placed' first second) → Finds met claim placed finding
    → Finds met' claim' placed' finding
transfer NotMet to from holds back at found = λ m. found (from m)
transfer Holds to from holds back at found = (to found.0, holds found.0 found.1)
transfer (Collision c) to from holds back at found = (to found.0, λ is. found.1 (back found.0 is), at c.0 c.1 found.2)

-- What is so of a result that is there.
pub if_ok : {X E : Type 0} {P Q : X → Type 0} (r : Result X E) → ((x : X) → P x → Q x) → IfOk r P → IfOk r Q
if_ok (Ok x) then is = then x is
if_ok (Err e) then is = is

-- A verdict that was seen to be true is.
pub seen_true : {E : Type 0} {b : Bool} {of : Result Bool E} → (b ≡ true ↔ (of ≡ Ok true)) → b ≡ true → of ≡ Ok true
seen_true is seen = is.0 seen

-- A verdict on what stands at a place of a bundle that was read.
pub judged_there : {B P : Type 0} (proofs : B → List P) (holds : B → P → Bool) (at : ℕ) {read : Result B DecodeError}
    {b : B} {proof : P} → read ≡ Ok b → slice_get (proofs b) at ≡ Some proof → verdict_at proofs holds at read ≡ Ok true
    → holds b proof ≡ true
judged_there proofs holds at {b = b} {proof = proof} reads there is =
    let same : Ok (holds b proof) ≡ Ok true = sym (ap (judged (holds b)) there)
    ∙ sym (ap (verdict_at proofs holds at) reads) ∙ is in cc

pub at_place : {P : Type 0} {all taken : List P} {at : ℕ} {proof : P} → taken ≡ all → at < length taken
    → proof ≡ get_or taken at proof → slice_get all at ≡ Some proof
at_place {taken = taken} {at = at} {proof = proof} same within is =
    rw (← same) (slice_get_read taken (length taken) at proof refl within is)

pub past_place : {P : Type 0} {all taken : List P} {at : ℕ} → taken ≡ all → length taken ≤ at → slice_get all at ≡ None
past_place {taken = taken} {at = at} same past = rw (← same) (slice_get_past taken at past)

pub none_there : {B P : Type 0} (proofs : B → List P) (holds : B → P → Bool) (at : ℕ) {read : Result B DecodeError}
    {b : B} → read ≡ Ok b → slice_get (proofs b) at ≡ None → ¬ (verdict_at proofs holds at read ≡ Ok true)
none_there proofs holds at {b = b} reads none is = let wrong = sym (ap (judged (holds b)) none)
    ∙ sym (ap (verdict_at proofs holds at) reads) ∙ is in absurd cc

led_to : (root : List ℕ) (r : Result (List ℕ) InclusionProofError) → is_root root r ≡ true → r ≡ Ok root
led_to root (Ok found) is = ap Ok (same_text found root (sym is))
led_to root (Err e) is = absurd cc

-- A proof that shows an entry is of its leaf, at the log's length, and leads to its root.
entry_parts : (H : List ℕ → List ℕ) (index : ℕ) (value : List ℕ) (n : ℕ) (root : List ℕ) (b : Bundle) (node : Node)
    → shows_entry H index value n root b node ≡ true
    → (node.0 ≡ 2 * index) × (b.log_length ≡ n)
    × (inclusion H (held_digest b.hashes) (record { leaf = node; log_length = b.log_length }) (leaf_digest H value)
    ≡ Ok root)
entry_parts H index value n root b node is =
    let leaf = and_parts (is_leaf_at index node) (b.log_length == n && includes H value root b node) is in
    let rest = and_parts (b.log_length == n) (includes H value root b node) leaf.1 in
    (eqb-true node.0 (2 * index) leaf.0, eqb-true b.log_length n rest.0, led_to root _ rest.1)

-- The entry at an index is that at its leaf.
at_leaf : (index : ℕ) (value : List ℕ) (entries : List (List ℕ)) → slice_get entries index ≡ Some value
    → IsEntry value (2 * index) entries
at_leaf index value entries is =
    let node = node_at (2 * index) 0 index (omega arith) in
    record { leaf = node.0; same = rw (node.0, node.1, mul-one) (get_or_from_slice_get entries index value [] is) }

-- A proof's claim, by its leaf and its length.
leaf_claimed : (claim : InclusionClaim) (index n : ℕ) → claim.leaf.0 ≡ 2 * index → claim.log_length ≡ n
    → claim ≡ leaf_claim index n
leaf_claimed claim index n leaf length =
    ap (λ k. record { leaf = record { 0 = k }; log_length = claim.log_length }) leaf
    ∙ ap (λ k. record { leaf = record { 0 = 2 * index }; log_length = k }) length

pub entry_convicts : {D A : _} (H : List ℕ → List ℕ) (bytes : List ℕ) (place index : ℕ) (value : List ℕ)
    (log : RootAndLength) (entries : List (List ℕ)) (b : Bundle) (claim : InclusionClaim) (F : ℕ → Option (List ℕ))
    (finding : Finding D A)
    → bundle_of bytes ≡ Ok b → slice_get b.included_nodes place ≡ Some claim.leaf → claim.log_length ≡ b.log_length
    → F ≡ held_digest b.hashes → verdict H (entry_at index value log) (by_bundle bytes place) ≡ Ok true
    → Finds (IsMet H F claim (leaf_digest H value) entries) (IsEntry value claim.leaf.0 entries)
    (IsValuePlaced H F value claim.leaf.0 entries) finding
    → Convicts H (entry_at index value log) (by_bundle bytes place) entries finding
entry_convicts H bytes place index value log entries b claim F finding reads there same_length same_data shown found =
    let G = held_digest b.hashes in
    let parts = entry_parts H index value log.length log.root b claim.leaf (judged_there (λ (b : Bundle). b.included_nodes)
    (shows_entry H index value log.length log.root) place reads there shown) in
    let is_claim = leaf_claimed claim index log.length parts.0 (same_length ∙ parts.1) in
    let leads : inclusion H G (leaf_claim index log.length) (leaf_digest H value) ≡ Ok log.root =
    rw (parts.0, parts.1) at parts.2 in
    transfer finding
    (λ met. record {
      shown = shown;
      roots = record {
        root = (let is : Ok log.root ≡ Ok (root_of H (leaves_of H entries)) = sym leads ∙ met.is in cc);
        length = sym met.count;
      };
    })
    (λ is. record { count = sym is.roots.length; is = leads ∙ ap Ok is.roots.root })
    (λ met at. is_held H G index value _ entries _ (rw (← met.count) at met.is) at)
    (λ met at. at_leaf index value entries at)
    (λ first second at. rw reads at)
    (rw (same_data, is_claim) at found)

pub entry_path_convicts : {D A : _} (H : List ℕ → List ℕ) (bytes : List ℕ) (index : ℕ) (value : List ℕ)
    (log : RootAndLength) (entries digests : List (List ℕ)) (finding : Finding D A) → hashes_of bytes ≡ Some digests
    → length entries ≡ log.length
    → verdict H (entry_at index value log) (by_path bytes) ≡ Ok true
    → Finds (IsRecordMet H index digests value entries) (IsRecord index value entries)
    (IsRecordPlaced H index digests value entries) finding
    → Convicts H (entry_at index value log) (by_path bytes) entries finding
entry_path_convicts H bytes index value log entries digests finding reads count shown found =
    let judged = (judged_true (shows H (entry_at index value log)) (hashes_of bytes) shown).1 in
    let leads : inclusion_root H index (length entries) (leaf_digest H value) digests ≡ Some log.root =
    rw count (found_is log.root _ (rw reads at judged)) in
    transfer finding
    (λ met. record {
      shown = shown;
      roots = record {
        root = (let is : Some log.root ≡ Some (root_of H (leaves_of H entries)) = sym leads ∙ met in cc);
        length = sym count;
      };
    })
    (λ is. leads ∙ ap Some is.roots.root)
    (λ met same_entry. is_recorded H index value _ entries _ digests met same_entry)
    (λ met is. get_or_from_slice_get entries index value [] is)
    (λ first second at. rw reads at)
    found

both_led : (old new : List ℕ) (r : Result (List ℕ × List ℕ) ConsistencyProofError) → are_roots old new r ≡ true
    → r ≡ Ok (old, new)
both_led old new (Err e) is = absurd cc
both_led old new (Ok (first, second)) is =
    let both = and_parts (pointwise nat_eq first old) (pointwise nat_eq second new) is in
    rw (same_text first old (sym both.0), same_text second new (sym both.1)) refl

-- A proof that shows one log to begin another is between their lengths, and leads to their roots.
growth_parts : (H : List ℕ → List ℕ) (old new : RootAndLength) (b : Bundle) (m : ℕ)
    → shows_growth H old.length old.root new.length new.root b m ≡ true
    → (m ≡ old.length) × (b.log_length ≡ new.length)
    × (consistency H (held_digest b.hashes) m b.log_length ≡ Ok (old.root, new.root))
growth_parts H old new b m is =
    let first = and_parts (m == old.length) (b.log_length == new.length && extends H old.root new.root b m) is in
    let rest = and_parts (b.log_length == new.length) (extends H old.root new.root b m) first.1 in
    (eqb-true m old.length first.0, eqb-true b.log_length new.length rest.0, both_led old.root new.root _ rest.1)

pub growth_convicts : {D A : _} (H : List ℕ → List ℕ) (bytes : List ℕ) (place : ℕ) (old new : RootAndLength)
    (before after : List (List ℕ)) (b : Bundle) (m n : ℕ) (F : ℕ → Option (List ℕ)) (finding : Finding D A)
    → bundle_of bytes ≡ Ok b
    → slice_get b.consistent_lengths place ≡ Some m → n ≡ b.log_length → F ≡ held_digest b.hashes
    → verdict H (growth old new) (by_bundle bytes place) ≡ Ok true
    → Finds (IsConsistencyMet H F m n before after) (Begins before after) (IsConsistencyPlaced H F before after) finding
    → Convicts H (growth old new) (by_bundle bytes place) (before, after) finding
growth_convicts H bytes place old new before after b m n held finding reads there same_length same_data shown found =
    let F = held_digest b.hashes in
    let parts = growth_parts H old new b m (judged_there (λ (b : Bundle). b.consistent_lengths)
    (shows_growth H old.length old.root new.length new.root) place reads there shown) in
    let old_root = root_of H (leaves_of H before) in
    let new_root = root_of H (leaves_of H after) in
    transfer finding
    (λ met.
    let is : Ok (old.root, new.root) ≡ Ok (old_root, new_root) = sym parts.2
    ∙ consistency_then H F m b.log_length old_root new_root met.roots in
    let both : (old.root, new.root) ≡ (old_root, new_root) = cc in
    let old_is = ap (λ (roots : List ℕ × List ℕ). roots.0) both in
    let new_is = ap (λ (roots : List ℕ × List ℕ). roots.1) both in
    record {
      shown = shown;
      roots = (
        record { root = old_is; length = sym (met.old_count ∙ parts.0) },
        record { root = new_is; length = sym (met.new_count ∙ parts.1) },
      );
    })
    (λ is. record {
      old_count = sym (parts.0 ∙ is.roots.0.length);
      new_count = sym (parts.1 ∙ is.roots.1.length);
      roots = consistency_only H F m b.log_length old_root new_root (parts.2
          ∙ rw (is.roots.0.root, is.roots.1.root) refl);
    })
    (λ met is. is)
    (λ met is. is)
    (λ first second at. rw reads at)
    (rw (same_data, same_length) at found)

pub growth_path_convicts : {D A : _} (H : List ℕ → List ℕ) (bytes : List ℕ) (old new : RootAndLength)
    (before after digests : List (List ℕ)) (finding : Finding D A) → hashes_of bytes ≡ Some digests
    → length before ≡ old.length → length after ≡ new.length → old.root ≡ root_of H (leaves_of H before)
    → verdict H (growth old new) (by_path bytes) ≡ Ok true
    → Finds (IsTreeMet H digests before after) (Begins before after) (IsTreePlaced H digests before after) finding
    → Convicts H (growth old new) (by_path bytes) (before, after) finding
growth_path_convicts H bytes old new before after digests finding reads old_count new_count old_is shown found =
    let old_root = root_of H (leaves_of H before) in
    let new_root = root_of H (leaves_of H after) in
    let judged = (judged_true (shows H (growth old new)) (hashes_of bytes) shown).1 in
    let leads : consistency_roots H (length before) (length after) old_root digests ≡ Some (old.root, new.root) =
    rw (old_count, new_count, ← old_is) (both_are old.root new.root _ (rw reads at judged)) in
    transfer finding
    (λ met.
    let is : Some (old.root, new.root) ≡ Some (old_root, new_root) = sym leads ∙ met in
    let both : (old.root, new.root) ≡ (old_root, new_root) = cc in
    let new_is = ap (λ (roots : List ℕ × List ℕ). roots.1) both in
    record {
      shown = shown;
      roots = (record { root = old_is; length = sym old_count }, record { root = new_is; length = sym new_count });
    })
    (λ is. leads ∙ rw (is.roots.0.root, is.roots.1.root) refl)
    (λ met is. is)
    (λ met is. is)
    (λ first second at. rw reads at)
    found

-- Peers that lead from two leaf digests to two roots.
both_led_there : (H : List ℕ → List ℕ) (key old_leaf new_leaf old_root new_root : List ℕ) (peers : Peers)
    → leads_both H key old_leaf new_leaf old_root new_root peers ≡ true
    → (proof_value H peers old_leaf (key_bits H key) ≡ old_root)
    × (proof_value H peers new_leaf (key_bits H key) ≡ new_root)
both_led_there H key old_leaf new_leaf old_root new_root peers is =
    let both = and_parts (leads H old_leaf key old_root peers) (leads H new_leaf key new_root peers) is in
    (same_text _ old_root (sym both.0), same_text _ new_root (sym both.1))

pub key_convicts : {D A : _} (H : List ℕ → List ℕ) (bytes : List ℕ) (place : ℕ) (key value root : List ℕ)
    (insertions : Insertions) (b : MapBundle) (peers : Peers) (finding : Finding D A) → map_bundle_of bytes ≡ Ok b
    → slice_get b.proofs place ≡ Some peers → verdict H (value_under key value root) (by_bundle bytes place) ≡ Ok true
    → Finds (IsKeyMet H peers key value insertions) (IsLastValue key value insertions)
    (IsKeyPlaced H peers value key insertions) finding
    → Convicts H (value_under key value root) (by_bundle bytes place) insertions finding
key_convicts H bytes place key value root insertions b peers finding reads there shown found =
    let holds =
    judged_there (λ (b : MapBundle). b.proofs)
    (λ b. leads H (leaf_digest H value) key root) place reads there shown in
    let is : proof_value H peers (leaf_digest H value) (key_bits H key) ≡ root = same_text _ root (sym holds) in
    transfer finding
    (λ met. record { shown = shown; roots = sym is ∙ met })
    (λ both. is ∙ both.roots)
    (λ met last. last)
    (λ met last. last)
    (λ first second at. subst (λ ps. IsKeyPlaced H ps value key insertions first second)
    (found_peers (λ (b : MapBundle). b.proofs) place reads there) at)
    found

pub absence_convicts : {D A : _} (H : List ℕ → List ℕ) (bytes : List ℕ) (place : ℕ) (key root : List ℕ)
    (insertions : Insertions) (b : MapBundle) (peers : Peers) (finding : Finding D A) → map_bundle_of bytes ≡ Ok b
    → slice_get b.absences place ≡ Some peers → verdict H (nothing_under key root) (by_bundle bytes place) ≡ Ok true
    → Finds (IsAbsenceMet H peers key insertions) (IsLastValue key [] insertions)
    (IsKeyPlaced H peers [] key insertions) finding
    → Convicts H (nothing_under key root) (by_bundle bytes place) insertions finding
absence_convicts H bytes place key root insertions b peers finding reads there shown found =
    let holds =
    judged_there (λ (b : MapBundle). b.absences)
    (λ b. leads H (empty_root H 0) key root) place reads there shown in
    let is : proof_value H peers (empty_root H 0) (key_bits H key) ≡ root = same_text _ root (sym holds) in
    transfer finding
    (λ met. record { shown = shown; roots = sym is ∙ met })
    (λ both. is ∙ both.roots)
    (λ met last. last)
    (λ met last. last)
    (λ first second at. subst (λ ps. IsKeyPlaced H ps [] key insertions first second)
    (found_peers (λ (b : MapBundle). b.absences) place reads there) at)
    found

pub update_convicts : {D A : _} (H : List ℕ → List ℕ) (bytes : List ℕ) (place : ℕ)
    (key old_value new_value old_root new_root : List ℕ) (old new : Insertions) (b : MapBundle) (peers : Peers)
    (finding : Finding D A) → map_bundle_of bytes ≡ Ok b → slice_get b.proofs place ≡ Some peers
    → verdict H (update key old_value new_value old_root new_root) (by_bundle bytes place) ≡ Ok true
    → Finds (IsChangeMet H peers key old_value new_value old new) (IsUpdate key old_value new_value old new)
    (IsUpdatePlaced H peers (old_value, new_value) key (old, new)) finding
    → Convicts H (update key old_value new_value old_root new_root) (by_bundle bytes place) (old, new) finding
update_convicts H bytes place key old_value new_value old_root new_root old new b peers finding reads there shown
    found =
    let is = both_led_there H key (leaf_digest H old_value) (leaf_digest H new_value) old_root new_root peers
    (judged_there (λ (b : MapBundle). b.proofs)
    (λ b. leads_both H key (leaf_digest H old_value) (leaf_digest H new_value) old_root new_root) place reads
    there shown) in
    transfer finding
    (λ met. record { shown = shown; roots = (sym is.0 ∙ met.before, sym is.1 ∙ met.after) })
    (λ both. record { before = is.0 ∙ both.roots.0; after = is.1 ∙ both.roots.1 })
    (λ met claim. claim)
    (λ met claim. claim)
    (λ first second at. subst (λ ps. IsUpdatePlaced H ps (old_value, new_value) key (old, new) first second)
    (found_peers (λ (b : MapBundle). b.proofs) place reads there) at)
    found

pub insertion_convicts : {D A : _} (H : List ℕ → List ℕ) (bytes : List ℕ) (place : ℕ)
    (key value old_root new_root : List ℕ) (old new : Insertions) (b : MapBundle) (peers : Peers)
    (finding : Finding D A) → map_bundle_of bytes ≡ Ok b → slice_get b.absences place ≡ Some peers
    → verdict H (insertion key value old_root new_root) (by_bundle bytes place) ≡ Ok true
    → Finds (IsChangeMet H peers key [] value old new) (IsUpdate key [] value old new)
    (IsUpdatePlaced H peers ([], value) key (old, new)) finding
    → Convicts H (insertion key value old_root new_root) (by_bundle bytes place) (old, new) finding
insertion_convicts H bytes place key value old_root new_root old new b peers finding reads there shown found =
    let is = both_led_there H key (empty_root H 0) (leaf_digest H value) old_root new_root peers
    (judged_there (λ (b : MapBundle). b.absences)
    (λ b. leads_both H key (empty_root H 0) (leaf_digest H value) old_root new_root) place reads there
    shown) in
    let old_is : proof_value H peers (leaf_digest H []) (key_bits H key) ≡ old_root =
    ap (λ x. proof_value H peers x (key_bits H key)) (sym (empty_leaf H)) ∙ is.0 in
    transfer finding
    (λ met. record { shown = shown; roots = (sym old_is ∙ met.before, sym is.1 ∙ met.after) })
    (λ both. record { before = old_is ∙ both.roots.0; after = is.1 ∙ both.roots.1 })
    (λ met claim. claim)
    (λ met claim. claim)
    (λ first second at. subst (λ ps. IsUpdatePlaced H ps ([], value) key (old, new) first second)
    (found_peers (λ (b : MapBundle). b.absences) place reads there) at)
    found

-- A bundle's own inclusion proof is met by entries of the root to which it leads, as many as the bundle says.
pub included : (H : List ℕ → List ℕ) (bytes : List ℕ) (place : ℕ) (value root : List ℕ) (entries : List (List ℕ))
    (b : Bundle)
    (node : Node) → bundle_of bytes ≡ Ok b → slice_get b.included_nodes place ≡ Some node
    → inclusion_verdict H bytes place value root ≡ Ok true
    → IsLogOf H (record { root = root; length = b.log_length }) entries
    → IsMet H (held_digest b.hashes) (record { leaf = node; log_length = b.log_length }) (leaf_digest H value) entries
included H bytes place value root entries b node reads there shown log =
    let holds =
    judged_there (λ (b : Bundle). b.included_nodes) (includes H value root) place reads there shown in
    record { count = sym log.length; is = led_to root _ holds ∙ ap Ok log.root }

-- A bundle's own consistency proof that leads to two roots shows one log to begin another, at the bundle's lengths.
pub extended : (H : List ℕ → List ℕ) (bytes : List ℕ) (place : ℕ) (old new : List ℕ) (b : Bundle) (m : ℕ)
    → bundle_of bytes ≡ Ok b → slice_get b.consistent_lengths place ≡ Some m
    → consistency_verdict H bytes place old new ≡ Ok true
    → growth_verdict H bytes place m old b.log_length new ≡ Ok true
extended H bytes place old new b m reads there shown =
    let lengths = λ (b : Bundle). b.consistent_lengths in
    let holds = judged_there lengths (extends H old new) place reads there shown in
    ap (verdict_at lengths (shows_growth H m old b.log_length new) place) reads
    ∙ ap (judged (shows_growth H m old b.log_length new b)) there
    ∙ ap Ok (rw (eq-eqb m m refl, eq-eqb b.log_length b.log_length refl, holds) refl)
