-- Claims that are untrue, and of which no placed byte strings collide.
use Rattle.std.proofs.Common.{◌≡◌, ◌≢◌, ℕ, true, false, List, [], ◌∷◌, ◌++◌, length, Option, Some, None, inl, inr, refl, sym, ap, ◌∙◌, arith}
use Rattle.std.specs.Prelude.{replicate}
use Rattle.warg_crypto.specs.Collisions.{GivesHashes, SomeCollision}
use Rattle.warg_crypto.specs.Tree.{leaf_input}
use Rattle.warg_log.specs.Claims.{InclusionClaim, leaf_claim}
use Rattle.warg_log.specs.Cut.{way_within, top_of}
use Rattle.warg_log.specs.Nodes.{height_of, height_within, place_of, balanced_within, balanced_roots}
use Rattle.warg_log.specs.Tree.{root_within, front_of, front_within, root_over, leaves_of}
use Rattle.warg_paths.specs.Paths.{root_down, roots_down}
use Rattle.warg_paths.specs.Ways.{IsOnWay, IsOnGrowth}
use Rattle.warg_paths.specs.Ways.IsOnWay.{whole, front, rest}
use Rattle.warg_paths.specs.Ways.IsOnGrowth.{whole as grown_whole, front as grown_front, rest as grown_rest}
use Rattle.warg_crypto.proofs.ForCallers.{same_or_not, zeros}
use Rattle.warg_witness.specs.Asked.{but_hashes, but_meeting, but_untruth, meeting_alone, untruth_alone, Fails, FailsEverywhere, NeedsEach, ValueLaw, HashLaw, AgreementLaw, ConsistencyLaw, RecordLaw, RecordAgreementLaw, TreeLaw}
use Rattle.warg_witness.specs.Claims.{IsRootBelow}
use Rattle.warg_log.specs.Consistency.{IsConsistent}
use Rattle.std.specs.List.{Contains}
use Rattle.std.proofs.lemmas.Nat.{pow_pos}
use Rattle.warg_witness.specs.Ranges.{IsPart}
use Rattle.warg_witness.specs.Ranges.IsPart.{whole as part_whole, front as part_front, rest as part_rest}
use Rattle.warg_witness.proofs.RangeLemmas.{part_in}

-- Each byte string is its own digest, so none collide.
abbrev pub own : List ℕ → List ℕ
own m = m

pub none_collide : (P : List ℕ → List ℕ → Type 0) → ¬ SomeCollision own P
none_collide P c = c.collide.differ c.collide.same

-- No digest; the digest 5, 0 everywhere; 0 everywhere; and 32 zeros.
abbrev nothing : ℕ → Option (List ℕ)
nothing node = None

abbrev everywhere : ℕ → Option (List ℕ)
everywhere node = Some (5 ∷ 0 ∷ [])

abbrev zero_everywhere : ℕ → Option (List ℕ)
zero_everywhere node = Some (0 ∷ [])

abbrev zeros_everywhere : ℕ → Option (List ℕ)
zeros_everywhere node = Some zeros

-- The claim of the first of two leaves, and of the only one.
abbrev first_of_two : InclusionClaim
first_of_two = leaf_claim 0 2

abbrev only_one : InclusionClaim
only_one = leaf_claim 0 1

pub value_needs : NeedsEach ValueLaw
unfolding way_within top_of height_of height_within place_of root_within front_of front_within
value_needs = record {
  hashes = λ law. none_collide _
      (law own everywhere first_of_two [] ((5 ∷ []) ∷ [] ∷ []) tt (record { count = refl; is = refl })
      (λ is. let same = is.same in absurd cc));
  meeting = λ H law.
      let c = law nothing only_one (0 ∷ []) [] tt tt (λ is. let same = is.same in absurd cc) in
      omega (arith, (part_in c.placed.part).0, c.placed.around.ends);
  untruth = λ H law.
      let c = law nothing only_one [] ([] ∷ []) tt (record { count = refl; is = refl }) tt in
      let from : c.placed.from ≡ 0 = omega (arith, c.placed.around.starts) in
      let count : c.placed.count ≡ 1 = omega (arith, (part_in c.placed.part).0, c.placed.around.ends) in
      let first : c.first ≡ leaf_input [] = let is = rw (from, count) at c.placed.evaluation in cc in
      let second : c.second ≡ leaf_input [] = rw (from, count) at c.placed.plain in
      c.collide.differ (first ∙ sym second);
}

-- Of one leaf there is one range on the way.
of_one : {ds es : List (List ℕ)} {k b j : ℕ} → IsOnWay 0 0 1 ds k b j es → (k ≡ 0) × (es ≡ ds) × (b ≡ 0) × (j ≡ 1)
of_one whole = (refl, refl, refl, refl)
of_one (front k b j top below way more lt) = let one = (of_one way).3 in absurd (omega arith)
of_one (rest k b j top below way more le) = let one = (of_one way).3 in absurd (omega arith)

-- Without digests no range is on the way that has one.
no_digests : {known : Option (List ℕ)} {m n : ℕ} {k : Option (List ℕ)} {j b l : ℕ} {es : List (List ℕ)}
    → IsOnGrowth known m n [] k j b l es → es ≡ []
no_digests grown_whole = refl
no_digests (grown_front k j b l top below way more le) = let none = no_digests way in absurd cc
no_digests (grown_rest k j b l top below way more lt) = let none = no_digests way in absurd cc

no_turn : {known : Option (List ℕ)} {m n : ℕ} {k : Option (List ℕ)} {j b l : ℕ} {top : List ℕ} {below : List (List ℕ)}
    → IsOnGrowth known m n [] k j b l (top ∷ below) → ⊥
no_turn way = let none = no_digests way in absurd cc

-- One leaf has no part but itself.
part_of_one : {b m : ℕ} → IsPart 0 1 b m → (b ≡ 0) × (m ≡ 1)
part_of_one part_whole = (refl, refl)
part_of_one (part_front b m part more) = let one = (part_of_one part).1 in absurd (omega arith)
part_of_one (part_rest b m part more) = let one = (part_of_one part).1 in absurd (omega arith)

pub hash_hashes : Fails (HashLaw true but_hashes)
unfolding way_within top_of height_of height_within place_of root_within front_of front_within
hash_hashes law = none_collide _ (law own zero_everywhere first_of_two zeros ([] ∷ replicate 31 0 ∷ []) refl tt
    (record { count = refl; is = refl }) (λ is. omega (arith, ap length is)))

pub hash_size : (H : List ℕ → List ℕ) → GivesHashes H → ¬ HashLaw false but_hashes H
unfolding way_within top_of height_of height_within place_of root_within front_of front_within
hash_size H gives law =
    let leaf = H (0 ∷ []) in
    let both : ℕ → Option (List ℕ) = λ node. Some (leaf ++ leaf) in
    let c = law both first_of_two [] ([] ∷ [] ∷ []) tt tt (record { count = refl; is = refl })
    (λ is. omega (arith, ap length is, (gives (0 ∷ [])).has_32)) in
    let from : c.placed.from ≡ 0 = omega (arith, c.placed.around.starts) in
    let other : c.placed.count ≢ 1 = c.placed.other from in
    let count : c.placed.count ≡ 2 = omega (arith, (part_in c.placed.part).0, c.placed.around.ends, other) in
    let first : c.first ≡ 1 ∷ leaf ++ leaf = let is = rw (from, count) at c.placed.evaluation in cc in
    let second : c.second ≡ 1 ∷ leaf ++ leaf = rw (from, count) at c.placed.plain in
    c.collide.differ (first ∙ sym second)

pub hash_meeting : FailsEverywhere (HashLaw true untruth_alone)
unfolding height_of height_within place_of
hash_meeting H law =
    let none : (hash : List ℕ) → length hash ≡ 32 → ¬ (IsRootBelow H hash 0 []) → ⊥ = λ hash size untrue.
    let c = law nothing only_one hash [] size tt tt untrue in
    omega (arith, (part_in c.placed.part).0, c.placed.around.ends) in
    elim (same_or_not zeros (root_over H (leaves_of H []) 0 1)) [
      | inr other ↦ none zeros refl other
      | inl same ↦ none (replicate 32 1) refl (λ is. let differ : zeros ≡ replicate 32 1 = same ∙ sym is in absurd cc)
    ]

pub hash_untruth : (H : List ℕ → List ℕ) → GivesHashes H → ¬ HashLaw true meeting_alone H
unfolding way_within top_of height_of height_within place_of root_within
hash_untruth H gives law =
    let c = law nothing only_one (H (0 ∷ [])) ([] ∷ []) (gives (0 ∷ [])).has_32 tt (record { count = refl; is = refl })
    tt in
    let from : c.placed.from ≡ 0 = omega (arith, c.placed.around.starts) in
    c.placed.other from (omega (arith, (part_in c.placed.part).0, c.placed.around.ends))

pub agreement_needs : NeedsEach AgreementLaw
unfolding way_within top_of height_of height_within place_of
agreement_needs = record {
  hashes = λ law. none_collide _ (law own first_of_two everywhere [] zero_everywhere (5 ∷ []) tt
      (record { root = 1 ∷ 0 ∷ 5 ∷ 0 ∷ []; first_is = refl; second_is = refl }) (λ is. absurd cc));
  meeting = λ H law.
      let c = law (leaf_claim 0 0) nothing [] nothing (0 ∷ []) tt tt (λ is. absurd cc) in
      omega (arith, (part_in c.placed.part).0, c.placed.around.ends);
  untruth = λ H law.
      let c = law only_one nothing [] nothing [] tt (record { root = H (0 ∷ []); first_is = refl; second_is = refl }) tt
      in
      let from : c.placed.from ≡ 0 = omega (arith, c.placed.around.starts) in
      let count : c.placed.count ≡ 1 = omega (arith, (part_in c.placed.part).0, c.placed.around.ends) in
      let first : c.first ≡ leaf_input [] = let is = rw (from, count) at c.placed.first_evaluation in cc in
      let second : c.second ≡ leaf_input [] = let is = rw (from, count) at c.placed.second_evaluation in cc in
      c.collide.differ (first ∙ sym second);
}

pub record_needs : NeedsEach RecordLaw
unfolding root_down root_within front_of front_within
record_needs = record {
  hashes = λ law. none_collide _
      (law own 0 (zeros ∷ []) (0 ∷ []) ([] ∷ zeros ∷ []) tt refl (λ is. absurd cc));
  meeting = λ H law.
      let c = law 0 ([] ∷ [] ∷ []) (0 ∷ []) ([] ∷ []) tt tt (λ is. absurd cc) in
      let at = of_one c.placed.on_way in
      let none = rw (at.0, at.1, at.3) at c.placed.evaluation in absurd cc;
  untruth = λ H law.
      let c = law 0 [] [] ([] ∷ []) tt refl tt in
      let at = of_one c.placed.on_way in
      let first : c.first ≡ leaf_input [] = let is = rw at.1 at c.placed.evaluation in cc in
      let second : c.second ≡ leaf_input [] = rw (at.2, at.3) at c.placed.plain in
      c.collide.differ (first ∙ sym second);
}

pub record_agreement_sizes : Fails (RecordAgreementLaw but_hashes)
unfolding root_down front_of front_within
record_agreement_sizes law = none_collide _ (law own 0 2 ((5 ∷ zeros) ∷ []) [] (zeros ∷ []) (5 ∷ []) tt (refl, tt)
    (record { root = 1 ∷ 0 ∷ 5 ∷ zeros; first_is = refl; second_is = refl }) (λ is. absurd cc))

pub record_agreement_meeting : FailsEverywhere (RecordAgreementLaw but_meeting)
unfolding root_down front_of front_within
record_agreement_meeting H law =
    let c = law 0 1 (zeros ∷ zeros ∷ []) [] [] (0 ∷ []) (refl, (refl, tt)) tt tt (λ is. absurd cc) in
    let at = of_one c.placed.on_way in
    let none = rw (at.0, at.1, at.3) at c.placed.first_evaluation in absurd cc

pub record_agreement_difference : FailsEverywhere (RecordAgreementLaw but_untruth)
unfolding root_down
record_agreement_difference H law =
    let c = law 0 1 [] [] [] [] tt tt (record { root = H (0 ∷ []); first_is = refl; second_is = refl }) tt in
    let at = of_one c.placed.on_way in
    let other_at = of_one c.placed.other_on_way in
    let first : c.first ≡ leaf_input [] = let is = rw at.1 at c.placed.first_evaluation in cc in
    let second : c.second ≡ leaf_input [] = let is = rw other_at.1 at c.placed.second_evaluation in cc in
    c.collide.differ (first ∙ sym second)

pub tree_needs : NeedsEach TreeLaw
unfolding roots_down root_within front_of front_within
tree_needs = record {
  hashes = λ law. none_collide _ (law own ([] ∷ []) ((0 ∷ []) ∷ []) ([] ∷ [] ∷ []) tt refl
      (λ is. absurd cc));
  meeting = λ H law. let c = law [] ((0 ∷ []) ∷ []) [] tt tt (λ is. absurd cc) in grind
      (arith, no_turn, part_of_one, part_in);
  untruth = λ H law. let c = law [] ([] ∷ []) ([] ∷ []) tt refl tt in
      grind (arith, no_turn);
}

-- One leaf has one balanced root.
only_root : {root : ℕ} → Contains (balanced_roots 1) root → root ≡ 0
unfolding balanced_within
only_root (i, within, is) = let first : i ≡ 0 = omega (arith, within) in sym (rw first at is)

-- The length of the first of some byte lists.
first_length : List (List ℕ) → ℕ
first_length [] = 0
first_length (x ∷ xs) = length x

pub consistency_needs : NeedsEach ConsistencyLaw
unfolding way_within top_of height_of height_within place_of balanced_within root_within front_of front_within
    first_length
consistency_needs = record {
  hashes = λ law.
      let roots : IsConsistent own zeros_everywhere 1 2 zeros (1 ∷ zeros ++ zeros) =
      record {
        some = omega arith;
        order = omega arith;
        old_root_is = refl;
        new_root_is = ((zeros, refl, refl), tt);
      } in
      none_collide _ (law own zeros_everywhere 1 2 (replicate 31 0 ∷ []) ([] ∷ replicate 62 0 ∷ []) tt
      (record { old_count = refl; new_count = refl; roots = roots })
      (λ is. absurd (omega (arith, ap first_length is))));
  meeting = λ H law.
      let c = law nothing 1 0 ((0 ∷ []) ∷ []) [] tt tt (λ is. absurd cc) in
      elim c.placed [
        | inl old ↦ old.split (0, (part_of_one old.part).1)
        | inr (inl new) ↦ omega (arith, (part_in new.part).0, new.around.ends, pow_pos (height_of new.root))
        | inr (inr both) ↦ let one = part_of_one both.old_part in omega (arith, one.1, (part_in both.new_part).0)
      ];
  untruth = λ H law.
      let leaf = H (0 ∷ []) in
      let held : ℕ → Option (List ℕ) = λ node. Some leaf in
      let roots : IsConsistent H held 1 1 leaf leaf =
      record {
        some = omega arith;
        order = omega arith;
        old_root_is = refl;
        new_root_is = ((leaf, refl, refl), tt);
      } in
      let c = law held 1 1 ([] ∷ []) ([] ∷ []) tt (record { old_count = refl; new_count = refl; roots = roots }) tt in
      elim c.placed [
        | inl old ↦ old.split (0, (part_of_one old.part).1)
        | inr (inl new) ↦
            let one = part_of_one new.part in
            let root : new.root ≡ 0 = only_root new.is_root in
            new.other (one.0 ∙ sym (rw root refl)) (one.1 ∙ sym (rw root refl))
        | inr (inr both) ↦ c.collide.differ (both.old_plain ∙ sym both.new_plain)
      ];
}

pub ruleset log_needs = (value_needs, agreement_needs, consistency_needs, record_needs, tree_needs)

pub ruleset hash_needs = (hash_hashes, hash_size, hash_meeting, hash_untruth)

pub ruleset record_agreement_needs = (
  record_agreement_sizes,
  record_agreement_meeting,
  record_agreement_difference,
)
