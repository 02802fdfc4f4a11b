-- A path that leads to the root of a tree leads from its entry, or collides with it; two paths that lead to one root
-- lead
-- from one value, or collide; and a consistency path that leads to the roots of two trees shows that the one's
-- entries begin
-- the other's, or collides with a tree, or both trees collide.
use Rattle.std.proofs.Common.{◌≡◌, ℕ, ◌+◌, ◌<◌, ◌≤◌, ◌≢◌, ◌⊎◌, inl, inr, List, ◌∷◌, [], length, reverse, slice_index_or, Some, refl, sym, ap, ◌∙◌, arith, length-append, ◌-◌, Option, None, subst}
use Rattle.std.proofs.lemmas.List.{reverse-reverse}
use Rattle.warg_crypto.specs.Collisions.{GivesHashes, AreHashes, SomeCollision}
use Rattle.warg_crypto.specs.Tree.{leaf_digest, branch_input, where_both}
use Rattle.warg_crypto.proofs.ForCallers.{sizes, branch_parts, same_or_not}
use Rattle.warg_log.specs.Tree.{leaves_of, root_over, front_of, root_of}
use Rattle.warg_paths.specs.Paths.{inclusion_root, roots_down, subproof_roots}
use Rattle.warg_paths.specs.Ways.{ArePathInputs, IsOnGrowth, old_turn_input, new_turn_input, old_of}
use Rattle.warg_witness.specs.PathClaims.{IsRecord, IsRecordMet, IsRecordAgreement, IsTreeMet}
use Rattle.warg_witness.specs.PathPlaced.{IsRecordPlaced, IsRecordAgreementPlaced}
use Rattle.warg_witness.specs.Inputs.{plain_input}
use Rattle.warg_witness.proofs.CutLemmas.{plain_digest_is, leaves_count, have_range}
use Rattle.warg_witness.proofs.RecordLemmas.{paths_climbed, whole_parts, inputs_placed, leaf_placed, record_agreement_shown, own_exists, own_met, record_placed, plain_root}
use Rattle.std.proofs.lemmas.Bool.{lt-leb, cases_lt}
use Rattle.warg_log.specs.Ranges.{leaves_from}
use Rattle.warg_witness.specs.Ranges.{IsPart, IsAround}
use Rattle.warg_witness.specs.Placed.{IsPlacedInBoth}
use Rattle.warg_witness.proofs.LawLemmas.{diverged, shown_collides, difference}
use Rattle.warg_witness.proofs.RangeLemmas.{part_in, leaf_node}
use Rattle.warg_witness.proofs.ShownLemmas.{both_shown}
use Rattle.warg_log.proofs.ForCallers.{front_is_greatest}
use Rattle.warg_witness.specs.Ranges.IsPart.{whole as part_whole, front as part_front, rest as part_rest}
use Rattle.warg_witness.specs.Claims.{Begins}
use Rattle.warg_paths.specs.Ways.IsOnGrowth.{whole, front, rest}
use Rattle.warg_witness.specs.TreePlaced.{IsTreePlaced}
use Rattle.std.proofs.lemmas.Bool.Decides.{nat_tests}
use Rattle.warg_paths.proofs.ForCallers.{leads_inside, no_roots, grown_is, over_is, front_turn as roots_front, rest_turn as roots_rest, front_takes, rest_takes}
use Rattle.warg_witness.proofs.GrowthLemmas.{same_front, all_old, turning}

-- two branches that are one, of which the digests on the right have one length
pub left_parts : (l r p q : List ℕ) → length r ≡ length q → branch_input l r ≡ branch_input p q → (l ≡ p) × (r ≡ q)
left_parts l r p q sized same = branch_parts l r p q
    (omega (arith, length-append l r, length-append p q, ap length same)) same

-- the roots over a tree's ranges have 32 bytes
pub over_size : (H : List ℕ → List ℕ) → GivesHashes H → (entries : List (List ℕ)) (a n : ℕ) → 0 < n
    → a + n ≤ length entries → length (root_over H (leaves_of H entries) a n) ≡ 32
over_size H gives entries a n some within = ap length (plain_digest_is H entries a n some within)
    ∙ sizes gives (plain_input H entries a n)

pub record_collides : (H : List ℕ → List ℕ) → GivesHashes H → (index : ℕ) (path : List (List ℕ)) (value : List ℕ)
    (entries : List (List ℕ)) → IsRecordMet H index path value entries → ¬ IsRecord index value entries
    → SomeCollision H (IsRecordPlaced H index path value entries)
record_collides H gives index path value entries met untrue =
    let n = length entries in
    let entry = slice_index_or entries index [] in
    let (inside, leads) = leads_inside H index n _ _ path met in
    let (digests, is_own) = own_exists H (leaves_of H entries) n index 0 n (omega arith) inside in
    let own = reverse digests in
    let made = rw (← reverse-reverse digests) at is_own in
    let meets = own_met H index path value entries own inside made in
    let own_leads = (leads_inside H index n _ _ own meets).1 in
    let (climb, up, _) = paths_climbed {D = Unit {0}} H (sizes gives) (leaf_digest H value) (leaf_digest H entry)
    (sizes gives _ ∙ sym (sizes gives _)) index n (reverse path) (reverse own) _ _ leads own_leads in
    let both : Some climb.first ≡ Some climb.second = sym up.first_led ∙ leads ∙ sym own_leads ∙ up.second_led in
    let pair = record_agreement_shown H index n path value own entry climb.divergence (λ e. untrue (sym e)) (record {
      root = _;
      first_is = met;
      second_is = meets;
      diverges = whole_parts H _ _ path own index n up (cc);
    }) in
    shown_collides _ (record {
      collides = pair.collides;
      placed = record_placed H index path value entries own inside made _ _ pair.placed;
    })

-- Two paths of one place that lead to one root are one, or their evaluations collide.
abbrev pub PathIsUnique : (List ℕ → List ℕ) → Type 0
PathIsUnique H = (m n : ℕ) (x y root : List ℕ) (xs ys : List (List ℕ)) → AreHashes xs → AreHashes ys
    → inclusion_root H m n x xs ≡ Some root → inclusion_root H m n y ys ≡ Some root → ((x ≡ y) × (xs ≡ ys))
    ⊎ SomeCollision H (ArePathInputs H m n x xs y ys)

pub record_agreement_collides : (H : List ℕ → List ℕ) → PathIsUnique H
    → (index n : ℕ) (path : List (List ℕ)) (value : List ℕ) (other_path : List (List ℕ)) (other : List ℕ)
    → AreHashes path → AreHashes other_path
    → IsRecordAgreement H index n path value other_path other → value ≢ other
    → SomeCollision H (IsRecordAgreementPlaced H index n (path, value) (other_path, other))
record_agreement_collides H unique index n path v other_path u sized other_sized met differ =
    elim (unique index n (leaf_digest H v) (leaf_digest H u) met.root path other_path sized other_sized met.first_is
    met.second_is) [
      | inr c ↦ record {
        first = c.first;
        second = c.second;
        collide = c.collide;
        placed = inputs_placed H index n path v other_path u _ _ c.placed;
      }
      | inl same ↦ record {
        first = 0 ∷ v;
        second = 0 ∷ u;
        collide = record { differ = λ equal. differ (cc); same = same.0 };
        placed = leaf_placed H index n path v other_path u met.first_is met.second_is;
      }
    ]

module _ (H : List ℕ → List ℕ) where
  -- The root over a range of entries, and the branch over its parts.
  abbrev pub over : List (List ℕ) → ℕ → ℕ → List ℕ
  over entries a n = root_over H (leaves_of H entries) a n

  abbrev pub branch_at : List (List ℕ) → ℕ → ℕ → List ℕ
  branch_at entries a n = branch_input (over entries a (front_of n)) (over entries (a + front_of n) (n - front_of n))

  module _ (P : List ℕ → List ℕ → Type 0) where
    -- a branch with a tree's digest at a range is the tree's, or collides with it
    pub fork : (entries : List (List ℕ)) (a n : ℕ) (l r : List ℕ) → 1 < n → a + n ≤ length entries
        → H (branch_input l r) ≡ over entries a n → P (branch_input l r) (plain_input H entries a n)
        → (branch_input l r ≡ branch_at entries a n) ⊎ SomeCollision H P
    fork entries a n l r more within root placed =
        let plain : branch_at entries a n ≡ plain_input H entries a n = rw (lt-leb n 1 more) refl in
        elim (same_or_not (branch_input l r) (branch_at entries a n)) [
          | inl same ↦ inl same
          | inr differ ↦ inr (record {
            first = branch_input l r;
            second = plain_input H entries a n;
            collide = record {
              differ = λ e. differ (e ∙ sym plain);
              same = root ∙ plain_digest_is H entries a n (omega arith) within;
            };
            placed = placed;
          })
        ]

    -- two trees of one root over a range in which the entries differ collide
    pub both_collide : GivesHashes H → (old new : List (List ℕ)) (place a n : ℕ)
        → ((first second : List ℕ) → IsPlacedInBoth H old new first second → P first second)
        → IsAround (leaves_from place 1) (leaves_from a n)
        → (slice_index_or old place [] ≡ slice_index_or new place [] → ⊥) → IsPart 0 (length old) a n
        → IsPart 0 (length new) a n → over old a n ≡ over new a n → SomeCollision H P
    both_collide gives old new place a n placed around differ old_part new_part same =
        let in_old = part_in old_part in
        let in_new = part_in new_part in
        let one_size = over_size H gives old place 1 (omega arith) (omega arith)
        ∙ sym (over_size H gives new place 1 (omega arith) (omega arith)) in
        let (p, diverges) = diverged H _ _ _ _ (leaves_from place 1) (sizes gives) one_size (leaf_node refl)
        (leaves_from a n) in_old.1 around
        (have_range H (leaves_of H old) (leaves_of H new) (leaves_from place 1) (leaves_from a n) in_old.1 (omega arith)
        (omega (arith, leaves_count H old)) (omega (arith, leaves_count H new)) same) in
        let pair = both_shown H old new place (leaves_from a n) old_part new_part p diverges differ in
        shown_collides _ (record { collides = pair.collides; placed = placed _ _ pair.placed })

-- the new root that is reckoned has 32 bytes, where not all leaves are old
new_size : (H : List ℕ → List ℕ) → GivesHashes H → (known : Option (List ℕ)) (m n : ℕ) (digests : List (List ℕ))
    (o w : List ℕ) → m < n → roots_down H known m n digests ≡ Some (o, w) → length w ≡ 32
new_size H gives known m n [] o w less is = absurd (no_roots H known m n _ less is)
new_size H gives known m n (top ∷ below) o w less is = elim (cases_lt (front_of n) m) [
  | inr le ↦ let (x, _, root) = grown_is H (roots_down H known m (front_of n) below) top o w
      (sym (roots_front H known m n top below less le) ∙ is) in sym (ap length root) ∙ sizes gives _
  | inl lt ↦ let (y, x, _, _, root) = over_is H (roots_down H None (m - front_of n) (n - front_of n) below) top o w
      (sym (roots_rest H known m n top below less lt) ∙ is) in sym (ap length root) ∙ sizes gives _
]

-- roots that are there
leads_both : (H : List ℕ → List ℕ) (known : Option (List ℕ)) (m n : ℕ) (path : List (List ℕ)) (roots : List ℕ × List ℕ)
    → subproof_roots H known m n path ≡ Some roots
    → (0 < m) × (m ≤ n) × (roots_down H known m n (reverse path) ≡ Some roots)
leads_both H known m n path roots is = grind (arith, nat_tests)

module _ (H : List ℕ → List ℕ) (gives : GivesHashes H) (path old new : List (List ℕ)) where
  abbrev Placed : List ℕ → List ℕ → Type 0
  Placed = IsTreePlaced H path old new

  abbrev Collide : Type 0
  Collide = SomeCollision H Placed

  abbrev OnWay : Option (List ℕ) → ℕ → ℕ → ℕ → List (List ℕ) → Type 0
  OnWay known m a n digests = IsOnGrowth (Some (root_of H (leaves_of H old))) (length old) (length new)
      (reverse path) known m a n digests

  -- a branch of the evaluation is the tree's, or collides with it
  new_fork : (known : Option (List ℕ)) (m a n : ℕ) (top : List ℕ) (below : List (List ℕ)) (l r : List ℕ) → m < n → 1 < n
      → a + n ≤ length new → OnWay known m a n (top ∷ below)
      → new_turn_input H known m n top below ≡ Some (branch_input l r) → H (branch_input l r) ≡ over H new a n
      → (branch_input l r ≡ branch_at H new a n) ⊎ Collide
  new_fork known m a n top below l r less more within way takes root =
      fork H Placed new a n l r more within root
      (inr (inl (record { turn = turning way less; evaluation = takes; plain = refl })))

  old_fork : (known : Option (List ℕ)) (m a n : ℕ) (top : List ℕ) (below : List (List ℕ)) (l r : List ℕ) → m < n → 1 < m
      → front_of n < m → a + m ≤ length old → OnWay known m a n (top ∷ below)
      → old_turn_input H m n top below ≡ Some (branch_input l r) → H (branch_input l r) ≡ over H old a m
      → (branch_input l r ≡ branch_at H old a m) ⊎ Collide
  old_fork known m a n top below l r less more turns within way takes root =
      fork H Placed old a m l r more within root
      (inl (record { turn = turning way less; in_rest = turns; evaluation = takes; plain = refl }))

  -- the new root of a part has 32 bytes: it is reckoned, or the old one where all leaves are old
  part_size : (digests : List (List ℕ)) (known : Option (List ℕ)) (m a n : ℕ) (x : List ℕ) → 0 < m → m ≤ n
      → a + m ≤ length old → roots_down H known m n digests ≡ Some (over H old a m, x) → length x ≡ 32
  part_size digests known m a n x some order within is = elim (cases_lt m n) [
    | inl less ↦ new_size H gives known m n digests (over H old a m) x less is
    | inr all ↦ sym (ap length (all_old H known m n digests (over H old a m) x (omega (arith, all, order)) is))
        ∙ over_size H gives old a m some within
  ]

  module _ (place : ℕ) (differ : slice_index_or old place [] ≡ slice_index_or new place [] → ⊥) where
    level : (digests : List (List ℕ)) (known : Option (List ℕ)) (m a n : ℕ) → n ≡ m
        → IsAround (leaves_from place 1) (leaves_from a m)
        → IsPart 0 (length old) a m → IsPart 0 (length new) a n → roots_down H known m n digests
        ≡ Some (over H old a m, over H new a n) → Collide
    level digests known m a n equal around old_part new_part leads =
        let one = all_old H known m n digests _ _ (sym equal) leads in
        both_collide H Placed gives old new place a m (λ _ _ both. inr (inr both)) around differ old_part
        (subst (λ k. IsPart 0 (length new) a k) equal new_part) (one ∙ ap (over H new a) equal)

    down : (digests : List (List ℕ)) (known : Option (List ℕ)) (m a n : ℕ) → m ≤ n
        → IsAround (leaves_from place 1) (leaves_from a m)
        → IsPart 0 (length old) a m → IsPart 0 (length new) a n → OnWay known m a n digests
        → roots_down H known m n digests ≡ Some (over H old a m, over H new a n) → Collide
    down [] known m a n order around old_part new_part way leads = elim (cases_lt m n) [
      | inl less ↦ absurd (no_roots H known m n _ less leads)
      | inr same ↦ level [] known m a n (omega arith) around old_part new_part leads
    ]
    down (top ∷ below) known m a n order around old_part new_part way leads = elim (cases_lt m n) [
      | inr same ↦ level (top ∷ below) known m a n (omega arith) around old_part new_part leads
      | inl less ↦
          let more : 1 < n = omega arith in
          let f = front_is_greatest n more in
          let in_new = (part_in new_part).0 in
          let in_old = (part_in old_part).0 in
          elim (cases_lt (front_of n) m) [
            | inr le ↦
                let (x, below_is, root) = grown_is H (roots_down H known m (front_of n) below) top _ _
                (sym (roots_front H known m n top below less le) ∙ leads) in
                elim (new_fork known m a n top below x top less more in_new way
                (front_takes H known m n top below _ x le below_is) root) [
                  | inr collision ↦ collision
                  | inl same ↦
                      let parts = branch_parts x top _ _
                      (part_size below known m a (front_of n) x (omega arith) le in_old below_is
                      ∙ sym (over_size H gives new a (front_of n) (omega arith) (omega arith))) same in
                      down below known m a (front_of n) le around old_part (part_front a n new_part more)
                      (front known m a n top below way less le)
                      (below_is ∙ ap (λ w. Some (over H old a m, w)) parts.0)
                ]
            | inl lt ↦
                let fronts = same_front m n more lt order in
                let (y, x, below_is, old_root, new_root) =
                over_is H (roots_down H None (m - front_of n) (n - front_of n) below) top _ _
                (sym (roots_rest H known m n top below less lt) ∙ leads) in
                elim (old_fork known m a n top below top y less (omega arith) lt in_old way
                (ap (where_both branch_input (Some top)) (ap old_of below_is)) old_root) [
                  | inr collision ↦ collision
                  | inl old_same ↦ elim (new_fork known m a n top below top x less more in_new way
                      (rest_takes H known m n top below y x lt below_is) new_root) [
                        | inr collision ↦ collision
                        | inl new_same ↦
                            let right = new_size H gives None (m - front_of n) (n - front_of n) below y x
                            (omega arith) below_is ∙ sym (over_size H gives new (a + front_of n) (n - front_of n)
                            (omega arith) (omega arith)) in
                            let new_parts = left_parts top x (over H new a (front_of n))
                            (over H new (a + front_of n) (n - front_of n)) right new_same in
                            let left = ap length new_parts.0 ∙ over_size H gives new a (front_of n) (omega arith)
                            (omega arith) ∙ sym (over_size H gives old a (front_of n) (omega arith) (omega arith)) in
                            let old_parts = branch_parts top y (over H old a (front_of n))
                            (over H old (a + front_of n) (m - front_of n)) left (rw fronts at old_same) in
                            elim (cases_lt place (a + front_of n)) [
                              | inl here ↦ both_collide H Placed gives old new place a (front_of n)
                                  (λ _ _ both. inr (inr both)) (omega arith) differ
                                  (rw fronts at (part_front a m old_part (omega arith))) (part_front a n new_part more)
                                  (sym old_parts.0 ∙ new_parts.0)
                              | inr there ↦ down below None (m - front_of n) (a + front_of n) (n - front_of n)
                                  (omega arith)
                                  (omega arith) (rw fronts at (part_rest a m old_part (omega arith)))
                                  (part_rest a n new_part more)
                                  (rest known m a n top below way less lt) (below_is ∙ ap (λ z. Some (z, x)) old_parts.1
                                  ∙ ap (λ z. Some (over H old (a + front_of n) (m - front_of n), z)) new_parts.1)
                            ]
                      ]
                ]
          ]
    ]

pub tree_collides : (H : List ℕ → List ℕ) → GivesHashes H → (digests old new : List (List ℕ))
    → IsTreeMet H digests old new → ¬ Begins old new → SomeCollision H (IsTreePlaced H digests old new)
tree_collides H gives digests old new met untrue =
    let (some, order, leads) = leads_both H (Some (root_of H (leaves_of H old))) (length old)
    (length new) digests _ met in
    let differs = difference old new order untrue in
    let roots : roots_down H (Some (root_of H (leaves_of H old))) (length old) (length new) (reverse digests)
    ≡ Some (root_over H (leaves_of H old) 0 (length old), root_over H (leaves_of H new) 0 (length new)) =
    rw (plain_root H old, plain_root H new) leads in
    down H gives digests old new differs.0 differs.2 (reverse digests) _ (length old) 0 (length new) order
    (omega (arith, differs.1)) part_whole part_whole whole roots
