-- Two maps with one root have the same values, or a branch, a leaf or a key of theirs collides.
use Rattle.std.proofs.Common.{◌≡◌, ◌≢◌, ℕ, zero, suc, ◌+◌, ◌⊎◌, inl, inr, Bool, true, false, List, [], ◌∷◌, ◌++◌, length, map, Option, Some, None, refl, sym, ap, subst, ◌∙◌, arith, unwrap_or}
use Rattle.std.specs.FinMap.{get}
use Rattle.std.specs.List.{AllByRecursion, Contains}
use Rattle.std.specs.Cmp.Lexicographic.{same_text}
use Rattle.std.proofs.lemmas.List.{length-map, get_or-map}
use Rattle.std.proofs.lemmas.List.Elements.{All-from_recursion, All-contains}
use Rattle.warg_crypto.specs.Bytes.{same_bytes}
use Rattle.warg_crypto.specs.Collisions.{GivesHashes, SomeCollision}
use Rattle.warg_crypto.specs.EmptyTrees.{empty_root}
use Rattle.warg_crypto.specs.Tree.{branch_input}
use Rattle.warg_crypto.proofs.ForCallers.{same_or_not, sizes, branch_parts}
use Rattle.warg_map.specs.Bits.{key_bits}
use Rattle.warg_map.specs.Last.{last_under, same_bits}
use Rattle.warg_map.specs.Sparse.{root_of_levels, sparse_root, map_of, leaf_at}
use Rattle.warg_map.proofs.ForCallers.{all_bits, same_digest, same_bits-true}
use Rattle.warg_witness.specs.MapClaims.{value_in, last_insertion}
use Rattle.warg_witness.proofs.InsertionLemmas.{last_with-is, last_of_digest}
use Rattle.warg_witness.proofs.KeyLemmas.{plain_leaf_is}
use Rattle.warg_witness.proofs.LawLemmas.{HaveSize, root_len, held_len}
use Rattle.warg_witness.specs.MapsPlaced.{Insertions, HaveOneValue, HaveSameValues, IsInserted, IsPlacedInMaps}

module _ (H : List ℕ → List ℕ) (gives : GivesHashes H) where
  -- The branch over what is held behind a prefix.
  abbrev branch_behind : ℕ → (List Bool → Option (List ℕ)) → List Bool → List ℕ
  branch_behind j f prefix = branch_input (root_of_levels H j (λ q. f (prefix ++ false ∷ q)))
      (root_of_levels H j (λ q. f (prefix ++ true ∷ q)))

  -- two trees of one root have the same leaves, or collide at a branch
  trees : (Q : List ℕ → List ℕ → Type 0) (k : ℕ) (f g : List Bool → Option (List ℕ)) → HaveSize f → HaveSize g
      → root_of_levels H k f ≡ root_of_levels H k g
      → ((prefix : List Bool) (j : ℕ) → length prefix + suc j ≡ k
      → Q (branch_behind j f prefix) (branch_behind j g prefix))
      → ((q : List Bool) → length q ≡ k → unwrap_or (f q) (empty_root H 0) ≡ unwrap_or (g q) (empty_root H 0))
      ⊎ SomeCollision H Q
  unfolding root_of_levels
  trees Q zero f g sized sized' same placed = inl leaf
    where
      leaf : (q : List Bool) → length q ≡ 0 → unwrap_or (f q) (empty_root H 0) ≡ unwrap_or (g q) (empty_root H 0)
      leaf [] len = same
      leaf (b ∷ q) len = absurd (omega arith)
  trees Q (suc k) f g sized sized' same placed = elim (same_or_not (branch_behind k f []) (branch_behind k g [])) [
    | inr differ ↦ inr (record {
      first = _;
      second = _;
      collide = record { differ = differ; same = same };
      placed = placed [] k (omega arith);
    })
    | inl equal ↦
        let parts = branch_parts (root_of_levels H k (λ q. f (false ∷ q))) _ (root_of_levels H k (λ q. g (false ∷ q))) _
        (root_len H (sizes gives) k (λ q. f (false ∷ q)) (λ q. sized (false ∷ q))
        ∙ sym (root_len H (sizes gives) k (λ q. g (false ∷ q)) (λ q. sized' (false ∷ q)))) equal in
        elim (trees Q k (λ q. f (false ∷ q)) (λ q. g (false ∷ q)) (λ q. sized (false ∷ q))
        (λ q. sized' (false ∷ q)) parts.0 (λ prefix j len. placed (false ∷ prefix) j (omega arith))) [
          | inr collision ↦ inr collision
          | inl left ↦ elim (trees Q k (λ q. f (true ∷ q)) (λ q. g (true ∷ q)) (λ q. sized (true ∷ q))
              (λ q. sized' (true ∷ q)) parts.1 (λ prefix j len. placed (true ∷ prefix) j (omega arith))) [
                | inr collision ↦ inr collision
                | inl right ↦ inl (both left right)
              ]
        ]
  ]
    where
      both : ((q : List Bool) → length q ≡ k → unwrap_or (f (false ∷ q)) (empty_root H 0) ≡ unwrap_or (g (false ∷ q))
          (empty_root H 0))
          → ((q : List Bool) → length q ≡ k → unwrap_or (f (true ∷ q)) (empty_root H 0) ≡ unwrap_or (g (true ∷ q))
          (empty_root H 0))
          → (q : List Bool) → length q ≡ suc k → unwrap_or (f q) (empty_root H 0) ≡ unwrap_or (g q) (empty_root H 0)
      both left right [] len = absurd (omega arith)
      both left right (false ∷ q) len = left q (omega arith)
      both left right (true ∷ q) len = right q (omega arith)

  -- a key's value is that under its digest, or another inserted key has this digest
  key_value : (q : List ℕ) (es : Insertions)
      → (value_in (last_insertion q es) ≡ value_in (last_under H (key_bits H q) es))
      ⊎ ((e : List ℕ × List ℕ) × Contains es e × (q ≢ e.0) × (H q ≡ H e.0))
  key_value q es = go (last_under H (key_bits H q) es) refl
    where
      go : (o : Option (List ℕ × List ℕ)) → last_under H (key_bits H q) es ≡ o
          → (value_in (last_insertion q es) ≡ value_in (last_under H (key_bits H q) es))
          ⊎ ((e : List ℕ × List ℕ) × Contains es e × (q ≢ e.0) × (H q ≡ H e.0))
      go None is = inl (ap value_in (last_of_digest H q es (rw is tt)))
      go (Some e) is = elim (same_or_not q e.0) [
        | inl same ↦ inl (ap value_in (last_of_digest H q es (rw is same)))
        | inr other ↦
            let found = last_with-is (λ f. same_bits (key_bits H q) (key_bits H f.0)) es e is in
            inr (
              e,
              found.1,
              other,
              same_digest H q e.0 (gives q) (gives e.0)
                  (same_bits-true (key_bits H q) (key_bits H e.0) found.0),
            )
      ]

-- each of a list, or something else
each : (es : Insertions) (P : List ℕ → Type 0) (C : Type 0) → ((e : List ℕ × List ℕ) → Contains es e → P e.0 ⊎ C)
    → AllByRecursion (λ (e : List ℕ × List ℕ). P e.0) es ⊎ C
each [] P C test = inl tt
each (x ∷ es) P C test = elim (test x (0, omega arith, refl)) [
  | inr other ↦ inr other
  | inl here ↦ elim (each es P C (λ e at. test e (suc at.0, omega (arith, at.1), at.2)))
      [ inr other ↦ inr other | inl all ↦ inl (here, all) ]
]

-- the key of an insertion is inserted
pub is_key : (es : Insertions) (e : List ℕ × List ℕ) → Contains es e
    → Contains (map (λ (f : List ℕ × List ℕ). f.0) es) e.0
is_key es e at = let count = length-map es (λ (f : List ℕ × List ℕ). f.0) in (
  at.0,
  omega (arith, at.1),
  get_or-map (λ (f : List ℕ × List ℕ). f.0) es at.0 e e.0 at.1
      ∙ ap (λ (f : List ℕ × List ℕ). f.0) at.2,
)

module _ (xs ys : Insertions) where
  -- The key of an insertion has one value in both.
  abbrev pub Agrees : List ℕ × List ℕ → Type 0
  Agrees e = HaveOneValue xs ys e.0

  -- where each inserted key has one, each key has
  pub agree : AllByRecursion Agrees xs → AllByRecursion Agrees ys → HaveSameValues xs ys
  agree all_xs all_ys q = go (last_insertion q xs) (last_insertion q ys) refl refl
    where
      at : (es : Insertions) (e : List ℕ × List ℕ) → AllByRecursion Agrees es → last_insertion q es ≡ Some e
          → HaveOneValue xs ys q
      at es e all is =
          let found = last_with-is (λ (f : List ℕ × List ℕ). same_bytes q f.0) es e is in
          subst (HaveOneValue xs ys) (sym (same_text q e.0 (sym found.0)))
          (All-contains Agrees es e (All-from_recursion Agrees es all) found.1)

      go : (o p : Option (List ℕ × List ℕ)) → last_insertion q xs ≡ o → last_insertion q ys ≡ p → HaveOneValue xs ys q
      go (Some e) p is is' = at xs e all_xs is
      go None (Some e) is is' = at ys e all_ys is'
      go None None is is' = ap value_in is ∙ sym (ap value_in is')

module _ (H : List ℕ → List ℕ) (gives : GivesHashes H) (xs ys : Insertions) where
  abbrev Collide : Type 0
  Collide = SomeCollision H (IsPlacedInMaps H xs ys)

  abbrev AgreeOn : List ℕ → Type 0
  AgreeOn q = HaveOneValue xs ys q

  keys_collide : (q : List ℕ) (e : List ℕ × List ℕ) → IsInserted xs ys q → IsInserted xs ys e.0 → q ≢ e.0 → H q ≡ H e.0
      → Collide
  keys_collide q e first second differ same =
      record {
        first = q;
        second = e.0;
        collide = record { differ = differ; same = same };
        placed = inr (first, second);
      }

  on_key : ((bits : List Bool) → length bits ≡ 256 → leaf_at H (map_of H xs) bits ≡ leaf_at H (map_of H ys) bits)
      → (q : List ℕ) → IsInserted xs ys q → AgreeOn q ⊎ Collide
  on_key leaves q inserted = elim (key_value H gives q xs) [
    | inr (e, at, differ, same) ↦ inr (keys_collide q e inserted (inl (is_key xs e at)) differ same)
    | inl first ↦ elim (key_value H gives q ys) [
      | inr (e, at, differ, same) ↦ inr (keys_collide q e inserted (inr (is_key ys e at)) differ same)
      | inl second ↦
          let bits = key_bits H q in
          let v = value_in (last_under H bits xs) in
          let w = value_in (last_under H bits ys) in
          let digests : H (0 ∷ v) ≡ H (0 ∷ w) = plain_leaf_is H xs bits ∙ leaves bits (all_bits H q)
          ∙ sym (plain_leaf_is H ys bits) in
          elim (same_or_not v w) [
            | inl same ↦ inl (first ∙ same ∙ sym second)
            | inr differ ↦ inr (record {
              first = 0 ∷ v;
              second = 0 ∷ w;
              collide = record { differ = λ e. differ (cc); same = digests };
              placed = inl (record {
                prefix = bits;
                levels = 0;
                whole = omega (arith, all_bits H q);
                first_plain = refl;
                second_plain = refl;
              });
            })
          ]
    ]
  ]

  at_branches : (prefix : List Bool) (j : ℕ) → length prefix + suc j ≡ 256
      → IsPlacedInMaps H xs ys (branch_behind H gives j (get (map_of H xs)) prefix)
      (branch_behind H gives j (get (map_of H ys)) prefix)
  at_branches prefix j len = inl
      (record { prefix = prefix; levels = suc j; whole = len; first_plain = refl; second_plain = refl })

  pub maps_collide : sparse_root H 256 (map_of H xs) ≡ sparse_root H 256 (map_of H ys) → ¬ HaveSameValues xs ys
      → Collide
  maps_collide same untrue = elim (trees H gives (IsPlacedInMaps H xs ys) 256 (get (map_of H xs)) (get (map_of H ys))
      (held_len H (sizes gives) xs) (held_len H (sizes gives) ys) same at_branches) [
        | inr collision ↦ collision
        | inl leaves ↦ elim (each xs AgreeOn Collide (λ e at. on_key leaves e.0 (inl (is_key xs e at)))) [
          | inr collision ↦ collision
          | inl all_xs ↦ elim (each ys AgreeOn Collide (λ e at. on_key leaves e.0 (inr (is_key ys e at)))) [
            | inr collision ↦ collision
            | inl all_ys ↦ absurd (untrue (agree xs ys all_xs all_ys))
          ]
        ]
      ]
