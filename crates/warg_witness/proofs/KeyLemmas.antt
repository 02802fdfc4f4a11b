-- Two evaluations along one key's bits, the plain sparse tree beside them, and what they show of a key.
use Rattle.std.proofs.Common.{◌≡◌, ℕ, Bool, List, [], ◌∷◌, ◌++◌, length, Option, refl, sym, ap, ◌∙◌, arith, true, false, cond, Some, None, unwrap_or, inl}
use Rattle.warg_crypto.specs.EmptyTrees.{empty_root}
use Rattle.warg_map.specs.ProofValue.{peer_of, proof_value}
use Rattle.warg_crypto.specs.Tree.{input_beside, leaf_digest}
use Rattle.warg_crypto.specs.Bytes.{same_bytes}
use Rattle.std.specs.Option.{MatchOption, option_map, IfSome}
use Rattle.warg_crypto.proofs.ForCallers.{HasSize}
use Rattle.warg_witness.specs.Private.MapMeeting.{OnBits, IsBitDivergence, IsBitClimb, MeetsOnPath, IsAlike, IsKeyMeeting, key_inputs}
use Rattle.warg_witness.specs.Private.Turns.{IsUp}
use Rattle.warg_witness.proofs.ClimbLemmas.{parts_placed, shown, up_parts, up_somewhere, up_sizes}
use Rattle.warg_witness.specs.declared.divergence.Climb.{Climb}
use Rattle.warg_witness.specs.declared.divergence.Divergence.{Divergence}
use Rattle.warg_witness.specs.declared.divergence.Divergence.TheVariants.{Target, Branch}
use Rattle.warg_map.proofs.ForCallers.{last_held, all_bits, same_bits-true, same_digest, beside_root, beside_input, beside_replaced}
use Rattle.std.proofs.lemmas.List.{append-nil, length-map, get_or-map}
use Rattle.std.proofs.lemmas.Slice.Eq.{bytes_eq-Decides}
use Rattle.std.proofs.lemmas.Bool.Decides.{not_from_Decides}
use Rattle.std.specs.FinMap.{get, insert}
use Rattle.warg_map.specs.Sparse.{map_of, sparse_root, leaf_at, SparseMap, inserted}
use Rattle.warg_map.specs.Last.{last_under, same_bits}
use Rattle.warg_map.specs.Peers.{IsBeside}
use Rattle.warg_witness.specs.MapClaims.{value_in, IsLastValue}
use Rattle.warg_map.specs.Bits.{key_bits}
use Rattle.warg_witness.specs.MapPlaced.{IsPlacedAtPrefix, IsKeyPlaced, IsKeyAgreementPlaced}
use Rattle.warg_crypto.specs.Collisions.{GivesHashes}
use Rattle.warg_witness.specs.Private.Divergence.{Parts, Shows, inputs_of, at_bottom}
use Rattle.warg_witness.proofs.InsertionLemmas.{last_with-is, last_of_digest}

module _ (H : List ℕ → List ℕ) (P : List (Option (List ℕ))) (x : List ℕ) (Q : List (Option (List ℕ))) (y : List ℕ) where
  -- both evaluations at the leaf, one bit up, and where both come to one value, they meet
  pub bits_start : {D : Type 0} {climb : Climb D} → climb ≡ at_bottom x y → IsBitClimb H (P, x) (Q, y) [] climb
  unfolding proof_value
  bits_start bottom = rw bottom
      (record { first_is = refl; second_is = refl; diverges = λ same. (same, λ leaf. refl) })

  pub bit_up : {D : Type 0} {b : Bool} (bits : List Bool) {u v : List ℕ} {before after : Climb D}
      → peer_of H P (length bits) ≡ u → peer_of H Q (length bits) ≡ v
      → IsBitClimb H (P, x) (Q, y) bits before → IsUp H b before u v after → IsBitClimb H (P, x) (Q, y) (b ∷ bits) after
  unfolding proof_value
  bit_up {b = b} bits {before = before} at other_at climb step = let up = rw (← at, ← other_at) at step in let
      first = ap (λ d. input_beside b (peer_of H P (length bits)) d) climb.first_is in let second = ap
      (λ d. input_beside b (peer_of H Q (length bits)) d) climb.second_is in record {
        first_is = up.first_is ∙ ap H first;
        second_is = up.second_is ∙ ap H second;
        diverges = up_parts
            (OnBits H (P, x) (Q, y) (b ∷ bits)) ((x ≡ y) × ((leaf : List ℕ) → proof_value H P leaf (b ∷ bits) ≡
            proof_value H Q leaf (b ∷ bits))) up (λ same beside. parts_placed H before.divergence
            (λ _ _ on. record {
              above = b ∷ on.above;
              bit = on.bit;
              below = on.below;
              split = ap (λ q. b ∷ q) on.split;
              first_is = on.first_is;
              second_is = on.second_is;
            }) (grind arith) (climb.diverges same))
            (record { above = []; bit = b; below = bits; split = refl; first_is = first; second_is = second });
      }

  pub bits_climbed : {D : Type 0} → HasSize H → length x ≡ length y → (bits : List Bool)
      → (climb : Climb D) × IsBitClimb H (P, x) (Q, y) bits climb × (length climb.first ≡ length climb.second)
  bits_climbed gives size [] = (at_bottom x y, bits_start refl, size)
  bits_climbed gives size (b ∷ bits) =
      let below = bits_climbed gives size bits in
      let step = up_somewhere {H = H} b below.0 (peer_of H P (length bits)) (peer_of H Q (length bits)) below.2 in
      (step.0, bit_up bits refl refl below.1 step.1, up_sizes gives step.1)

  pub keys_met : {D : Type 0} (bits : List Bool) {top : Climb D}
      → IsBitClimb H (P, x) (Q, y) bits top → (met : Option (Divergence D))
      → MatchOption met (¬ (top.first ≡ top.second)) (λ q. (top.first ≡ top.second) × (q ≡ top.divergence))
      → MatchOption met (proof_value H P x bits ≡ proof_value H Q y bits → ⊥) (MeetsOnPath H (P, x) (Q, y) bits)
  keys_met bits climb None apart = λ same. apart (climb.first_is ∙ same ∙ sym climb.second_is)
  keys_met bits climb (Some q) is = rw is.1
      (record { met = sym climb.first_is ∙ is.0 ∙ climb.second_is; diverges = climb.diverges is.0 })

leaf_is : (H : List ℕ → List ℕ) (o : Option (List ℕ × List ℕ)) → leaf_digest H (value_in o)
    ≡ unwrap_or (option_map (λ e. leaf_digest H e.1) o) (empty_root H 0)
unfolding empty_root
leaf_is H None = refl
leaf_is H (Some e) = refl

-- the leaf digest under bits, by what is held there
pub plain_leaf_is : (H : List ℕ → List ℕ) (insertions : List (List ℕ × List ℕ)) (bits : List Bool)
    → leaf_digest H (value_in (last_under H bits insertions)) ≡ leaf_at H (map_of H insertions) bits
plain_leaf_is H insertions bits = leaf_is H (last_under H bits insertions) ∙ ap (λ o. unwrap_or o (empty_root H 0))
    (sym (last_held H bits insertions))

-- one insertion more
pub inserted_push : (H : List ℕ → List ℕ) (m : SparseMap) (es : List (List ℕ × List ℕ)) (key value : List ℕ)
    → inserted H m (es ++ (key, value) ∷ []) ≡ insert (inserted H m es) (key_bits H key) (leaf_digest H value)
unfolding inserted
inserted_push H m [] key value = refl
inserted_push H m (e ∷ es) key value = inserted_push H (insert m (key_bits H e.0) (leaf_digest H e.1)) es key value

-- what stands beside a key's path in the tree over insertions
module _ (H : List ℕ → List ℕ) (insertions : List (List ℕ × List ℕ)) (key : List ℕ) (own : List (Option (List ℕ)))
    (beside : IsBeside H own (get (map_of H insertions)) (key_bits H key)) where
  -- leads from a value to the plain root with the value inserted too
  pub own_grown_root : (value : List ℕ) → proof_value H own (leaf_digest H value) (key_bits H key)
      ≡ sparse_root H 256 (map_of H (insertions ++ (key, value) ∷ []))
  own_grown_root value = rw inserted_push (beside_replaced H (map_of H insertions) (key_bits H key) own _
      (all_bits H key) beside)

  module _ (last : Option (List ℕ × List ℕ)) (last_is : last_under H (key_bits H key) insertions ≡ last) where
    -- and from the last value to the plain root
    pub own_root : proof_value H own (leaf_digest H (value_in last)) (key_bits H key)
        ≡ sparse_root H 256 (map_of H insertions)
    own_root = grind (arith, plain_leaf_is, beside_root, all_bits)

    placed_on : (peers : List (Option (List ℕ))) (value l r : List ℕ) → OnBits H (peers, leaf_digest H value)
        (own, leaf_digest H (value_in last)) (key_bits H key) l r → IsPlacedAtPrefix H peers value key insertions l r
    placed_on peers value l r on = grind (arith, plain_leaf_is, beside_input)

    -- and where an evaluation meets it, it meets the plain tree
    pub own_met : {D : Type 0} (peers : List (Option (List ℕ))) (value : List ℕ) (p : Divergence D)
        → MeetsOnPath H (peers, leaf_digest H value) (own, leaf_digest H (value_in last)) (key_bits H key) p
        → IsKeyMeeting H peers key value insertions p own
    own_met peers value p meets = grind (arith, own_root, parts_placed, placed_on, own_grown_root)

-- two proofs of a key with other values: what both take at a turn, or at the leaf
module _ (H : List ℕ → List ℕ) (key : List ℕ) (P : List (Option (List ℕ))) (v : List ℕ) (Q : List (Option (List ℕ)))
    (u : List ℕ) where
  pub key_agreement_shown : {D : Type 0} (p : Divergence D)
      → IsBitDivergence H (P, H (0 ∷ v)) (Q, H (0 ∷ u)) (key_bits H key) p
      → (v ≡ u → ⊥) → Shows H (IsKeyAgreementPlaced H key (P, v) (Q, u)) (inputs_of p (0 ∷ v) (0 ∷ u))
  key_agreement_shown p diverges other = grind (arith, shown, append-nil (key_bits H key))

module _ (H : List ℕ → List ℕ) (peers : List (Option (List ℕ))) (key value : List ℕ)
    (insertions : List (List ℕ × List ℕ)) where
  -- What a pair of a false claim shows.
  abbrev pub ShowsKey : List ℕ × List ℕ → Type 0
  ShowsKey = Shows H (IsKeyPlaced H peers value key insertions)

  -- a leaf of another value
  leaf_shown : (last : List ℕ) → IsAlike H peers key value insertions
      → last ≡ value_in (last_under H (key_bits H key) insertions) → (value ≡ last → ⊥) → ShowsKey (0 ∷ value, 0 ∷ last)
  leaf_shown last alike is other = grind (arith, append-nil (key_bits H key))

  module _ (untrue : IsLastValue key value insertions → ⊥) where
    -- where the last insertion under the key's digest is of this key, or there is none, it has another value
    pub last_differs : (o : Option (List ℕ × List ℕ)) → last_under H (key_bits H key) insertions ≡ o
        → IfSome o (λ e. key ≡ e.0) → value ≡ value_in o → ⊥
    last_differs o last same is = untrue (ap value_in (last_of_digest H key insertions (rw last same) ∙ last) ∙ sym is)

    -- where it has the value, it is of another key
    pub keys_shown : (e : List ℕ × List ℕ) → GivesHashes H → last_under H (key_bits H key) insertions ≡ Some e
        → value ≡ e.1 → ShowsKey (key, e.0)
    keys_shown e digests last same =
        let (passes, (place, less, at)) = last_with-is (λ f. same_bits (key_bits H key) (key_bits H f.0)) insertions
        e last in
        let count = length-map insertions (λ (f : List ℕ × List ℕ). f.0) in
        record {
          collides = record {
            differ = λ is. last_differs (Some e) last is same;
            same = same_digest H key e.0
                (digests key) (digests e.0) (same_bits-true (key_bits H key) (key_bits H e.0) passes);
          };
          placed = grind
              (arith, get_or-map);
        }

    -- a false claim that is met shows a pair
    pub key_shown : {D : Type 0} (p : Divergence D) (o : Option (List ℕ × List ℕ)) → GivesHashes H
        → last_under H (key_bits H key) insertions ≡ o
        → Parts H (IsPlacedAtPrefix H peers value key insertions) (IsAlike H peers key value insertions) p
        → ShowsKey (key_inputs p o key value)
    key_shown (Branch branches) o digests last is = record { collides = is.collides; placed = inl is.placed }
    key_shown Target None digests last is = leaf_shown [] is (ap value_in (sym last)) (last_differs None last tt)
    key_shown Target (Some e) digests last is = of_value (same_bytes value e.1) refl
      where
        of_value : (same : Bool) → same_bytes value e.1 ≡ same → ShowsKey (cond same (key, e.0) (0 ∷ value, 0 ∷ e.1))
        of_value true t = keys_shown e digests last ((bytes_eq-Decides value e.1).0 t)
        of_value false f = leaf_shown e.1 is (ap value_in (sym last))
            (not_from_Decides _ (bytes_eq-Decides value e.1) f)

pub ruleset same_values = (bytes_eq-Decides)
