-- Two maps of one root at a key whose last value isn't one in both, and a step from one map to another.
use Rattle.std.proofs.Common.{◌≡◌, ℕ, ◌<◌, ◌+◌, get_or, map, inl, inr, List, [], ◌∷◌, ◌++◌, length, Option, Some, None, IfSome, refl, sym, ap, subst, ◌∙◌, arith}
use Rattle.std.specs.List.{All, Contains}
use Rattle.std.specs.Option.{MatchOption}
use Rattle.std.proofs.lemmas.List.{get_or-map, length-append, length-map, map-append}
use Rattle.std.proofs.lemmas.List.Elements.{recursion_from_All}
use Rattle.std.specs.FinMap.{get}
use Rattle.warg_crypto.specs.Collisions.{GivesHashes}
use Rattle.warg_map.specs.Bits.{key_bits}
use Rattle.warg_map.specs.Last.{last_under, same_bits}
use Rattle.warg_map.specs.Peers.{IsBeside}
use Rattle.warg_map.specs.Sparse.{sparse_root, map_of, pair_bytes}
use Rattle.warg_map.proofs.ForCallers.{all_bits, same_bits-true, same_digest}
use Rattle.warg_witness.specs.ChangeClaims.{IsChangeMet, IsUpdate, IsUpdatePlaced}
use Rattle.warg_witness.specs.Findings.{Finds}
use Rattle.warg_witness.specs.MapClaims.{value_in, IsKeyMet, IsLastValue}
use Rattle.warg_witness.specs.MapInputs.{path_input, plain_input_at}
use Rattle.warg_witness.specs.MapPlaced.{IsKeyPlaced, IsPlacedAtPrefix}
use Rattle.warg_witness.specs.MapsPlaced.{Insertions, HaveOneValue, HaveSameValues, IsInserted, IsPlacedInMaps}
use Rattle.warg_witness.specs.Private.Divergence.{Parts, Shows}
use Rattle.warg_witness.specs.Private.MapMeeting.{IsAlike, IsPlacedInStep}
use Rattle.warg_witness.specs.declared.divergence.Divergence.{Divergence}
use Rattle.warg_witness.specs.declared.divergence.Divergence.TheVariants.{Target, Branch}
use Rattle.warg_witness.proofs.AgreementLemmas.{finds_as}
use Rattle.warg_witness.proofs.ClimbLemmas.{parts_placed}
use Rattle.warg_witness.specs.declared.collision.Finding.{Finding}
use Rattle.warg_witness.specs.declared.collision.Finding.TheVariants.{Holds, NotMet, Collision}
use Rattle.warg_witness.proofs.InsertionLemmas.{last_with-is, value_of_digest, pair_at, length-pair_bytes}
use Rattle.warg_witness.proofs.KeyLemmas.{own_root}
use Rattle.warg_witness.proofs.MapPremiseLemmas.{own_input}
use Rattle.warg_witness.proofs.MapLawLemmas.{agree, is_key}

-- an insertion's key, by its place
pub key_is : {K V : Type 0} (kb : K → List ℕ) (vb : V → List ℕ) (es : List (K × V)) (i : ℕ) (e : K × V) → i < length es
    → e ≡ get_or es i e → (get_or (pair_bytes kb vb es) i ([], [])).0 ≡ kb e.0
key_is kb vb es i e less is = ap (λ (f : List ℕ × List ℕ). f.0) (pair_at kb vb es i e less is)

pub key_at : {K V : Type 0} (kb : K → List ℕ) (vb : V → List ℕ) (es : List (K × V)) (i : ℕ) (e : K × V) → i < length es
    → e ≡ get_or es i e → Contains (map (λ (f : List ℕ × List ℕ). f.0) (pair_bytes kb vb es)) (kb e.0)
key_at kb vb es i e less is =
    let pairs = pair_bytes kb vb es in
    let within : i < length pairs = omega (arith, length-pair_bytes kb vb es) in (
      i,
      omega (arith, length-map pairs (λ (f : List ℕ × List ℕ). f.0)),
      get_or-map (λ (f : List ℕ × List ℕ). f.0) pairs i ([], []) (kb e.0) within ∙ key_is kb vb es i e less is,
    )

-- the bytes of one insertion more
pub with_one : {K V : Type 0} (kb : K → List ℕ) (vb : V → List ℕ) (us vs : List (K × V)) (e : K × V) (xs : Insertions)
    → vs ≡ us ++ e ∷ [] → pair_bytes kb vb us ≡ xs → pair_bytes kb vb vs ≡ xs ++ (kb e.0, vb e.1) ∷ []
with_one kb vb us vs e xs is same = rw (is, map-append, same) refl

-- a key that the second insertions have, or none
pub of_both : {X : Type 0} (kb : X → List ℕ) (xs ys : Insertions) (o : Option X) → All (λ e. HaveOneValue xs ys e.0) xs
    → MatchOption o (All (λ e. HaveOneValue xs ys e.0) ys) (λ k. Contains (map (λ e. e.0) ys) (kb k)
    × ¬ HaveOneValue xs ys (kb k))
    → MatchOption o (HaveSameValues xs ys) (λ k. IsInserted xs ys (kb k) × ¬ HaveOneValue xs ys (kb k))
of_both kb xs ys None all is = agree xs ys (recursion_from_All (λ e. HaveOneValue xs ys e.0) xs all)
    (recursion_from_All (λ e. HaveOneValue xs ys e.0) ys is)
of_both kb xs ys (Some k) all is = (inr is.0, is.1)

module _ (H : List ℕ → List ℕ) (xs ys : Insertions) (q : List ℕ) (inserted : IsInserted xs ys q) where
  -- another key with the key's digest
  pub keys_apart : GivesHashes H → (e : List ℕ × List ℕ) → last_under H (key_bits H q) xs ≡ Some e → ¬ (q ≡ e.0)
      → Shows H (IsPlacedInMaps H xs ys) (q, e.0)
  keys_apart digests e under other =
      let found = last_with-is (λ f. same_bits (key_bits H q) (key_bits H f.0)) xs e under in record {
        collides = record {
          differ = other;
          same = same_digest H q e.0 (digests q) (digests e.0)
              (same_bits-true (key_bits H q) (key_bits H e.0) found.0);
        };
        placed = inr (inserted, inl (is_key xs e found.1));
      }

  module _ (same : sparse_root H 256 (map_of H xs) ≡ sparse_root H 256 (map_of H ys)) (apart : ¬ HaveOneValue xs ys q)
      (own : List (Option (List ℕ))) (beside : IsBeside H own (get (map_of H xs)) (key_bits H q)) where
    placed : (o : Option (List ℕ × List ℕ)) → last_under H (key_bits H q) xs ≡ o → (first second : List ℕ)
        → IsKeyPlaced H own (value_in o) q ys first second → IsPlacedInMaps H xs ys first second
    placed o under first second (inl at) =
        let whole : length at.prefix + length at.rest ≡ 256 =
        omega (arith, ap length at.bits, all_bits H q, length-append at.prefix at.rest) in
        let input : path_input H own (value_in o) at.rest ≡ plain_input_at H xs at.prefix (length at.rest) =
        rw (← under) (own_input H own xs (key_bits H q) at.prefix at.rest at.bits beside) in
        inl (record {
          prefix = at.prefix;
          levels = length at.rest;
          whole = whole;
          first_plain = at.evaluation ∙ input;
          second_plain = at.plain;
        })
    placed o under first second (inr keys) = inr (
      subst (IsInserted xs ys) (sym keys.claimed) inserted,
      inr keys.inserted,
    )

    -- what the proof of the one map shows of the other's insertions
    pub found_apart : {D A : _} (o : Option (List ℕ × List ℕ)) → last_under H (key_bits H q) xs ≡ o
        → IfSome o (λ e. q ≡ e.0) → (finding : Finding D A)
        → Finds (IsKeyMet H own q (value_in o) ys) (IsLastValue q (value_in o) ys) (IsKeyPlaced H own (value_in o) q ys)
        finding → Finds Unit ⊥ (IsPlacedInMaps H xs ys) finding
    found_apart o under of_key =
        let first = value_of_digest H q xs o under of_key in
        finds_as (IsKeyPlaced H own (value_in o) q ys) (IsPlacedInMaps H xs ys) (λ _. tt)
        (λ _. own_root H xs q own beside o under ∙ same) (λ is. apart (first ∙ sym is)) (λ no. absurd no)
        (λ _. placed o under)

-- a step that is met
module _ (H : List ℕ → List ℕ) (peers : List (Option (List ℕ))) (key old_value new_value : List ℕ) (xs ys : Insertions)
    (met : IsChangeMet H peers key old_value new_value xs ys) where
  abbrev pub FindsChange : {D A : _} → Finding D A → Type 0
  FindsChange finding = Finds (IsChangeMet H peers key old_value new_value xs ys)
      (IsUpdate key old_value new_value xs ys) (IsUpdatePlaced H peers (old_value, new_value) key (xs, ys)) finding

  -- a lie about the old value
  pub found_before : {D A : _} (finding : Finding D A) → ¬ (finding ≡ Holds) → Finds (IsKeyMet H peers key old_value xs)
      (IsLastValue key old_value xs) (IsKeyPlaced H peers old_value key xs) finding → FindsChange finding
  found_before NotMet lie found = absurd (found met.before)
  found_before Holds lie found = absurd (lie refl)
  found_before (Collision c) lie found = (met, λ is. found.1 is.before, inl found.2)

  -- where the evaluation is the old map's, both maps have one root
  pub step_parts : {D : _} (p : Divergence D) → Parts H (IsPlacedAtPrefix H peers old_value key xs)
      (IsAlike H peers key old_value xs) p
      → Parts H (λ _ _. Unit) (sparse_root H 256 (map_of H (xs ++ (key, new_value) ∷ []))
      ≡ sparse_root H 256 (map_of H ys)) p
  step_parts p parts = parts_placed H p (λ _ _ _. tt) (λ alike. sym (alike.updates new_value) ∙ met.after) parts

  -- what both maps show, where the old value is the key's
  pub found_step : {D A : _} (p : Divergence D) → Parts H (IsPlacedAtPrefix H peers old_value key xs)
      (IsAlike H peers key old_value xs) p → IsLastValue key old_value xs → (finding : Finding D A)
      → Finds Unit (HaveSameValues (xs ++ (key, new_value) ∷ []) ys)
      (IsPlacedInStep H p (xs ++ (key, new_value) ∷ []) ys) finding → FindsChange finding
  found_step p parts before = finds_as (IsPlacedInStep H p (xs ++ (key, new_value) ∷ []) ys)
      (IsUpdatePlaced H peers (old_value, new_value) key (xs, ys)) (λ _. met) (λ _. tt)
      (λ after. record { before = before; after = after }) (λ is. is.after) (λ _. placed p parts)
    where
      placed : {D : _} (p : Divergence D) → Parts H (IsPlacedAtPrefix H peers old_value key xs)
          (IsAlike H peers key old_value xs) p
          → (first second : List ℕ) → IsPlacedInStep H p (xs ++ (key, new_value) ∷ []) ys first second
          → IsUpdatePlaced H peers (old_value, new_value) key (xs, ys) first second
      placed Target parts first second maps = inr maps
      placed (Branch branches) parts first second (inl is) = let Placed : List ℕ × List ℕ
          → Type 0 = λ two. IsPlacedAtPrefix H peers old_value key xs two.0 two.1 in
          inl (inl (subst Placed (sym is) parts.placed))
      placed (Branch branches) parts first second (inr maps) = inr maps
