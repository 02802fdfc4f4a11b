-- The value of a proof, from the top.
use Rattle.std.proofs.Common.{◌≡◌, ℕ, suc, ◌+◌, ◌-◌, ◌<◌, ◌≤◌, Bool, List, [], ◌∷◌, length, get_or, Option, None, refl, sym, ap, ◌∙◌, arith, inl, inr, unwrap_or}
use Rattle.std.proofs.lemmas.Bool.{cond-true, cond-false, cases_lt, lt-ltb, le-ltb}
use Rattle.std.specs.Prelude.{reverse}
use Rattle.std.proofs.lemmas.List.{get_or_past, length-reverse, get_or-reverse}
use Rattle.warg_crypto.specs.EmptyTrees.{empty_root}
use Rattle.warg_map.specs.ProofValue.{peer_of, proof_value}
use Rattle.warg_pages.specs.Private.Descents.{value_above}

-- peers that are missing
missing_peer : (H : List ℕ → List ℕ) (ps : List (Option (List ℕ))) (i : ℕ) → i < 256 - length ps
    → peer_of H ps i ≡ empty_root H i
missing_peer H ps i lt = cond-true _ _ _ (lt-ltb i _ lt)

there_peer : (H : List ℕ → List ℕ) (ps : List (Option (List ℕ))) (i : ℕ) → 256 - length ps ≤ i
    → peer_of H ps i ≡ unwrap_or (get_or ps (i - (256 - length ps)) None) (empty_root H i)
there_peer H ps i le = cond-false _ _ _ (le-ltb i _ le)

-- The peers of the heights below those of bits are these, from the top.
abbrev AreBelow : (List ℕ → List ℕ) → List (Option (List ℕ)) → List (Option (List ℕ)) → ℕ → Type 0
AreBelow H ps os n = (i : ℕ) → i < n → peer_of H ps i ≡ unwrap_or (get_or os (n - 1 - i) None) (empty_root H i)

value_from_top : (H : List ℕ → List ℕ) (ps os : List (Option (List ℕ))) (x : List ℕ) (bits : List Bool)
    → AreBelow H ps os (length bits) → proof_value H ps x bits ≡ value_above H 0 os x bits
unfolding proof_value value_above
value_from_top H ps os x [] h = refl
value_from_top H ps [] x (b ∷ bits) h =
    let zero_more : length bits + 0 ≡ length bits = omega arith in
    rw (h (length bits) (omega arith), value_from_top H ps [] x bits (λ i lt. h i (omega arith)), zero_more) refl
value_from_top H ps (o ∷ os) x (b ∷ bits) h =
    let zero_more : length bits + 0 ≡ length bits = omega arith in
    let first : suc (length bits) - 1 - length bits ≡ 0 = omega arith in
    rw (h (length bits) (omega arith), first, value_from_top H ps os x bits (λ i lt. rest i lt), zero_more) refl
  where
    rest : (i : ℕ) → i < length bits → peer_of H ps i ≡ unwrap_or (get_or os (length bits - 1 - i) None)
        (empty_root H i)
    rest i lt = let at : suc (length bits) - 1 - i ≡ suc (length bits - 1 - i) = omega arith in
        rw at at (h i (omega arith))

-- a proof's peers run from the bottom
pub reversed_value : (H : List ℕ → List ℕ) (os : List (Option (List ℕ))) (x : List ℕ) (bits : List Bool)
    → length bits ≡ 256 → length os ≤ 256 → proof_value H (reverse os) x bits ≡ value_above H 0 os x bits
reversed_value H os x bits n few = value_from_top H _ os x bits (λ i lt. at i (omega arith))
  where
    at : (i : ℕ) → i < 256 → peer_of H (reverse os) i ≡ unwrap_or (get_or os (length bits - 1 - i) None)
        (empty_root H i)
    at i lt = elim (cases_lt i (256 - length os)) [
      | inl low ↦ (
          let size = length-reverse os in
          let past = get_or_past os _ None (omega arith) in
          missing_peer H _ i (omega arith) ∙ sym (ap (λ t. unwrap_or t (empty_root H i)) past))
      | inr high ↦ (
          let size = length-reverse os in
          let place : i - (256 - length (reverse os)) < length os = omega arith in
          let there = get_or-reverse os (i - (256 - length (reverse os))) None place in
          let same : length os - 1 - (i - (256 - length (reverse os))) ≡ length bits - 1 - i = omega arith in
          there_peer H (reverse os) i (omega arith) ∙ ap (λ t. unwrap_or t (empty_root H i))
          (there ∙ ap (λ j. get_or os j None) same))
    ]
