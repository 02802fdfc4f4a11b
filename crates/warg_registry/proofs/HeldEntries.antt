-- The last insertion under a key, by its place and by its value.
use Rattle.std.proofs.Common.{◌≡◌, ℕ, suc, ◌+◌, ◌<◌, ◌^◌, ◌++◌, Bool, true, false, List, [], ◌∷◌, length, Some, None, refl, sym, ap, ◌∙◌, ◌⊎◌, inl, inr, arith}
use Rattle.std.specs.Prelude.{slice_get}
use Rattle.std.specs.Option.{option_map}
use Rattle.std.specs.FinMap.{get}
use Rattle.std.proofs.lemmas.Bool.{cases_Bool}
use Rattle.std.proofs.lemmas.Option.{slice_get-map, slice_get_within}
use Rattle.std.proofs.lemmas.List.{length-append}
use Rattle.std.proofs.Math.Dec.{eqb-suc-zero}
use Rattle.warg_crypto.specs.Tree.{leaf_digest}
use Rattle.warg_map.specs.Bits.{key_bits}
use Rattle.warg_map.specs.Sparse.{map_of}
use Rattle.warg_map.specs.Last.{last_with, last_under, same_bits}
use Rattle.warg_map.proofs.ForCallers.{all_bits, last_held, same_bits-true}
use Rattle.warg_pages.specs.Prefixes.{begins, is_below, last_place, version}
use Rattle.warg_crypto.specs.Framed.{framed_part}
use Rattle.warg_registry.specs.Insertions.{entry_of, entries_of, IsInsertion}
use Rattle.warg_registry.proofs.Entries.{one_insertion}

-- Bits that begin with as many bits are these.
pub begins_all : (p q : List Bool) → length p ≡ length q → begins p q ≡ same_bits p q
begins_all [] [] e = refl
begins_all [] (c ∷ q) e = let no : 0 ≡ length (c ∷ q) = e in absurd (omega arith)
begins_all (b ∷ p) [] e = let no : length (b ∷ p) ≡ 0 = e in absurd (omega arith)
begins_all (true ∷ p) (true ∷ q) e = begins_all p q (omega (arith, e))
begins_all (true ∷ p) (false ∷ q) e = refl
begins_all (false ∷ p) (true ∷ q) e = refl
begins_all (false ∷ p) (false ∷ q) e = begins_all p q (omega (arith, e))

-- No element passes a test, or the last one that does stands at its place.
pub lasts : {X : Type 0} (p q : X → Bool) → ((x : X) → p x ≡ q x) → (xs : List X)
    → ((last_place p xs ≡ 0) × (last_with q xs ≡ None))
    ⊎ ((i : ℕ) × (x : X) × (last_place p xs ≡ suc i) × (last_with q xs ≡ Some x) × (slice_get xs i ≡ Some x)
    × (q x ≡ true))
unfolding last_place last_with
lasts p q same [] = inl (refl, refl)
lasts p q same (x ∷ xs) = elim (lasts p q same xs) [
  | inr h ↦ inr (suc h.0, h.1, rw h.2 (rw (eqb-suc-zero h.0) refl), rw h.3 refl, h.4, h.5)
  | inl h ↦ elim (cases_Bool (q x)) [
    | inl t ↦ inr (0, x, rw (h.0, same x, t) refl, rw (h.1, t) refl, refl, t)
    | inr f ↦ inl (rw (h.0, same x, f) refl, rw (h.1, f) refl)
  ]
]

-- An entry of fewer than 2^64 bytes is of a key and a value whose lengths 8 bytes can say.
pub small_insertion : (key value entry : List ℕ) → length entry < 2 ^ 64 → entry ≡ entry_of (key, value)
    → IsInsertion (key, value)
small_insertion key value entry small is =
    let size = ap length is in
    let left = length-append key (framed_part value ++ []) in
    let right = length-append value [] in
    (omega (arith, size, left, right, small), omega (arith, size, left, right, small))

-- Of a key that is held with this leaf digest, at this index:
module _ (H : List ℕ → List ℕ) (insertions : List (List ℕ × List ℕ)) (key leaf : List ℕ) (index : ℕ)
    (at : index + 1 ≡ version H insertions (key_bits H key))
    (held : get (map_of H insertions) (key_bits H key) ≡ Some leaf) where
  -- the entry there is that of the last insertion under the key's digest,
  pub last_entry : (e : List ℕ × List ℕ) × (last_under H (key_bits H key) insertions ≡ Some e)
      × (slice_get (entries_of insertions) index ≡ Some (entry_of e)) × (key_bits H e.0 ≡ key_bits H key)
      × (leaf_digest H e.1 ≡ leaf)
  last_entry =
      let bits = key_bits H key in
      let same = λ (e : List ℕ × List ℕ). begins_all bits (key_bits H e.0) (all_bits H key ∙ sym (all_bits H e.0)) in
      elim (lasts (is_below H bits) (λ e. same_bits bits (key_bits H e.0)) same insertions) [
        | inl h ↦ absurd (omega (arith, at, h.0))
        | inr h ↦
            let place : index ≡ h.0 = omega (arith, at, h.2) in
            let there : slice_get (entries_of insertions) index ≡ Some (entry_of h.1) =
            rw place (slice_get-map entry_of insertions h.0 ∙ ap (option_map entry_of) h.4) in
            let last : Some (leaf_digest H h.1.1) ≡ get (map_of H insertions) bits =
            ap (option_map (λ e. leaf_digest H e.1)) (sym h.3) ∙ sym (last_held H bits insertions) in
            let leaves : Some (leaf_digest H h.1.1) ≡ Some leaf = last ∙ held in
            (h.1, h.3, there, sym (same_bits-true bits (key_bits H h.1.0) h.5), cc)
      ]

  pub held_entry : (e : List ℕ × List ℕ) × (slice_get (entries_of insertions) index ≡ Some (entry_of e))
      × (key_bits H e.0 ≡ key_bits H key) × (leaf_digest H e.1 ≡ leaf)
  held_entry = (last_entry.0, last_entry.2, last_entry.3, last_entry.4)

  pub own_entry : (value : List ℕ) → last_under H (key_bits H key) insertions ≡ Some (key, value)
      → (slice_get (entries_of insertions) index ≡ Some (entry_of (key, value))) × (leaf_digest H value ≡ leaf)
  own_entry value own =
      let both : Some last_entry.0 ≡ Some (key, value) = sym last_entry.1 ∙ own in
      let same : last_entry.0 ≡ (key, value) = cc in
      (last_entry.2 ∙ ap (λ e. Some (entry_of e)) same, ap (λ e. leaf_digest H e.1) (sym same) ∙ last_entry.4)

  -- and that insertion is of the key itself, if this entry is,
  pub own_value : (value entry : List ℕ) → length entry < 2 ^ 64 → slice_get (entries_of insertions) index ≡ Some entry
      → entry ≡ entry_of (key, value) → last_under H (key_bits H key) insertions ≡ Some (key, value)
  own_value value entry small there is =
      let both : Some entry ≡ Some (entry_of last_entry.0) = sym there ∙ last_entry.2 in
      let same : entry ≡ entry_of last_entry.0 = cc in
      last_entry.1 ∙ ap (λ (e : List ℕ × List ℕ). Some e)
      (sym (one_insertion (key, value) last_entry.0 (small_insertion key value entry small is) (sym is ∙ same)))

  -- as this entry is, if that insertion is.
  pub entry_of_key : (entry : List ℕ) → length entry < 2 ^ 64 → slice_get (entries_of insertions) index ≡ Some entry
      → ((e : List ℕ × List ℕ) → last_under H (key_bits H key) insertions ≡ Some e → e.0 ≡ key)
      → (value : List ℕ) × IsInsertion (key, value) × (entry ≡ entry_of (key, value)) × (leaf_digest H value ≡ leaf)
  entry_of_key entry small there own =
      let value = last_entry.0.1 in
      let both : Some entry ≡ Some (entry_of last_entry.0) = sym there ∙ last_entry.2 in
      let same : entry ≡ entry_of last_entry.0 = cc in
      let is : entry ≡ entry_of (key, value) =
      same ∙ ap (λ (k : List ℕ). entry_of (k, value)) (own last_entry.0 last_entry.1) in
      (value, small_insertion key value entry small is, is, last_entry.4)

  -- There is an entry at its index.
  pub held_within : index < length (entries_of insertions)
  held_within = slice_get_within (entries_of insertions) index (entry_of last_entry.0) last_entry.2
