-- How many peers a proof has.
use Rattle.std.proofs.Common.{◌≡◌, ℕ, zero, suc, ◌+◌, ◌<◌, Bool, true, false, not, List, [], ◌∷◌, ◌++◌, length, Option, Some, None, is_some, refl, sym, ap, ◌∙◌, arith, inl, inr, ◌⊎◌, append_assoc, length-append}
use Rattle.std.proofs.lemmas.List.{append-nil}
use Rattle.std.specs.Prelude.{replicate}
use Rattle.std.specs.FinMap.{get}
use Rattle.warg_map.specs.Sparse.{SparseMap}
use Rattle.warg_map.specs.Peers.{shared, IsPeer, IsPeers, IsPeerCount}
use Rattle.std.proofs.lemmas.Bool.{cases_Bool}
use Rattle.warg_map.specs.Last.{same_bits}
use Rattle.warg_map.proofs.ForCallers.{same_bits-true, same_bits-itself}
use Rattle.warg_pages.specs.Private.Descents.{value_above}
use Rattle.warg_pages.specs.Private.Finals.{EndsInSome}
use Rattle.warg_pages.proofs.ValuesAbove.{value_above-None, tails}

-- who else is held shares fewer bits than there are peers
pub count_above : (H : List ℕ → List ℕ) (held : List Bool → Option (List ℕ)) (bits : List Bool)
    (os : List (Option (List ℕ))) → IsPeers H (λ k. None) held bits os → (q : List Bool) → is_some (held q) ≡ true
    → ¬ (q ≡ bits) → shared bits q < length os
unfolding IsPeers
count_above H held bits [] h q some n = absurd (let none = h q n in cc)
count_above H held [] _ h q some n = absurd h
count_above H held _ (o ∷ os) h [] some n = omega arith
count_above H held (true ∷ bits) (o ∷ os) h (true ∷ q) some n = let less =
    count_above H (λ r. held (true ∷ r)) bits os h.1 q some (λ e. n (ap (λ t. true ∷ t) e)) in omega arith
count_above H held (true ∷ bits) (o ∷ os) h _ some n = omega arith
count_above H held _ (o ∷ os) h (true ∷ q) some n = omega arith
count_above H held (false ∷ bits) (o ∷ os) h (false ∷ q) some n = let less =
    count_above H (λ r. held _) bits os h.1 q some (λ e. n (ap (λ t. false ∷ t) e)) in omega arith

-- the last peer is that of a key
abbrev Reached : (List Bool → Option (List ℕ)) → List Bool → ℕ → Type 0
Reached held bits n = (q : List Bool) × (is_some (held q) ≡ true) × ¬ (q ≡ bits) × (n ≡ shared bits q)

other_half : (H : List ℕ → List ℕ) (k : ℕ) (held : List Bool → Option (List ℕ)) (y : List ℕ)
    → IsPeer H None k held (Some y) → (q : List Bool) × (is_some (held q) ≡ true)
other_half H k held y (inl none) = absurd cc
other_half H k held y (inr some) = (some.1.0, some.1.1)

further : (held : List Bool → Option (List ℕ)) (b : Bool) (bits : List Bool) (n : ℕ)
    → Reached (λ q. held (b ∷ q)) bits n → Reached held (b ∷ bits) (suc n)
further held true bits n r = (true ∷ r.0, r.1, λ e. r.2 (tails true e), ap suc r.3)
further held false bits n r = (false ∷ r.0, r.1, λ e. r.2 (tails false e), ap suc r.3)

parts : (held : List Bool → Option (List ℕ)) (b : Bool) (bits : List Bool) → (q : List Bool)
    × (is_some (held (not b ∷ q)) ≡ true) → Reached held (b ∷ bits) 0
parts held true bits r = (false ∷ r.0, r.1, λ e. cc e, refl)
parts held false bits r = (true ∷ r.0, r.1, λ e. cc e, refl)

pub count_reached : (H : List ℕ → List ℕ) (held : List Bool → Option (List ℕ)) (bits : List Bool)
    (os : List (Option (List ℕ))) (y : List ℕ) → IsPeers H (λ k. None) held bits (os ++ Some y ∷ [])
    → Reached held bits (length os)
unfolding IsPeers
count_reached H held [] [] y h = absurd h
count_reached H held (b ∷ bits) [] y h = parts held b bits (other_half H _ (λ q. held _) y h.0)
count_reached H held [] _ y h = absurd h
count_reached H held (b ∷ bits) (o ∷ os) y h = further held b bits _ (count_reached H (λ q. held _) bits os y h.1)

-- an empty half at the bottom isn't counted
abbrev Short : (List Bool → Option (List ℕ)) → ℕ → Type 0
Short held n = (q : List Bool) → ¬ (length q ≡ n) → held q ≡ None

empty_half : (H : List ℕ → List ℕ) (k : ℕ) (held : List Bool → Option (List ℕ)) → IsPeer H None k held None
    → (q : List Bool) → held q ≡ None
empty_half H k held (inl none) = none.1
empty_half H k held (inr some) = absurd cc

alone : (held : List Bool → Option (List ℕ)) (b : Bool) (bits : List Bool) → Short held (suc (length bits))
    → ((q : List Bool) → held (not b ∷ q) ≡ None) → ((q : List Bool) → ¬ (q ≡ bits) → held (b ∷ q) ≡ None)
    → (q : List Bool) → ¬ (q ≡ b ∷ bits) → held q ≡ None
alone held b bits short other same [] n = short [] (λ e. omega arith)
alone held true bits short other same (true ∷ q) n = same q (λ e. n (ap (λ t. true ∷ t) e))
alone held true bits short other same (false ∷ q) n = other q
alone held false bits short other same (true ∷ q) n = other q
alone held false bits short other same (false ∷ q) n = same q (λ e. n (ap (λ t. false ∷ t) e))

without_last : (H : List ℕ → List ℕ) (held : List Bool → Option (List ℕ)) (bits : List Bool)
    (os : List (Option (List ℕ))) → Short held (length bits) → IsPeers H (λ k. None) held bits (os ++ None ∷ [])
    → IsPeers H (λ k. None) held bits os
unfolding IsPeers
without_last H held [] [] short h = absurd h
without_last H held (b ∷ bits) [] short h = alone held b bits short (empty_half H _ (λ q. held _) h.0) h.1
without_last H held [] _ short h = absurd h
without_last H held (b ∷ bits) (o ∷ os) short h =
    (h.0, without_last H (λ q. held _) bits os (λ q n. short _ (λ e. n (omega arith))) h.1)

pub replicate-last : (os : List (Option (List ℕ))) (n : ℕ) → os ++ replicate (suc n) None
    ≡ (os ++ None ∷ []) ++ replicate n None
replicate-last os n = sym (append_assoc os _ _)

pub trimmed_peers : (H : List ℕ → List ℕ) (held : List Bool → Option (List ℕ)) (bits : List Bool)
    (os : List (Option (List ℕ))) (n : ℕ) → Short held (length bits)
    → IsPeers H (λ k. None) held bits (os ++ replicate n None) → IsPeers H (λ k. None) held bits os
trimmed_peers H held bits os zero short h = rw (append-nil os) at h
trimmed_peers H held bits os (suc n) short h = without_last H held bits os short
    (trimmed_peers H held bits _ n short (rw (replicate-last os n) at h))

pub trimmed_value : (H : List ℕ → List ℕ) (x : List ℕ) (bits : List Bool) (os : List (Option (List ℕ))) (n : ℕ)
    → value_above H 0 (os ++ replicate n None) x bits ≡ value_above H 0 os x bits
trimmed_value H x bits os zero = ap (λ t. value_above H 0 t x bits) (append-nil os)
trimmed_value H x bits os (suc n) = rw (replicate-last os n)
    (trimmed_value H x bits _ n ∙ value_above-None H 0 os x bits)

pub some_count : (H : List ℕ → List ℕ) (m : SparseMap) (bits : List Bool) (os : List (Option (List ℕ))) (lone : ℕ)
    → IsPeers H (λ k. None) (get m) bits os → EndsInSome os → IsPeerCount lone m bits (length os)
some_count H m bits os lone h ends =
    let reached = count_reached H _ bits ends.0 ends.1 (rw ends.2 at h) in
    let size : length os ≡ shared bits reached.0 + 1 = rw ends.2 (length-append ends.0 _
    ∙ ap (λ n. n + 1) reached.3) in
    record {
      above = λ q some n. count_above H _ bits os h q some n;
      reached = inr (reached.0, reached.1, reached.2, size);
    }

same_or_other : (q bits : List Bool) → (q ≡ bits) ⊎ ¬ (q ≡ bits)
same_or_other q bits = elim (cases_Bool (same_bits q bits)) [
  | inl t ↦ inl (same_bits-true q bits t)
  | inr f ↦ inr (λ e. let t : same_bits q bits ≡ true = rw (sym e) (same_bits-itself q) in cc)
]

pub no_count : (H : List ℕ → List ℕ) (m : SparseMap) (bits : List Bool) (n : ℕ) → IsPeers H (λ k. None) (get m) bits []
    → IsPeerCount n m bits n
unfolding IsPeers
no_count H m bits n h = record {
  above = λ q some other. absurd (none q some other);
  reached = inl (refl, λ q some. same q some);
}
  where
    none : (q : List Bool) → is_some (get m q) ≡ true → ¬ (q ≡ bits) → ⊥
    none q some other = let no : is_some (get m q) ≡ false = ap is_some (h q other) in cc

    same : (q : List Bool) → is_some (get m q) ≡ true → q ≡ bits
    same q some = elim (same_or_other q bits) [ inl e ↦ e | inr n ↦ absurd (none q some n) ]
