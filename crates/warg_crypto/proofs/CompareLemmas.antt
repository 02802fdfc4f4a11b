-- Pieces that stand in bytes.
use Rattle.std.proofs.Common.{◌≡◌, ◌↔◌, ℕ, zero, suc, ◌+◌, ◌-◌, List, [], ◌∷◌, ◌++◌, length, take, drop, min, Bool, IsTrue, true, ◌==◌, Option, IfSome, refl, arith}
use Rattle.std.proofs.lemmas.List.{drop-drop, drop_min, take_min, append_assoc, append-nil, nil_from_length}
use Rattle.std.proofs.Math.Seq.{take-append_seam, drop-append_seam, drop-nil, take-nil}
use Rattle.std.proofs.lemmas.Bool.Decides.{eqb_tells}
use Rattle.std.specs.Option.{SomeIff}
use Rattle.warg_crypto.specs.Private.Compared.{StandsAt, IsFound, IsFront}

-- what is left after some bytes are passed
drop_append : (n : ℕ) (xs ys : List ℕ) → drop n (xs ++ ys) ≡ drop n xs ++ drop (n - length xs) ys
drop_append n [] ys = let all : n - 0 ≡ n = omega arith in rw (drop-nil n, all) refl
drop_append zero (x ∷ xs) ys = grind arith
drop_append (suc n) (x ∷ xs) ys = grind (arith, drop_append n xs ys)

-- a piece stands at the front of two parts where it goes as far as the first, and its rest stands in the second
over_seam : (r f x : List ℕ) → StandsAt 0 r (f ++ x) ↔ ((take (length f) r ≡ take (length r) f)
    × StandsAt 0 (drop (length f) r) x)
over_seam (a ∷ r) (b ∷ f) x = grind (arith, over_seam r f x)
over_seam (a ∷ r) [] x = (λ e. (refl, e), λ h. h.1)
over_seam [] [] x = (λ _. (refl, refl), λ _. refl)
over_seam [] (b ∷ f) x = (λ _. (refl, refl), λ _. refl)

-- a front stands where its parts stand, one behind the other
both_stand : (p more d : List ℕ) → StandsAt 0 (p ++ more) d ↔ (StandsAt 0 p d × StandsAt 0 more (drop (length p) d))
both_stand [] more d = (λ e. (refl, e), λ h. h.1)
both_stand (a ∷ p) more [] = grind arith
both_stand (a ∷ p) more (b ∷ d) = grind (arith, both_stand p more d)

-- a visit's step, and a whole visit, whatever comes next
pub step_visited : (X : List ℕ → Type 0) (m b more : List ℕ) {same same' : Bool} {P S T : Type 0}
    → (IsTrue same × T) ↔ X (m ++ (b ++ more)) → T ↔ (P × S) → IsTrue same' ↔ (IsTrue same × P)
    → (IsTrue same' × S) ↔ X (m ++ b ++ more)
step_visited X m b more before parts step = rw (append_assoc m b more) (grind arith)

whole_visited : (X : List ℕ → Type 0) (m bytes : List ℕ) {same : Bool} (S T : List ℕ → Type 0)
    → ((more : List ℕ) → X (m ++ more) ≡ T more)
    → ((m : List ℕ) → ((more : List ℕ) → (IsTrue true × T more) ↔ X (m ++ more)) → (more : List ℕ)
    → (IsTrue same × S more) ↔ X (m ++ bytes ++ more)) → (IsTrue same × S []) ↔ T bytes
whole_visited X m bytes S T is visited = rw (append-nil (m ++ bytes), is bytes) at
    (visited m (λ more. rw (is more) (λ both. both.1, λ there. (refl, there))) [])

-- the search for a piece
pub window_step : (b rest fresh tail more : List ℕ) (skip k count : ℕ) → k ≡ min skip (length b) → fresh ≡ drop k b
    → count ≡ min (length fresh) (length rest) → tail ≡ drop count rest
    → StandsAt skip rest (b ++ more) ↔ ((take count rest ≡ take count fresh) × StandsAt (skip - k) tail more)
window_step b rest fresh tail more skip k count k_is fresh_is count_is tail_is =
    grind (
      arith,
      drop_append skip b more,
      drop_min skip b,
      take_min (length fresh) rest,
      take_min (length rest) fresh,
      drop_min (length fresh) rest,
      over_seam rest fresh (drop (skip - k) more),
    )

pub visit_finds : (place : ℕ) (piece bytes rest : List ℕ) (skip : ℕ) (same : Bool)
    → ((m : List ℕ) → ((more : List ℕ) → (IsTrue true × StandsAt place piece more) ↔ IsFound (m ++ more))
    → (more : List ℕ) → (IsTrue same × StandsAt skip rest more) ↔ IsFound (m ++ bytes ++ more))
    → (IsTrue same × IsTrue (length rest == 0)) ↔ StandsAt place piece bytes
visit_finds place piece bytes rest skip same visited =
    let found : (more : List ℕ) → IsFound (place ∷ length piece ∷ (piece ++ more)) ≡ StandsAt place piece more =
    λ more. rw (take-append_seam piece more, drop-append_seam piece more) refl in
    let end = whole_visited IsFound (place ∷ length piece ∷ piece) bytes (StandsAt skip rest)
    (StandsAt place piece) found visited in
    grind (arith, drop-nil, take-nil, nil_from_length, eqb_tells)

-- the look at a front
pub front_step : (b more o : List ℕ) (count next : ℕ) → next ≡ count + length b
    → StandsAt count (b ++ more) o ↔ (StandsAt count b o × StandsAt next more o)
front_step b more o count next is = grind (arith, drop-drop (length b) count o, both_stand b more (drop count o))

pub visit_fronts : (front o after : List ℕ) (count : ℕ) (same : Bool)
    → ((m : List ℕ) → ((more : List ℕ) → (IsTrue true × StandsAt 0 more o) ↔ IsFront (m ++ more)) → (more : List ℕ)
    → (IsTrue same × StandsAt count more after) ↔ IsFront (m ++ front ++ more))
    → IsTrue same ↔ StandsAt 0 front o
visit_fronts front o after count same visited =
    let fronts : (more : List ℕ) → IsFront (length o ∷ (o ++ more)) ≡ StandsAt 0 more o =
    λ more. rw (take-append_seam o more, drop-append_seam o more) refl in
    let end = whole_visited IsFront (length o ∷ o) front (λ more. StandsAt count more after)
    (λ more. StandsAt 0 more o) fronts visited in grind arith

-- a count that may be too large
pub counted : (next : Option ℕ) (P : Type 0) (v : ℕ) (Q : ℕ → Type 0) → SomeIff next P v → ((n : ℕ) → n ≡ v → Q n)
    → IfSome next Q
counted next P v Q is all = grind arith
