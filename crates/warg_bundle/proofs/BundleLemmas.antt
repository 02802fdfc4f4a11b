-- Log bundles and their messages.
use Rattle.std.proofs.Common.{◌≡◌, ℕ, suc, ◌+◌, ◌<◌, ◌≤◌, List, [], ◌∷◌, ◌++◌, length, map, drop, get_or, false, Option, Result, Some, None, Ok, Err, refl, sym, ap, ◌∙◌, add-one, inl, inr, arith}
use Rattle.std.specs.List.{AllByRecursion}
use Rattle.std.proofs.lemmas.List.{map-id, drop_more, drop_all}
use Rattle.std.proofs.lemmas.List.Elements.{recursion_from_All}
use Rattle.std.proofs.lemmas.Simd.{map-map}
use Rattle.std.proofs.Math.Dec.{leb}
use Rattle.std.proofs.lemmas.Bool.{eq-eqb, ne_eqb, le-leb}
use Rattle.std.proofs.lemmas.Bool.Decides.{leb_tells}
use Rattle.warg_protobuf.specs.declared.error.WireError.{WireError}
use Rattle.warg_protobuf.specs.HashEntry.{Entry}
use Rattle.warg_protobuf.specs.declared.value_error.DecodeError.{DecodeError}
use Rattle.warg_protobuf.specs.declared.value_error.DecodeError.TheVariants.{HashLength, NotAscending, Wire, Memory}
use Rattle.warg_protobuf.specs.declared.value_error.EncodeError.{EncodeError}
use Rattle.warg_protobuf.specs.declared.value_error.EncodeError.TheVariants as encoding
use Rattle.warg_log.specs.declared.node.Node.{Node}
use Rattle.warg_log.specs.Sparse.{Pairs, IsAscending}
use Rattle.warg_bundle.specs.LogBundles.{Bundle, entry_of, entries_fault, log_bundle_in, bundle_message}
use Rattle.warg_protobuf.proofs.ForCallers.{all_weaken}
use Rattle.warg_protobuf.proofs.ForCallers.{all_push}

-- one more pair
ascending_push : (ps : Pairs) (p : Node × List ℕ) → IsAscending ps
    → AllByRecursion (λ (q : Node × List ℕ). q.0.0 < p.0.0) ps → IsAscending (ps ++ p ∷ [])
ascending_push [] p up all = (tt, tt)
ascending_push (q ∷ ps) p up all = (
  all_push (λ (r : Node × List ℕ). q.0.0 < r.0.0) ps p up.0 all.0,
  ascending_push ps p up.1 all.1,
)

pub pairs_push : (least : ℕ) (ps qs : Pairs) (p : Node × List ℕ) → qs ≡ ps ++ p ∷ [] → least ≤ p.0.0 → IsAscending ps
    → AllByRecursion (λ (q : Node × List ℕ). q.0.0 < least) ps
    → IsAscending qs × AllByRecursion (λ (q : Node × List ℕ). q.0.0 < p.0.0 + 1) qs
pairs_push least ps qs p e le up all =
    let below = λ (b : ℕ) (le : least ≤ b). all_weaken (λ (q : Node × List ℕ). q.0.0 < least)
    (λ (q : Node × List ℕ). q.0.0 < b) (λ q lt. omega arith) ps all in
    rw e (
      ascending_push ps p up (below p.0.0 le),
      all_push (λ (q : Node × List ℕ). q.0.0 < p.0.0 + 1) ps p
          (below (p.0.0 + 1) (omega arith)) (omega arith),
    )

-- the message of a bundle holds the bundle
no_fault : (least : ℕ) (ps : Pairs) → IsAscending ps → AllByRecursion (λ (p : Node × List ℕ). least ≤ p.0.0) ps
    → AllByRecursion (λ (p : Node × List ℕ). length p.1 ≡ 32) ps
    → entries_fault least (map entry_of ps) ≡ None
no_fault least [] up all lens = refl
no_fault least (p ∷ ps) up all lens = rw (eq-eqb (length p.1) 32 lens.0, le-leb least p.0.0 all.0)
    (no_fault (suc p.0.0) ps up.1 up.0 lens.1)

pub bundle_again : (b : Bundle) → IsAscending b.hashes
    → AllByRecursion (λ (p : Node × List ℕ). length p.1 ≡ 32) b.hashes → log_bundle_in (bundle_message b) ≡ Ok b
bundle_again b up lens =
    rw (
      no_fault 0 b.hashes up (recursion_from_All (λ (p : Node × List ℕ). 0 ≤ p.0.0) b.hashes (λ k d lt. omega arith))
          lens,
      map-map,
      map-id,
      map-map,
      map-id,
    ) refl

-- the first fault of entries: behind a good one, at one of another length, at one not above, and where none is left
entries_left : {X : Type 0} (f : X → Entry) (xs : List X) (i : ℕ) (x : X) (least : ℕ) (whole : Option DecodeError)
    → i < length xs → x ≡ get_or xs i x
    → whole ≡ entries_fault least (map f (drop i xs)) → whole ≡ entries_fault least (f x ∷ map f (drop (i + 1) xs))
entries_left f xs i x least whole lt is was =
    was ∙ ap (λ l. entries_fault least (map f l)) (drop_more xs i x lt ∙ ap (λ y. y ∷ drop (i + 1) xs) (sym is))

pub entry_passed : {X : Type 0} (f : X → Entry) (xs : List X) (i : ℕ) (x : X) (least : ℕ) (whole : Option DecodeError)
    (bytes : List ℕ) → i < length xs → x ≡ get_or xs i x
    → bytes ≡ (f x).hash → length bytes ≡ 32 → least ≤ (f x).index → whole ≡ entries_fault least (map f (drop i xs))
    → whole ≡ entries_fault ((f x).index + 1) (map f (drop (i + 1) xs))
entry_passed f xs i x least whole bytes lt is here long le was =
    entries_left f xs i x least whole lt is was ∙ rw (
      eq-eqb (length (f x).hash) 32 (ap length (sym here) ∙ long),
      le-leb least (f x).index le,
    ) (ap (λ n. entries_fault n (map f (drop (i + 1) xs))) (sym (add-one (f x).index)))

pub entry_short : {X : Type 0} (f : X → Entry) (xs : List X) (i : ℕ) (x : X) (least : ℕ) (whole : Option DecodeError)
    (bytes : List ℕ) (e : DecodeError) → i < length xs → x ≡ get_or xs i x
    → bytes ≡ (f x).hash → whole ≡ entries_fault least (map f (drop i xs)) → (e ≡ HashLength) × (length bytes ≡ 32 → ⊥)
    → whole ≡ Some e
entry_short f xs i x least whole bytes e lt is here was why =
    entries_left f xs i x least whole lt is was
    ∙ rw (ne_eqb (length (f x).hash) 32 (λ long. why.1 (ap length here ∙ long)), why.0) refl

beyond : (m n : ℕ) → n < m → leb m n ≡ false
beyond m n lt = elim (leb_tells m n) as (λ _. leb m n ≡ false) [ inl h ↦ absurd (omega (arith, h.1, lt)) | inr h ↦ h.0 ]

pub entry_low : {X : Type 0} (f : X → Entry) (xs : List X) (i : ℕ) (x : X) (least : ℕ) (whole : Option DecodeError)
    (bytes : List ℕ) → i < length xs → x ≡ get_or xs i x
    → bytes ≡ (f x).hash → length bytes ≡ 32 → (f x).index < least → whole ≡ entries_fault least (map f (drop i xs))
    → whole ≡ Some NotAscending
entry_low f xs i x least whole bytes lt is here long low was =
    entries_left f xs i x least whole lt is was ∙ rw (
      eq-eqb (length (f x).hash) 32 (ap length (sym here) ∙ long),
      beyond least (f x).index low,
    ) refl

pub no_entry_left : {X : Type 0} (f : X → Entry) (xs : List X) (i least : ℕ) (whole : Option DecodeError)
    → whole ≡ entries_fault least (map f (drop i xs)) → length xs ≤ i → whole ≡ None
no_entry_left f xs i least whole was le = was ∙ ap (λ l. entries_fault least (map f l)) (drop_all i xs le)

-- no fault of the bytes
abbrev failed : {X : Type 0} → DecodeError → Result X DecodeError
failed e = Err e

abbrev done : {X : Type 0} → X → Result X DecodeError
done x = Ok x

pub short_not_wire : {X : Type 0} (r : Result X DecodeError) (y d : DecodeError) (e : WireError) → r ≡ failed y → y ≡ d
    → d ≡ HashLength → r ≡ failed (Wire e) → ⊥
short_not_wire r y d e is from why bad = cc

pub low_not_wire : {X : Type 0} (e : WireError) → failed {X = X} NotAscending ≡ failed (Wire e) → ⊥
low_not_wire e bad = cc

pub done_not_wire : {X : Type 0} (x : X) (e : WireError) → done x ≡ failed (Wire e) → ⊥
done_not_wire x e bad = cc

pub refused_not_wire : {X : Type 0} (r : Result X DecodeError) (e : WireError) → r ≡ failed Memory → r ≡ failed (Wire e)
    → ⊥
refused_not_wire r e is bad = absurd (cc)

pub done_not_failed : {T E : Type 0} (x : T) (e : E) → Ok x ≡ Err e → ⊥
done_not_failed x e failed = absurd (cc)

pub refused_not_large : {T : Type 0} (result : Result T EncodeError) → result ≡ Err encoding.Memory
    → result ≡ Err encoding.TooLarge → ⊥
refused_not_large result refused large = absurd (cc)

-- an error that is passed on
pub err_again : {T U E : Type 0} (given : Result T E) (passed : Result U E) (e f : E) → given ≡ Err e → passed ≡ Err e
    → passed ≡ Err f → given ≡ Err f
err_again given passed e f is same failed = cc
