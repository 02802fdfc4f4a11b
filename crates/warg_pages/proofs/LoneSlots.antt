-- What stands below a slot with a lone key.
use Rattle.std.proofs.Common.{◌≡◌, ℕ, Bool, true, false, cond, List, ◌++◌, Option, Some, None, refl, sym, ap, ◌∙◌}
use Rattle.std.proofs.lemmas.Bool.{false_from_ne_true}
use Rattle.std.specs.Bool.{then_some}
use Rattle.std.specs.Option.{option_map}
use Rattle.warg_crypto.specs.Tree.{leaf_digest}
use Rattle.warg_map.specs.Bits.{last_bits, key_bits}
use Rattle.warg_map.specs.Last.{last_with, same_bits, last_under}
use Rattle.warg_map.specs.Sparse.{map_of}
use Rattle.warg_map.proofs.ForCallers.{same_bits-true, same_bits-itself, last_held}
use Rattle.warg_pages.specs.Prefixes.{begins, is_below, below}
use Rattle.warg_pages.specs.Slots.{SlotAt, is_lone, slot_over}
use Rattle.warg_pages.proofs.Members.{passes}
use Rattle.warg_pages.proofs.LastPassing.{last_found, none_is, last_same}
use Rattle.warg_pages.proofs.PageRoots.{begins-append}

-- all insertions below a prefix have one key's bits
pub same_tests : (b c : Bool) → (b ≡ true → c ≡ true) → (c ≡ true → b ≡ true) → b ≡ c
same_tests true c f g = sym (f refl)
same_tests false true f g = g refl
same_tests false false f g = refl

own_last : (H : List ℕ → List ℕ) (p : List Bool) (e : List ℕ × List ℕ) (es : List (List ℕ × List ℕ))
    → is_below H p e ≡ true → is_lone H es p e ≡ true → last_under H (key_bits H e.0) es ≡ last_with (is_below H p) es
own_last H p e es t h = last_same _ _ es (λ x c. same_tests _ (is_below H p x)
    (λ s. rw (← same_bits-true (key_bits H e.0) (key_bits H x.0) s) t) (λ under. rw under at (passes _ es h c)))

other_last : (H : List ℕ → List ℕ) (p : List Bool) (e : List ℕ × List ℕ) (bits : List Bool)
    (es : List (List ℕ × List ℕ)) → begins p bits ≡ true → ¬ (bits ≡ key_bits H e.0) → is_lone H es p e ≡ true
    → last_under H bits es ≡ None
other_last H p e bits es t n h = none_is _ es (λ x c. false_from_ne_true _ (λ s.
    let same = same_bits-true bits _ s in
    let under : is_below H p x ≡ true = rw (← same) t in
    n (same ∙ sym (same_bits-true _ _ (rw under at (passes _ es h c))))))

pub lone_of : {X : Type 0} (b : Bool) (v w : X) → then_some b v ≡ Some w → (b ≡ true) × (v ≡ w)
lone_of true v w e = (refl, cc)
lone_of false v w e = absurd cc

pub some_same : {X : Type 0} {v w : X} → Some v ≡ Some w → v ≡ w
some_same e = cc

by_test : (H : List ℕ → List ℕ) (es : List (List ℕ × List ℕ)) (p q : List Bool) (e : List ℕ × List ℕ)
    → is_lone H es p e ≡ true → last_with (is_below H p) es ≡ Some e
    → (b : Bool) → same_bits (p ++ q) (key_bits H e.0) ≡ b → option_map (λ (x : List ℕ × List ℕ). leaf_digest H x.1)
    (last_under H (p ++ q) es) ≡ cond b (Some (leaf_digest H e.1)) None
by_test H es p q e lone l true t =
    let same = same_bits-true _ _ t in
    ap (option_map (λ (x : List ℕ × List ℕ). leaf_digest H x.1)) (ap (λ bits. last_under H bits es) same
    ∙ own_last H p e es ((last_found _ es e l).1) lone ∙ l)
by_test H es p q e lone l false f =
    ap (option_map (λ (x : List ℕ × List ℕ). leaf_digest H x.1))
    (other_last H p e _ es (begins-append p q) (λ same. let t : same_bits (p ++ q) (key_bits H e.0)
    ≡ true = rw same (same_bits-itself (key_bits H e.0)) in cc) lone)

-- below it this key is held, and no other
pub lone_over : (H : List ℕ → List ℕ) (es : List (List ℕ × List ℕ)) (p : List Bool) (s : ℕ)
    (last : Option (List ℕ × List ℕ)) (x : SlotAt) (key leaf : List ℕ) → last_with (is_below H p) es ≡ last
    → slot_over H es p s last ≡ Some x → x.lone ≡ Some (key, leaf)
    → (q : List Bool) → below (map_of H es) p q ≡ cond (same_bits (p ++ q) (last_bits key 256)) (Some leaf) None
lone_over H es p s None x key leaf l h is q = absurd cc
lone_over H es p s (Some e) x key leaf l h is q =
    let found = lone_of _ _ (key, leaf)
    (ap (λ (y : SlotAt). y.lone) (some_same h) ∙ is) in
    last_held H _ es ∙ by_test H es p q e found.0 l _ refl
    ∙ rw (ap (λ (v : List ℕ × List ℕ). v.0) found.1, ap (λ (v : List ℕ × List ℕ). v.1) found.1) refl
