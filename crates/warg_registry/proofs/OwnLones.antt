-- The keys that stand alone in the slots of insertions' pages.
use Rattle.std.proofs.Common.{◌≡◌, ⊎_elim, ℕ, zero, suc, ◌+◌, ◌-◌, ◌<◌, ◌≤◌, Bool, true, false, true≢false, not, ◌||◌, cond, eqb, List, [], ◌∷◌, ◌++◌, length, take, get_or, Option, Some, None, refl, sym, ap, ◌∙◌, arith}
use Rattle.std.specs.Prelude.{slice_get}
use Rattle.std.specs.Bool.{then_some}
use Rattle.std.specs.List.{Contains, list_all}
use Rattle.std.specs.Option.{option_or, is_some}
use Rattle.std.proofs.lemmas.Bool.{and_parts}
use Rattle.std.proofs.Math.Dec.{eqb-suc-zero}
use Rattle.warg_crypto.specs.Collisions.{GivesHashes}
use Rattle.warg_crypto.specs.Tree.{leaf_digest}
use Rattle.warg_map.specs.Bits.{key_bits}
use Rattle.warg_map.specs.Last.{last_with, same_bits}
use Rattle.warg_map.specs.Sparse.{root_of_levels, map_of}
use Rattle.warg_map.proofs.ForCallers.{all_bits, same_bits-itself, same_bits-true, same_digest}
use Rattle.warg_pages.specs.Prefixes.{bits_of_bytes, byte_bits, is_below, below, last_place, version}
use Rattle.warg_pages.specs.Slots.{SlotAt, is_lone, slot_over, slot_of}
use Rattle.warg_pages.specs.OwnPages.{stands, stands_over}
use Rattle.warg_registry.proofs.DigestPrefixes.{next_bits, begins_with, length-first}
use Rattle.warg_registry.proofs.HeldEntries.{begins_all, lasts}
use Rattle.warg_registry.proofs.Listed.{none_there, there_cases}

-- an element that passes, and the last one that does
some_last : {X : Type 0} (p : X → Bool) (xs : List X) (x : X) → Contains xs x → p x ≡ true
    → (y : X) × (last_with p xs ≡ Some y) × (p y ≡ true)
unfolding last_with
some_last {X = X} p xs x there passes = ⊎_elim (λ none. absurd (never xs x there passes none.1)) (λ some.
    (some.1, some.3, some.5))
    (lasts p p (λ y. refl) xs)
  where
    or_none : (a b : Option X) → option_or a b ≡ None → (a ≡ None) × (b ≡ None)
    or_none None b e = (refl, e)
    or_none (Some y) b e = absurd (cc)

    never : (ys : List X) (y : X) → Contains ys y → p y ≡ true → last_with p ys ≡ None → ⊥
    never [] y there passes none = none_there y there
    never (z ∷ ys) y there passes none =
        let parts = or_none (last_with p ys) (cond (p z) (Some z) None) none in
        ⊎_elim (λ same. let here : cond (p z) (Some z) None ≡ Some z = ap (λ b. cond b (Some z) None) (ap p same
        ∙ passes) in
        let clash : None ≡ Some z = sym parts.1 ∙ here in cc)
        (λ later. never ys y later passes parts.0) (there_cases ys y z there)

-- its place is no earlier one
pub place_above : {X : Type 0} (p : X → Bool) (xs : List X) (i : ℕ) (x : X) → slice_get xs i ≡ Some x → p x ≡ true
    → i < last_place p xs
unfolding last_place
place_above p [] i x there passes = absurd (cc)
place_above p (y ∷ xs) zero x there passes =
    let same : y ≡ x = cc in
    by_place (last_place p xs) (p y) (rw same passes)
  where
    by_place : (n : ℕ) (b : Bool) → b ≡ true → 0 < cond (eqb n 0) (cond b 1 0) (suc n)
    by_place zero b t = rw t (omega arith)
    by_place (suc n) b t = rw (eqb-suc-zero n) (omega arith)
place_above p (y ∷ xs) (suc i) x there passes =
    by_place (last_place p xs) (place_above p xs i x there passes)
  where
    by_place : (n : ℕ) → i < n → suc i < cond (eqb n 0) (cond (p y) 1 0) (suc n)
    by_place zero lt = absurd (omega arith)
    by_place (suc n) lt = rw (eqb-suc-zero n) (omega arith)

-- what all pass, each one does
each_passes : {X : Type 0} (p : X → Bool) (xs : List X) (x : X) → list_all p xs ≡ true → Contains xs x → p x ≡ true
each_passes p [] x all there = absurd (none_there x there)
each_passes p (y ∷ xs) x all there =
    let parts = and_parts (p y) (list_all p xs) all in
    ⊎_elim (λ same. rw (← same) parts.0) (λ later. each_passes p xs x parts.1 later) (there_cases xs x y there)

module _ (H : List ℕ → List ℕ) (gives : GivesHashes H) (es : List (List ℕ × List ℕ)) where
  -- where all insertions below a prefix have one key digest, this is it
  one_key : (p : List Bool) (e f : List ℕ × List ℕ) → is_lone H es p f ≡ true → Contains es e → is_below H p e ≡ true
      → H f.0 ≡ H e.0
  one_key p e f lone there under =
      let passes = each_passes (λ g. not (is_below H p g) || same_bits (key_bits H f.0) (key_bits H g.0)) es e
      lone there in
      same_digest H f.0 e.0 (gives f.0) (gives e.0)
      (same_bits-true (key_bits H f.0) (key_bits H e.0) (rw under at passes))

  -- a whole digest is of one key
  whole_alone : (p : List Bool) (f : List ℕ × List ℕ) → length p ≡ 256 → is_below H p f ≡ true → is_lone H es p f ≡ true
  whole_alone p f size under = each es
    where
      whole : (g : List ℕ × List ℕ) → is_below H p g ≡ true → p ≡ key_bits H g.0
      whole g below = same_bits-true p (key_bits H g.0) (sym (begins_all p (key_bits H g.0) (size
          ∙ sym (all_bits H g.0))) ∙ below)

      one : (g : List ℕ × List ℕ) (b : Bool) → is_below H p g ≡ b
          → (not (is_below H p g) || same_bits (key_bits H f.0) (key_bits H g.0)) ≡ true
      one g true u = rw u (rw (sym (whole g u) ∙ whole f under) (same_bits-itself (key_bits H f.0)))
      one g false u = rw u refl

      each : (xs : List (List ℕ × List ℕ)) → is_lone H xs p f ≡ true
      each [] = refl
      each (g ∷ xs) = rw (one g (is_below H p g) refl, each xs) refl

  -- an insertion's key digest stands alone in a slot on its way
  pub record IsAlone (e : List ℕ × List ℕ) : Type 0 where
    pub depth : ℕ
    pub short : depth < 32
    pub is_there : stands H es (bits_of_bytes (take depth (H e.0))) ≡ true
    pub slot : SlotAt
    pub is_slot : slot_of H es (bits_of_bytes (take depth (H e.0))) (get_or (H e.0) depth 0) ≡ Some slot
    pub leaf : List ℕ
    pub is_lone : slot.lone ≡ Some (H e.0, leaf)

  abbrev slot_at : (p : List Bool) (s : ℕ) (f : List ℕ × List ℕ) → Bool → SlotAt
  slot_at p s f b = record {
    byte = s;
    version = version H es p;
    digest = root_of_levels H (256 - length p) (below (map_of H es) p);
    lone = then_some b (H f.0, leaf_digest H f.1);
  }

  module _ (e : List ℕ × List ℕ) (there : Contains es e) where
    abbrev k : List ℕ
    k = H e.0

    abbrev at : ℕ → List Bool
    at depth = bits_of_bytes (take depth k)

    under : (depth : ℕ) → depth ≤ 32 → is_below H (at depth) e ≡ true
    under depth le = begins_with k depth (gives e.0).has_32 le

    or_true : (b : Bool) → (b || true) ≡ true
    or_true true = refl
    or_true false = refl

    step : (n depth : ℕ) → depth + suc n ≡ 32 → stands H es (at depth) ≡ true
        → ((m : ℕ) → n ≡ suc m → stands H es (at (depth + 1)) ≡ true → IsAlone e) → IsAlone e
    step n depth size is_there rest = by_lone n (is_lone H es p last.0) refl size rest
      where
        s : ℕ
        s = get_or k depth 0

        p : List Bool
        p = at depth ++ byte_bits s

        next : at (depth + 1) ≡ p
        next = next_bits k depth (let all = (gives e.0).has_32 in omega arith)

        below_p : is_below H p e ≡ true
        below_p = ap (λ q. is_below H q e) (sym next) ∙ under (depth + 1) (omega arith)

        last : (f : List ℕ × List ℕ) × (last_with (is_below H p) es ≡ Some f) × (is_below H p f ≡ true)
        last = some_last (is_below H p) es e there below_p

        by_lone : (n : ℕ) (b : Bool) → is_lone H es p last.0 ≡ b → depth + suc n ≡ 32
            → ((m : ℕ) → n ≡ suc m → stands H es (at (depth + 1)) ≡ true → IsAlone e) → IsAlone e
        by_lone n true t size rest = record {
          depth = depth;
          short = omega arith;
          is_there = is_there;
          slot = slot_at p s last.0 true;
          is_slot = ap (slot_over H es p s) last.1 ∙ ap (λ b. Some (slot_at p s last.0 b)) t;
          leaf = leaf_digest H last.0.1;
          is_lone = ap (λ key. Some (key, leaf_digest H last.0.1)) (one_key p e last.0 t there below_p);
        }
        by_lone zero false t size rest =
            let full : length p ≡ 256 = ap length (sym next) ∙ length-first k (depth + 1)
            (let all = (gives e.0).has_32 in omega arith) ∙ omega arith in
            absurd (true≢false (sym (whole_alone p last.0 full last.2) ∙ t))
        by_lone (suc m) false t size rest = rest m refl (ap (stands H es) next ∙ ap (stands_over H es p) last.1
            ∙ ap (λ b. eqb (length p) 0 || not b) t ∙ or_true (eqb (length p) 0))

    down : (n depth : ℕ) → depth + suc n ≡ 32 → stands H es (at depth) ≡ true → IsAlone e
    down zero depth size is_there = step zero depth size is_there (λ m e more. absurd (omega arith))
    down (suc n) depth size is_there = step (suc n) depth size is_there (λ m e more. down n (depth + 1)
        (omega arith) more)

    pub alone : IsAlone e
    alone =
        let last = some_last (is_below H (at 0)) es e there (under 0 (omega arith)) in
        let none : length (at 0) ≡ 0 = length-first k 0 (omega arith) in
        down 31 0 refl (ap (stands_over H es (at 0)) last.1
        ∙ ap (λ n. eqb n 0 || not (is_lone H es (at 0) last.0)) none)

  -- a slot's lone key is that of an insertion, behind which none has this key digest
  pub record IsOfLast (x : SlotAt) : Type 0 where
    pub index : ℕ
    pub e : List ℕ × List ℕ
    pub is_version : x.version ≡ suc index
    pub there : slice_get es index ≡ Some e
    pub is_lone : x.lone ≡ Some (H e.0, leaf_digest H e.1)
    pub latest : (i : ℕ) (f : List ℕ × List ℕ) → slice_get es i ≡ Some f → H f.0 ≡ H e.0 → i < x.version

  pub of_last : (p : List Bool) (s : ℕ) (x : SlotAt) → slot_of H es p s ≡ Some x → is_some x.lone ≡ true → IsOfLast x
  of_last p s x is some = ⊎_elim none one (lasts (is_below H q) (is_below H q) (λ y. refl) es)
    where
      q : List Bool
      q = p ++ byte_bits s

      none : (last_place (is_below H q) es ≡ 0) × (last_with (is_below H q) es ≡ None) → IsOfLast x
      none h =
          let no : slot_of H es p s ≡ None = ap (slot_over H es q s) h.1 in
          let clash : None ≡ Some x = sym no ∙ is in absurd (cc)

      one : (i : ℕ) × (e : List ℕ × List ℕ) × (last_place (is_below H q) es ≡ suc i)
          × (last_with (is_below H q) es ≡ Some e) × (slice_get es i ≡ Some e) × (is_below H q e ≡ true) → IsOfLast x
      one h = by_lone (is_lone H es q h.1) refl
        where
          slot : is_lone H es q h.1 ≡ is_lone H es q h.1 → slot_at q s h.1 (is_lone H es q h.1) ≡ x
          slot same =
              let both : Some (slot_at q s h.1 (is_lone H es q h.1)) ≡ Some x = sym (ap (slot_over H es q s) h.3)
              ∙ is in cc

          by_lone : (b : Bool) → is_lone H es q h.1 ≡ b → IsOfLast x
          by_lone false t =
              let no : x.lone ≡ None = rw (← slot refl) (ap (λ b. then_some b (H h.1.0, leaf_digest H h.1.1)) t) in
              absurd (true≢false (sym some ∙ ap is_some no))
          by_lone true t = record {
            index = h.0;
            e = h.1;
            is_version = rw (← slot refl) h.2;
            there = h.4;
            is_lone = rw (← slot refl) (ap (λ b. then_some b (H h.1.0, leaf_digest H h.1.1)) t);
            latest = λ i f at same.
                let under : is_below H q f ≡ true = rw same h.5 in
                let lt = place_above (is_below H q) es i f at under in
                omega (arith, lt, ap (λ (y : SlotAt). y.version) (sym (slot refl)));
          }
