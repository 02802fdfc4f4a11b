-- More insertions behind others.
use Rattle.std.proofs.Common.{◌≡◌, ℕ, ◌-◌, Bool, true, false, not, ◌||◌, List, ◌++◌, length, Option, Some, None, refl, sym, ap, ◌∙◌, inl, inr, arith}
use Rattle.std.proofs.lemmas.List.Folds.{list_all-append}
use Rattle.std.proofs.lemmas.Bool.{cases_Bool, false_from_ne_true}
use Rattle.std.specs.List.{Contains, filter_map, list_all}
use Rattle.warg_map.specs.Bits.{key_bits}
use Rattle.warg_map.specs.Last.{last_with, same_bits}
use Rattle.warg_map.specs.Sparse.{map_of}
use Rattle.warg_map.proofs.ForCallers.{same_bits-true, last_held}
use Rattle.warg_pages.specs.Prefixes.{byte_bits, begins, is_below, below, version}
use Rattle.warg_pages.specs.Slots.{is_lone, slot_over, slot_of, numbers, page_of}
use Rattle.warg_pages.specs.OwnPages.{stands, stands_over}
use Rattle.warg_pages.proofs.Members.{all_pass, passes}
use Rattle.warg_pages.proofs.LastPassing.{none_of, none_is, last_with-append, last_place-append, place_none, last_same, place_same}
use Rattle.warg_pages.proofs.PageRoots.{longer, none_under, root-same}

-- a longer prefix has no insertions below it where a shorter one has none
pub none_longer : (H : List ℕ → List ℕ) (p q : List Bool) (es : List (List ℕ × List ℕ)) → last_with (is_below H p) es
    ≡ None → last_with (is_below H (p ++ q)) es ≡ None
none_longer H p q es h = none_is _ es (λ x c. longer p q _ (none_of (is_below H p) es h c))

-- what holds where nothing is below
pub all_none : (H : List ℕ → List ℕ) (p k : List Bool) (es : List (List ℕ × List ℕ))
    → last_with (is_below H p) es ≡ None → list_all (λ f. not (is_below H p f) || same_bits k (key_bits H f.0)) es
    ≡ true
all_none H p k es h = all_pass _ es (λ x c. rw (none_of (is_below H p) es h c) refl)

-- insertions elsewhere leave everything below a prefix as it is
module _ (H : List ℕ → List ℕ) (old more : List (List ℕ × List ℕ)) (p : List Bool)
    (none : last_with (is_below H p) more ≡ None) where
  pub quiet_version : version H (old ++ more) p ≡ version H old p
  quiet_version = rw (last_place-append (is_below H p) old more, place_none (is_below H p) more none) refl

  quiet_lone : (e : List ℕ × List ℕ) → is_lone H (old ++ more) p e ≡ is_lone H old p e
  quiet_lone e = rw (list_all-append _ old more, all_none H p (key_bits H e.0) more none) (grind arith)

  quiet_held : (q : List Bool) → below (map_of H (old ++ more)) p q ≡ below (map_of H old) p q
  quiet_held q = rw (
    last_held H (p ++ q) (old ++ more),
    last_held H (p ++ q) old,
    last_with-append _ old more,
    none_under H p q more none,
  ) refl

  quiet_over : (s : ℕ) (last : Option (List ℕ × List ℕ)) → slot_over H (old ++ more) p s last ≡ slot_over H old p s last
  quiet_over s None = refl
  quiet_over s (Some e) =
      let root = root-same H (256 - length p) (below (map_of H (old ++ more)) p) (below (map_of H old) p) quiet_held in
      rw (quiet_version, root, quiet_lone e) refl

  pub quiet_stands : stands H (old ++ more) p ≡ stands H old p
  quiet_stands = rw (last_with-append (is_below H p) old more, none) (over _)
    where
      over : (last : Option (List ℕ × List ℕ)) → stands_over H (old ++ more) p last ≡ stands_over H old p last
      over None = refl
      over (Some e) = rw (quiet_lone e) refl

pub quiet_slot : (H : List ℕ → List ℕ) (old more : List (List ℕ × List ℕ)) (p : List Bool) (s : ℕ)
    → last_with (is_below H (p ++ byte_bits s)) more ≡ None → slot_of H (old ++ more) p s ≡ slot_of H old p s
quiet_slot H old more p s none =
    rw (last_with-append (is_below H (p ++ byte_bits s)) old more, none)
    (quiet_over H old more (p ++ byte_bits s) none s _)

pub quiet_page : (H : List ℕ → List ℕ) (old more : List (List ℕ × List ℕ)) (p : List Bool)
    → last_with (is_below H p) more ≡ None → page_of H (old ++ more) p ≡ page_of H old p
unfolding page_of
quiet_page H old more p none =
    λ i. filter_map (λ t. quiet_slot H old more p t (none_longer H p (byte_bits t) more none) i) (numbers 0 256)

-- where a lone key stands below a prefix, it does below a longer one
pub record LoneLonger (H : List ℕ → List ℕ) (es : List (List ℕ × List ℕ)) (p q : List Bool)
    (e : List ℕ × List ℕ) : Type 0 where
  pub is_last : last_with (is_below H (p ++ q)) es ≡ Some e
  pub alone : is_lone H es (p ++ q) e ≡ true
  pub is_version : version H es (p ++ q) ≡ version H es p

module _ (H : List ℕ → List ℕ) (es : List (List ℕ × List ℕ)) (p q : List Bool) (e : List ℕ × List ℕ) where
  pub lone_longer : last_with (is_below H p) es ≡ Some e → is_lone H es p e ≡ true → is_below H (p ++ q) e ≡ true
      → LoneLonger H es p q e
  lone_longer last lone under = record {
    is_last = sym (last_same _ _ es same) ∙ last;
    alone = all_pass _ es (λ f c. rw (← same f c) (passes _ es lone c));
    is_version = sym (place_same _ _ es same);
  }
    where
      same : (f : List ℕ × List ℕ) → Contains es f → is_below H p f ≡ is_below H (p ++ q) f
      same f c = either _ refl (passes _ es lone c)
        where
          either : (b : Bool) → is_below H p f ≡ b → (not b || same_bits (key_bits H e.0) (key_bits H f.0)) ≡ true
              → b ≡ is_below H (p ++ q) f
          either false off t = sym (longer p q _ off)
          either true on t = sym (ap (begins (p ++ q)) (sym (same_bits-true _ _ t)) ∙ under)

  -- elsewhere below the shorter prefix nothing stands
  pub lone_elsewhere : is_lone H es p e ≡ true → is_below H (p ++ q) e ≡ false → last_with (is_below H (p ++ q)) es
      ≡ None
  lone_elsewhere lone off = none_is _ es (λ x c. false_from_ne_true _ (λ here. elim (cases_Bool (is_below H p x)) [
    | inl up ↦
        let same : same_bits (key_bits H e.0) (key_bits H x.0) ≡ true = rw up at (passes _ es lone c) in
        let there : is_below H (p ++ q) e ≡ true = rw (same_bits-true (key_bits H e.0) (key_bits H x.0) same) here in
        cc
    | inr apart ↦ let no = longer p q _ apart in cc
  ]))
