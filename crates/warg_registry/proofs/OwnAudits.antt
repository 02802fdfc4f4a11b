-- What an audit finds in the pages of insertions.
use Rattle.std.proofs.Common.{◌≡◌, ◌≢◌, ⊎_elim, ◌⊎◌, ℕ, zero, suc, ◌+◌, ◌^◌, ◌<◌, Bool, true, false, cond, eqb, List, [], ◌∷◌, length, map, take, get_or, Option, Some, None, refl, sym, ap, subst, ◌∙◌, arith, inl, inr, eq-eqb}
use Rattle.std.proofs.lemmas.Bool.{cond-true, eqb-true}
use Rattle.std.proofs.lemmas.List.{length-take-le, length-map}
use Rattle.std.proofs.lemmas.List.Elements.{All-take}
use Rattle.std.specs.Prelude.{slice_get}
use Rattle.std.specs.List.{AllPairs, Contains, filter_map, cons_option}
use Rattle.std.specs.Option.{is_some}
use Rattle.warg_crypto.specs.Digests.{IsByte}
use Rattle.warg_crypto.specs.Collisions.{GivesHashes}
use Rattle.warg_crypto.specs.Tree.{leaf_digest}
use Rattle.warg_pages.specs.Prefixes.{bits_of_bytes}
use Rattle.warg_pages.specs.Slots.{SlotAt, slot_of, numbers, page_of}
use Rattle.warg_pages.specs.ChangedPages.{ChangedPageAt, page_at}
use Rattle.warg_pages.specs.ProvedKeys.{IsOwnSource}
use Rattle.warg_pages.specs.Visits.{IsLoneBelow, IsAllowed, AreAllPages, lone_slots}
use Rattle.warg_pages.specs.Audits.{IsLoneAmong, IsHeldIn, AreInPages, count_last}
use Rattle.warg_pages.proofs.ForCallers.{own_visit, visit_own, lone_apart}
use Rattle.warg_registry.proofs.DistinctLists.{one_pair_more, pairs_then, pairs-map, no_more}
use Rattle.warg_registry.proofs.Listed.{none_there, first_is, first_there, later_there, there_cases, mapped_there, of_mapped, passed_there, of_passed, joined_there, of_joined}
use Rattle.warg_registry.proofs.OwnLones as own
use Rattle.warg_registry.proofs.RegistryPages.{number_there}
use Rattle.warg_registry.proofs.VisitedApart.{visited_pages, one_page_visited, key_of, lones_of, keys_apart}

-- what is made of some elements
made_there : {X Y : Type 0} (f : X → Option Y) (xs : List X) (x : X) (y : Y) → Contains xs x → f x ≡ Some y
    → Contains (filter_map f xs) y
made_there f [] x y there is = absurd (none_there x there)
made_there {X = X} {Y = Y} f (z ∷ xs) x y there is = one (f z) refl (made_there f xs x y)
  where
    one : (o : Option Y) → f z ≡ o → (Contains xs x → f x ≡ Some y → Contains (filter_map f xs) y)
        → Contains (cons_option o (filter_map f xs)) y
    one None e rest = ⊎_elim (λ same. absurd (let clash : None ≡ Some y = sym e ∙ ap f same ∙ is in cc))
        (λ later. rest later is) (there_cases xs x z there)
    one (Some w) e rest = ⊎_elim (λ same. let both : Some w ≡ Some y = sym e ∙ ap f same ∙ is in
        first_is (filter_map f xs) (cc))
        (λ later. later_there (filter_map f xs) y w (rest later is)) (there_cases xs x z there)

of_made : {X Y : Type 0} (f : X → Option Y) (xs : List X) (y : Y) → Contains (filter_map f xs) y
    → (x : X) × Contains xs x × (f x ≡ Some y)
of_made f [] y there = absurd (none_there y there)
of_made {X = X} {Y = Y} f (z ∷ xs) y there = one (f z) refl there
    (λ h. let found = of_made f xs y h in (found.0, later_there xs found.0 z found.1, found.2))
  where
    one : (o : Option Y) → f z ≡ o → Contains (cons_option o (filter_map f xs)) y
        → (Contains (filter_map f xs) y → (x : X) × Contains (z ∷ xs) x × (f x ≡ Some y))
        → (x : X) × Contains (z ∷ xs) x × (f x ≡ Some y)
    one None e h later = later h
    one (Some w) e h later = ⊎_elim (λ same. (z, first_there xs z, e ∙ ap (λ v. Some v) same)) later
        (there_cases (filter_map f xs) y w h)

-- an element at its place
there_at : {X : Type 0} (xs : List X) (i : ℕ) (x : X) → slice_get xs i ≡ Some x → Contains xs x
there_at [] i x is = absurd (cc)
there_at (y ∷ xs) zero x is = first_is xs (cc)
there_at (y ∷ xs) (suc i) x is = later_there xs x y (there_at xs i x is)

-- the versions of lone keys
abbrev versions : List ChangedPageAt → List ℕ
versions all = map (λ (x : SlotAt). x.version) (lone_slots all)

-- the versions of those that are the last ones of their keys
abbrev picked : ℕ → List ℕ → List ℕ
picked first [] = []
picked first (v ∷ vs) = cond (eqb v (first + 1)) (v ∷ picked (first + 1) vs) (picked (first + 1) vs)

length-picked : (first : ℕ) (vs : List ℕ) → length (picked first vs) ≡ count_last first vs
length-picked first [] = refl
length-picked first (v ∷ vs) = one (eqb v (first + 1)) (length-picked (first + 1) vs)
  where
    one : (b : Bool) → length (picked (first + 1) vs) ≡ count_last (first + 1) vs
        → length (cond b (v ∷ picked (first + 1) vs) (picked (first + 1) vs)) ≡ cond b 1 0 + count_last (first + 1) vs
    one true h = omega (arith, h)
    one false h = omega (arith, h)

picked_cases : (first v w : ℕ) (vs : List ℕ) → Contains (picked first (w ∷ vs)) v
    → ((w ≡ first + 1) × (w ≡ v)) ⊎ Contains (picked (first + 1) vs) v
picked_cases first v w vs = one (eqb w (first + 1)) refl
  where
    one : (b : Bool) → eqb w (first + 1) ≡ b
        → Contains (cond b (w ∷ picked (first + 1) vs) (picked (first + 1) vs)) v
        → ((w ≡ first + 1) × (w ≡ v)) ⊎ Contains (picked (first + 1) vs) v
    one true e h = ⊎_elim (λ same. inl (eqb-true w (first + 1) e, same)) (λ later. inr later)
        (there_cases (picked (first + 1) vs) v w h)
    one false e h = inr h

picked_above : (first : ℕ) (vs : List ℕ) (v : ℕ) → Contains (picked first vs) v → first < v
picked_above first [] v h = absurd (none_there v h)
picked_above first (w ∷ vs) v h = ⊎_elim (λ here. omega (arith, here.0, here.1))
    (λ later. omega (arith, picked_above (first + 1) vs v later)) (picked_cases first v w vs h)

picked_apart : (first : ℕ) (vs : List ℕ) → AllPairs (λ x y. x ≢ y) (picked first vs)
picked_apart first [] = λ i j d lt within. absurd (omega arith)
picked_apart first (v ∷ vs) = one (eqb v (first + 1)) refl (picked_apart (first + 1) vs)
  where
    one : (b : Bool) → eqb v (first + 1) ≡ b → AllPairs (λ x y. x ≢ y) (picked (first + 1) vs)
        → AllPairs (λ x y. x ≢ y) (cond b (v ∷ picked (first + 1) vs) (picked (first + 1) vs))
    one true e rest = one_pair_more (λ x y. x ≢ y) v (picked (first + 1) vs)
        (λ y c same. omega (arith, picked_above (first + 1) vs y c, eqb-true v (first + 1) e, same)) rest
    one false e rest = rest

picked_first : (first v : ℕ) (vs : List ℕ) → v ≡ suc (first + zero) → Contains (picked first (v ∷ vs))
    (suc (first + zero))
picked_first first v vs is =
    rw (cond-true _ (v ∷ picked (first + 1) vs) (picked (first + 1) vs) (eq-eqb v (first + 1)
    (omega (arith, is))))
    (first_is (picked (first + 1) vs) is)

picked_later : (first v w : ℕ) (vs : List ℕ) → Contains (picked (first + 1) vs) v → Contains (picked first (w ∷ vs)) v
picked_later first v w vs h = one (eqb w (first + 1))
  where
    one : (b : Bool) → Contains (cond b (w ∷ picked (first + 1) vs) (picked (first + 1) vs)) v
    one true = later_there (picked (first + 1) vs) v w h
    one false = h

-- where insertions are in pages, each such version is one of a lone key, and each lone key's version is such a one
picked_within : (H : List ℕ → List ℕ) (all : List ChangedPageAt) (first : ℕ) (es : List (List ℕ × List ℕ)) (vs : List ℕ)
    → AreInPages H all first es vs → (v : ℕ) → Contains (picked first vs) v → Contains (versions all) v
unfolding AreInPages
picked_within H all first [] [] are v h = absurd (none_there v h)
picked_within H all first [] (w ∷ vs) are v h = absurd are
picked_within H all first (e ∷ es) [] are v h = absurd are
picked_within H all first (e ∷ es) (w ∷ vs) are v h =
    let held = are.0.held in
    ⊎_elim (λ here. rw (held.is_version ∙ here.1) at
    (mapped_there (λ (x : SlotAt). x.version) (lone_slots all) held.slot held.there))
    (λ later. picked_within H all (first + 1) es vs are.1 v later) (picked_cases first v w vs h)

picked_there : (H : List ℕ → List ℕ) (all : List ChangedPageAt) (first : ℕ) (es : List (List ℕ × List ℕ)) (vs : List ℕ)
    → AreInPages H all first es vs → (i : ℕ) (e : List ℕ × List ℕ) → slice_get es i ≡ Some e
    → ((v : ℕ) (leaf : List ℕ) → IsLoneAmong all (H e.0) v leaf → v ≡ suc (first + i))
    → Contains (picked first vs) (suc (first + i))
unfolding AreInPages
picked_there H all first [] vs are i e at is = absurd (cc)
picked_there H all first (d ∷ es) [] are i e at is = absurd are
picked_there H all first (d ∷ es) (w ∷ vs) are zero e at is =
    let same : d ≡ e = cc in
    picked_first first w vs (is w are.0.leaf (rw same at are.0.held))
picked_there H all first (d ∷ es) (w ∷ vs) are (suc i) e at is =
    let place : suc (first + 1 + i) ≡ suc (first + suc i) = omega arith in
    rw place at (picked_later first (suc (first + 1 + i)) w vs
    (picked_there H all (first + 1) es vs are.1 i e at (λ v leaf among. is v leaf among ∙ sym place)))

module _ (H : List ℕ → List ℕ) (gives : GivesHashes H) (bytes_at : List ℕ → ℕ → Option (List ℕ)) (tells_all : Type 0)
    (root : List ℕ) (count : ℕ) (es : List (List ℕ × List ℕ)) (all : List ChangedPageAt) (fits : count < 2 ^ 64)
    (source : IsOwnSource H bytes_at root count es)
    (are : AreAllPages H (IsAllowed bytes_at tells_all) root count all) where
  -- each page of the visit is the insertions' own
  own_page : (p : ChangedPageAt) → Contains all p → page_at H es p.prefix ≡ p
  own_page p there =
      let bytes = (visited_pages H (IsAllowed bytes_at tells_all) root count all are).bytes p there in
      let is = visit_own H (IsLoneBelow H) bytes_at tells_all root count es all gives fits source are p there in
      one_page_visited H (IsAllowed bytes_at tells_all) root count all are (page_at H es p.prefix) p
      (own_visit H (IsLoneBelow H) bytes_at tells_all root count es all p.prefix gives fits source are bytes.0
      bytes.1 is.0)
      there refl

  -- so its lone keys are those of insertions
  own_lone : (x : SlotAt) → Contains (lone_slots all) x → own.IsOfLast H gives es x
  unfolding page_of
  own_lone x there =
      let page = of_joined (λ (p : ChangedPageAt). lones_of p.page) all x there in
      let kept = of_passed (λ (x : SlotAt). is_some x.lone) page.0.page x page.2 in
      let P : ChangedPageAt → Type 0 = λ p. Contains p.page x in
      let slot = of_made (slot_of H es (bits_of_bytes page.0.prefix)) (numbers 0 256) x
      (subst P (sym (own_page page.0 page.1)) kept.1) in
      own.of_last H gives es (bits_of_bytes page.0.prefix) slot.0 x slot.2 kept.0

  -- and each insertion's key is one of them
  own_among : (e : List ℕ × List ℕ) → Contains es e → (version : ℕ) × (leaf : List ℕ)
      × IsLoneAmong all (H e.0) version leaf
  unfolding page_of
  own_among e there =
      let a = own.alone H gives es e there in
      let is = gives e.0 in
      let prefix = take a.depth (H e.0) in
      let s = get_or (H e.0) a.depth 0 in
      let size = length-take-le a.depth (H e.0) (let short = a.short in omega (arith, is.has_32)) in
      let page = own_visit H (IsLoneBelow H) bytes_at tells_all root count es all prefix gives fits source are
      (All-take IsByte a.depth (H e.0) is.are_bytes) (let short = a.short in omega (arith, size)) a.is_there in
      let byte : s < 256 = is.are_bytes a.depth 0 (let short = a.short in omega (arith, is.has_32)) in
      let number : Contains (numbers 0 256) s = (let zero_more : 0 + s ≡ s = omega arith in
      rw zero_more at (number_there 0 256 s byte)) in
      let slot = made_there (slot_of H es (bits_of_bytes prefix)) (numbers 0 256) s a.slot number a.is_slot in (
        a.slot.version,
        a.leaf,
        record {
          slot = a.slot;
          there = joined_there (λ (p : ChangedPageAt). lones_of p.page) all (page_at H es prefix) a.slot page
              (passed_there (λ (x : SlotAt). is_some x.lone) (page_of H es (bits_of_bytes prefix)) a.slot
              (ap is_some a.is_lone) slot);
          is_version = refl;
          is_lone = a.is_lone;
        },
      )

  -- what is held under an insertion's key digest is the last one's
  pub own_held : (i : ℕ) (e : List ℕ × List ℕ) (held : Option (ℕ × List ℕ)) → slice_get es i ≡ Some e
      → IsHeldIn all (H e.0) held → (found : ℕ × List ℕ) × (held ≡ Some found) × (i < found.0)
      × (found.0 ≡ i + 1 → found.1 ≡ leaf_digest H e.1)
  own_held i e None at held = let a = own_among e (there_at es i e at) in absurd (held a.0 a.1 a.2)
  own_held i e (Some found) at held =
      let last = own_lone held.slot held.there in
      let mine : List ℕ × List ℕ = (H last.e.0, leaf_digest H last.e.1) in
      let its : List ℕ × List ℕ = (H e.0, found.1) in
      let both : Some mine ≡ Some its = sym last.is_lone ∙ held.is_lone in
      let same : mine ≡ its = cc in
      let later = last.latest i e at (sym (ap (λ (p : List ℕ × List ℕ). p.0) same)) in (
        found,
        refl,
        omega (arith, later, held.is_version),
        λ next.
            let place : last.index ≡ i = omega (arith, next, held.is_version, last.is_version) in
            let one : Some last.e ≡ Some e = sym last.there ∙ ap (slice_get es) place ∙ at in
            let this : last.e ≡ e = cc in
            sym (ap (λ (p : List ℕ × List ℕ). p.1) same) ∙ ap (λ (f : List ℕ × List ℕ). leaf_digest H f.1) this,
      )

  -- there are as many lone keys as last insertions of their keys
  pub own_count : (vs : List ℕ) → AreInPages H all 0 es vs → count_last 0 vs ≡ length (lone_slots all)
  own_count vs in_pages =
      let size : length (versions all) ≡ length (lone_slots all) =
      length-map (lone_slots all) (λ (x : SlotAt). x.version) in
      let few = no_more (picked 0 vs) (versions all) (picked_apart 0 vs) (picked_within H all 0 es vs in_pages) in
      let many = no_more (versions all) (picked 0 vs)
      (pairs-map (λ (x : SlotAt). x.version) (lone_slots all) apart) within in
      omega (arith, size, few, many, length-picked 0 vs)
    where
      within : (v : ℕ) → Contains (versions all) v → Contains (picked 0 vs) v
      within v h =
          let from = of_mapped (λ (x : SlotAt). x.version) (lone_slots all) v h in
          let last = own_lone from.0 from.1 in
          let place : suc (0 + last.index) ≡ v = omega (arith, last.is_version, from.2) in
          rw place at (picked_there H all 0 es vs in_pages last.index last.e last.there
          (λ w leaf among.
          let one = lone_apart H (IsAllowed bytes_at tells_all) root count all are from.0 among.slot (H last.e.0)
          (leaf_digest H last.e.1) leaf from.1 among.there last.is_lone among.is_lone in
          omega (arith, among.is_version, ap (λ (x : SlotAt). x.version) one, last.is_version)))

      apart : AllPairs (λ (x y : SlotAt). x.version ≢ y.version) (lone_slots all)
      apart = pairs_then (λ x y. key_of x.lone ≢ key_of y.lone) (λ x y. x.version ≢ y.version) (lone_slots all)
          (λ x y c d differ same.
          let first = own_lone x c in
          let second = own_lone y d in
          let place : first.index ≡ second.index = omega (arith, first.is_version, second.is_version, same) in
          let one : Some first.e ≡ Some second.e = sym first.there ∙ ap (slice_get es) place ∙ second.there in
          let this : first.e ≡ second.e = cc in
          differ (ap key_of first.is_lone ∙ ap (λ (f : List ℕ × List ℕ). H f.0) this ∙ sym (ap key_of second.is_lone)))
          (keys_apart H (IsAllowed bytes_at tells_all) root count all are)
