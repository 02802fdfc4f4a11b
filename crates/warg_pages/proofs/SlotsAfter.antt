-- The slots of a page after more insertions.
use Rattle.std.proofs.Common.{◌≡◌, ℕ, ◌+◌, ◌-◌, ◌*◌, ◌<◌, ◌≤◌, Bool, true, false, not, ◌||◌, ◌&&◌, eqb, List, [], ◌++◌, length, Option, Some, None, refl, sym, ap, ◌∙◌, arith, length-append}
use Rattle.std.proofs.lemmas.Bool.{and_parts, false_from_ne_true, ne_eqb}
use Rattle.std.proofs.lemmas.List.Folds.{list_all-append}
use Rattle.std.specs.Bool.{then_some}
use Rattle.std.specs.List.{list_all}
use Rattle.warg_crypto.specs.Collisions.{GivesHashes}
use Rattle.warg_crypto.specs.Tree.{leaf_digest}
use Rattle.warg_map.specs.Bits.{last_bits, key_bits}
use Rattle.warg_map.specs.Last.{last_with, same_bits}
use Rattle.warg_map.specs.Sparse.{root_of_levels, map_of}
use Rattle.warg_map.proofs.ForCallers.{same_bits-true, same_digest}
use Rattle.warg_pages.specs.Prefixes.{is_below, below, version}
use Rattle.warg_pages.specs.Slots.{is_lone, slot_over}
use Rattle.warg_pages.specs.Pages.{slot_height}
use Rattle.warg_pages.specs.OwnPages.{stands, stands_over}
use Rattle.warg_pages.specs.Private.Descents.{value_above, lone_root}
use Rattle.warg_pages.specs.Private.Updates.{lone_slot, HoldsOnly, StaysAlone, changes_below}
use Rattle.warg_pages.proofs.KeyPrefixes.{length-bits_from}
use Rattle.warg_pages.proofs.BitParts.{key_at}
use Rattle.warg_pages.proofs.PageFormat.{same_parts}
use Rattle.warg_pages.proofs.LoneSlots.{lone_of}
use Rattle.warg_pages.proofs.LoneEnds.{alone_value}
use Rattle.warg_pages.proofs.OwnWays.{own_lone_over}
use Rattle.warg_pages.proofs.Members.{passes}
use Rattle.warg_pages.proofs.LastPassing.{last_found}
use Rattle.warg_pages.proofs.MoreInsertions.{all_none, lone_longer, lone_elsewhere}
use Rattle.warg_pages.proofs.ChangesBelow.{all_of_key, all_one_key}

-- no key but one stood below a slot
held_alone : (H : List ℕ → List ℕ) (old : List (List ℕ × List ℕ)) (q : List Bool) (s : ℕ) (key : List ℕ)
    (last : Option (List ℕ × List ℕ)) → last_with (is_below H q) old ≡ last → HoldsOnly key (slot_over H old q s last)
    → list_all (λ f. not (is_below H q f) || same_bits (last_bits key 256) (key_bits H f.0)) old ≡ true
held_alone H old q s key None l h = all_none H q (last_bits key 256) old l
held_alone H old q s key (Some e) l h =
    let found = lone_of (is_lone H old q e) (H e.0, leaf_digest H e.1) (key, h.0) h.1 in
    let same : H e.0 ≡ key = ap (λ (v : List ℕ × List ℕ). v.0) found.1 in
    rw same at found.0

alone_held : (H : List ℕ → List ℕ) → GivesHashes H → (old : List (List ℕ × List ℕ)) (q : List Bool) (s : ℕ)
    (e : List ℕ × List ℕ) (last : Option (List ℕ × List ℕ)) → last_with (is_below H q) old ≡ last
    → list_all (λ f. not (is_below H q f) || same_bits (key_bits H e.0) (key_bits H f.0)) old ≡ true
    → HoldsOnly (H e.0) (slot_over H old q s last)
alone_held H gives old q s e None l all = tt
alone_held H gives old q s e (Some f) l all =
    let found = last_found (is_below H q) old f l in
    let bits : same_bits (key_bits H e.0) (key_bits H f.0) ≡ true = rw found.1 at (passes _ old all found.0) in
    let same : H e.0 ≡ H f.0 = same_digest H e.0 f.0 (gives _) (gives _) (same_bits-true _ _ bits) in
    let lone : is_lone H old q f ≡ true = rw same at all in (
      leaf_digest H f.1,
      rw lone (ap (λ (k : List ℕ). Some (k, leaf_digest H f.1)) (sym same)),
    )

pub stays_lone : (H : List ℕ → List ℕ) (old more : List (List ℕ × List ℕ)) (q : List Bool) (s n : ℕ)
    (e : List ℕ × List ℕ) → StaysAlone (H e.0) (slot_over H old q s (last_with (is_below H q) old))
    (changes_below H n more q) → is_lone H (old ++ more) q e ≡ true
stays_lone H old more q s n e h =
    list_all-append _ old more ∙ (λ i. held_alone H old q s _ _ refl h.0 i && all_of_key H q n _ more h.1 i)

pub lone_stays : (H : List ℕ → List ℕ) → GivesHashes H → (old more : List (List ℕ × List ℕ)) (q : List Bool) (s n : ℕ)
    (e : List ℕ × List ℕ) → is_lone H (old ++ more) q e ≡ true
    → StaysAlone (H e.0) (slot_over H old q s (last_with (is_below H q) old)) (changes_below H n more q)
lone_stays H gives old more q s n e h =
    let parts = and_parts _ _ (sym (list_all-append _ old more) ∙ h) in
    (alone_held H gives old q s e _ refl parts.0, all_one_key H gives q n e more parts.1)

-- the slot of a lone key
module _ (H : List ℕ → List ℕ) (es : List (List ℕ × List ℕ)) (q : List Bool) where
  pub lone_over_is : (s : ℕ) (e : List ℕ × List ℕ) → last_with (is_below H q) es ≡ Some e → is_lone H es q e ≡ true
      → length q ≤ 256 → root_of_levels H (256 - length q) (below (map_of H es) q)
      ≡ lone_root H (H e.0) (leaf_digest H e.1) (256 - length q)
  lone_over_is s e last lone le =
      let own = own_lone_over H es q s (Some e) _ (H e.0, leaf_digest H e.1) last refl
      (ap (λ b. then_some {T = List ℕ × List ℕ} b (H e.0, leaf_digest H e.1)) lone) in
      let parts = same_parts q own.alone.rest _ _ (sym (length-bits_from _ 0 _))
      (sym own.alone.begins ∙ key_at _ _ le) in
      let size : length own.alone.rest ≡ 256 - length q = ap length parts.1 ∙ length-bits_from _ _ _ in
      ap (λ k. root_of_levels H k (below (map_of H es) q)) (sym size) ∙ alone_value H (below _ q) _ own.alone.rest
      own.alone.alone ∙ ap (value_above H 0 [] (leaf_digest H e.1)) parts.1

  pub lone_slot_is : (depth s : ℕ) (e : List ℕ × List ℕ) → length q ≡ 8 * depth + 8 → depth < 32
      → last_with (is_below H q) es ≡ Some e → is_lone H es q e ≡ true
      → slot_over H es q s (last_with (is_below H q) es)
      ≡ Some (lone_slot H depth s (version H es q) (H e.0, leaf_digest H e.1))
  lone_slot_is depth s e size lt last lone =
      let height : 256 - length q ≡ slot_height depth = omega arith in
      rw last (λ i. Some record {
        byte = s;
        version = version H es q;
        digest = (lone_over_is s e last lone (omega arith) ∙ ap (lone_root H _ _) height) i;
        lone = then_some {T = List ℕ × List ℕ} (lone i) (H e.0, leaf_digest H e.1);
      })

  -- where one is, no page stands
  pub no_page_lone : (r : List Bool) (e : List ℕ × List ℕ) → 0 < length q → last_with (is_below H q) es ≡ Some e
      → is_lone H es q e ≡ true → stands H es (q ++ r) ≡ true → ⊥
  no_page_lone r e some last lone there = either _ refl
    where
      either : (b : Bool) → is_below H (q ++ r) e ≡ b → ⊥
      either true under =
          let long = lone_longer H es q r e last lone under in
          let size : eqb (length (q ++ r)) 0 ≡ false = ne_eqb _ 0 (λ z. let all = length-append q r in
          omega arith) in
          let is : stands H es (q ++ r) ≡ false = ap (stands_over H es (q ++ r)) long.is_last
          ∙ (λ i. size i || not (long.alone i)) in
          let no : true ≡ false = sym there ∙ is in cc
      either false off =
          let is : stands H es (q ++ r) ≡ false = ap (stands_over H es (q ++ r)) (lone_elsewhere H es q r e lone off) in
          cc

  -- and else one does
  pub page_not_lone : (e : List ℕ × List ℕ) → last_with (is_below H q) es ≡ Some e → ¬ (is_lone H es q e ≡ true)
      → stands H es q ≡ true
  page_not_lone e last other = rw (last, false_from_ne_true _ other) (grind arith)

  -- the slot of a page
  pub page_slot_is : (s : ℕ) (last : Option (List ℕ × List ℕ)) → 0 < length q → stands_over H es q last ≡ true
      → slot_over H es q s last ≡ Some record {
        byte = s;
        version = version H es q;
        digest = root_of_levels H (256 - length q) (below (map_of H es) q);
        lone =
            None;
      }
  page_slot_is s None some there = absurd cc
  page_slot_is s (Some e) some there =
      let size : eqb (length q) 0 ≡ false = ne_eqb _ 0 (λ z. omega arith) in
      let alone : is_lone H es q e ≡ false = grind arith in
      rw alone refl
