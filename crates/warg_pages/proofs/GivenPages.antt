-- A page that leads to the root below its prefix has the digests of the map's page, or there is a collision.
use Rattle.std.proofs.Common.{◌≡◌, ℕ, zero, suc, ◌+◌, ◌-◌, ◌*◌, ◌^◌, ◌<◌, ◌≤◌, Bool, List, [], ◌∷◌, ◌++◌, length, ◌⊎◌, inl, inr, refl, sym, ap, ◌∙◌, arith, append_assoc}
use Rattle.std.proofs.lemmas.Bool.{cases_lt}
use Rattle.std.proofs.lemmas.List.Elements.{All-head, All-tail}
use Rattle.std.proofs.Math.Nat.{pow-suc}
use Rattle.std.proofs.lemmas.Nat.{pow_pos}
use Rattle.std.specs.List.{All}
use Rattle.std.specs.FinMap.{get}
use Rattle.warg_crypto.specs.Collisions.{GivesHashes, SomeCollision}
use Rattle.warg_crypto.specs.EmptyTrees.{empty_root}
use Rattle.warg_crypto.proofs.ForCallers.{HasSize, sizes, same_or_not, branch_parts}
use Rattle.warg_map.specs.Sparse.{root_of_levels, map_of}
use Rattle.warg_pages.specs.Prefixes.{byte_bits, below}
use Rattle.warg_pages.specs.Slots.{SlotAt, IsSlot, IsPage, page_of}
use Rattle.warg_pages.specs.Pages.{digest_at, root_over, slot_height, page_digest}
use Rattle.warg_pages.specs.GivenPages.{HaveSameDigests, AreInputsAt}
use Rattle.warg_pages.proofs.PageRoots.{page_byte, page_root, root-same}
use Rattle.warg_pages.proofs.OwnPages.{root_is_digest}

-- digests of 32 bytes
module _ (H : List ℕ → List ℕ) (size : HasSize H) where
  size_empty : (k : ℕ) → length (empty_root H k) ≡ 32
  unfolding empty_root
  size_empty zero = size _
  size_empty _ = size _

  size_over : (f : ℕ → List ℕ) (first k : ℕ) → length (f first) ≡ 32 → length (root_over H f first k) ≡ 32
  unfolding root_over
  size_over f first zero h = h
  size_over f first _ h = size _

  size_at : (height : ℕ) (slots : List SlotAt) (s : ℕ) → All IsSlot slots → length (digest_at H height slots s) ≡ 32
  unfolding digest_at
  size_at height [] s h = size_empty height
  size_at height (x ∷ xs) s h =
      let here = (All-head IsSlot x xs h).digest.has_32 in
      let there = size_at height xs s (All-tail IsSlot x xs h) in
      grind arith

-- two trees of one digest
both : {A B C D : Type 0} → (A → B → C) → A ⊎ D → B ⊎ D → C ⊎ D
both join (inl a) (inl b) = inl (join a b)
both join _ (inr d) = inr d
both join (inr d) b = inr d

abbrev SameOver : (ℕ → List ℕ) → (ℕ → List ℕ) → ℕ → ℕ → Type 0
SameOver f g first k = (s : ℕ) → first ≤ s → s < first + 2 ^ k → f s ≡ g s

halves : (f g : ℕ → List ℕ) (first k : ℕ) → SameOver f g first k → SameOver f g (first + 2 ^ k) k
    → SameOver f g first (suc k)
halves f g first k l r = λ s ge lt.
    elim (cases_lt s (first + 2 ^ k)) [ inl low ↦ l s ge low | inr high ↦ r s high (omega arith) ]

abbrev Sized : (ℕ → List ℕ) → Type 0
Sized f = (s : ℕ) → s < 256 → length (f s) ≡ 32

same_over : (H : List ℕ → List ℕ) → HasSize H → (depth : ℕ) (xs ys : List SlotAt) (first k place : ℕ)
    → first ≡ place * 2 ^ k → first + 2 ^ k ≤ 256 → Sized (digest_at H (slot_height depth) xs)
    → Sized (digest_at H (slot_height depth) ys)
    → root_over H (digest_at H (slot_height depth) xs) first k ≡ root_over H (digest_at H (slot_height depth) ys) first
    k
    → SameOver (digest_at H (slot_height depth) xs) (digest_at H (slot_height depth) ys) first k
    ⊎ SomeCollision H (AreInputsAt H depth xs ys)
unfolding root_over
same_over H size depth xs ys first zero place from le lf lg e =
    inl (λ s ge lt. let at : s ≡ first = omega arith in rw at e)
same_over H size depth xs ys first (suc k) place from le lf lg e =
    let double = pow-suc 2 k in
    let scaled = ap (λ p. place * p) double in
    let some = pow_pos k in
    let f = digest_at H _ xs in
    let g = digest_at H (slot_height depth) ys in
    elim (same_or_not _ _) [
      | inl same ↦ (
          let parts = branch_parts _ _ _ _ (size_over H size f first k (lf first (omega arith))
          ∙ sym (size_over H size g first k (lg first (omega arith)))) same in
          both (halves f g first k)
          (same_over H size depth xs ys first k (2 * place) (omega arith) (omega arith) lf lg parts.0)
          (same_over H size depth xs ys (first + 2 ^ k) k (2 * place + 1) (omega arith) (omega arith) lf lg parts.1))
      | inr differ ↦ inr record {
        first = _;
        second = _;
        collide = record { differ = differ; same = e };
        placed = record {
          first = first;
          levels = k;
          place = place;
          aligned = omega arith;
          in_page = omega arith;
          one_is = refl;
          other_is = refl;
        };
      }
    ]

-- the law
pub given_page : (H : List ℕ → List ℕ) (es : List (List ℕ × List ℕ)) (p : List Bool) (depth : ℕ) (slots : List SlotAt)
    → GivesHashes H → depth < 32 → length p ≡ 8 * depth → IsPage slots
    → page_digest H depth slots ≡ root_of_levels H (256 - 8 * depth) (below (map_of H es) p)
    → HaveSameDigests H depth slots (page_of H es p) ⊎ SomeCollision H (AreInputsAt H depth slots (page_of H es p))
given_page H es p depth slots gives lt n page e =
    let size = sizes gives in
    both (λ same (u : Unit {0}) s low. same s (omega arith) low)
    (same_over H size depth slots _ 0 8 0 (omega arith) (omega arith)
    (λ s low. size_at H size _ slots s page.are_slots) own (e ∙ sym (page_root H es p depth lt n))) (inl tt)
  where
    own : Sized (digest_at H (slot_height depth) (page_of H es p))
    own s low =
        let at : digest_at H (slot_height depth) (page_of H es p) s ≡ root_of_levels H (slot_height depth)
        (λ r. below (map_of H es) p (byte_bits s ++ r)) = page_byte H es p depth s lt n low in
        let same = root-same H _ (λ r. below _ p _) (below _ _) (λ r. ap (get (map_of H es)) (sym (append_assoc p _ r)))
        in
        ap length (at ∙ same) ∙ (root_is_digest H gives es _ _).has_32
