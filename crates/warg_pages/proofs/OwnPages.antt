-- The slots of insertions are those of a page.
use Rattle.std.proofs.Common.{◌≡◌, ℕ, zero, ◌+◌, ◌^◌, ◌<◌, ◌≤◌, Bool, true, false, List, [], ◌∷◌, ◌++◌, length, Option, Some, None, arith}
use Rattle.std.specs.Prelude.{unwrap_or}
use Rattle.std.specs.Bool.{then_some}
use Rattle.std.specs.Option.{option_map}
use Rattle.warg_crypto.specs.Digests.{IsDigest}
use Rattle.warg_crypto.specs.Collisions.{GivesHashes}
use Rattle.warg_crypto.specs.EmptyTrees.{empty_root}
use Rattle.warg_crypto.specs.Tree.{leaf_digest}
use Rattle.warg_map.specs.Last.{last_with}
use Rattle.warg_map.specs.Sparse.{root_of_levels, map_of}
use Rattle.warg_map.proofs.ForCallers.{last_held}
use Rattle.warg_pages.specs.Prefixes.{byte_bits, below, is_below, last_place}
use Rattle.warg_pages.specs.Slots.{SlotAt, IsSlot, IsPage, slot_over, page_of}
use Rattle.warg_pages.proofs.Members.{each}
use Rattle.warg_pages.proofs.LoneSlots.{some_same}
use Rattle.warg_pages.proofs.PageRoots.{page_ascends, from_page}

-- a version is at most the length
pub version_within : {X : Type 0} (p : X → Bool) (xs : List X) → last_place p xs ≤ length xs
unfolding last_place
version_within p [] = omega arith
version_within p (x ∷ xs) = let rest = version_within p xs in grind arith

-- roots are digests
module _ (H : List ℕ → List ℕ) (gives : GivesHashes H) where
  leaf_is_digest : (o : Option (List ℕ × List ℕ))
      → IsDigest (unwrap_or (option_map (λ (x : List ℕ × List ℕ). leaf_digest H x.1) o) (empty_root H 0))
  unfolding empty_root
  leaf_is_digest None = gives _
  leaf_is_digest _ = gives _

  levels_are_digests : (k : ℕ) (held : List Bool → Option (List ℕ)) → IsDigest (unwrap_or (held []) (empty_root H 0))
      → IsDigest (root_of_levels H k held)
  unfolding root_of_levels
  levels_are_digests zero held h = h
  levels_are_digests _ held h = gives _

  pub root_is_digest : (es : List (List ℕ × List ℕ)) (p : List Bool) (k : ℕ)
      → IsDigest (root_of_levels H k (below (map_of H es) p))
  root_is_digest es p k = levels_are_digests k _
      (rw (last_held H (p ++ []) es) (leaf_is_digest _))

  -- a slot of insertions is one
  lone_is : (b : Bool) (e l : List ℕ × List ℕ) → then_some b (H e.0, leaf_digest H e.1) ≡ Some l
      → IsDigest l.0 × IsDigest l.1
  lone_is false e l is = absurd cc
  lone_is true e l is = rw (← some_same is) (gives _, gives _)

abbrev IsSlotIf : Option SlotAt → Type 0
IsSlotIf None = Unit {0}
IsSlotIf (Some x) = IsSlot x

own_slot : (H : List ℕ → List ℕ) → GivesHashes H → (es : List (List ℕ × List ℕ)) (p : List Bool) (s : ℕ)
    (last : Option (List ℕ × List ℕ)) → length es < 2 ^ 64 → s < 256 → IsSlotIf (slot_over H es p s last)
own_slot H gives es p s None fits lt = tt
own_slot H gives es p s (Some e) fits lt = record {
  is_byte = lt;
  fits = (let le = version_within (is_below H p) es in omega arith);
  digest = root_is_digest H gives es p _;
  lone = lone_is H gives _ e;
}

-- the law
pub own_slots : (H : List ℕ → List ℕ) (es : List (List ℕ × List ℕ)) (p : List Bool) → GivesHashes H → length es < 2 ^ 64
    → IsPage (page_of H es p)
own_slots H es p gives fits = record {
  ascend = page_ascends H es p;
  are_slots = each (page_of H es p) (λ x c. let at = from_page H es p x c in
      rw at.is_slot at (own_slot H gives es (p ++ byte_bits x.byte) x.byte
      (last_with (is_below H (p ++ byte_bits x.byte)) es) fits at.to));
}
