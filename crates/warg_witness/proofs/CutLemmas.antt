-- Evaluations over the ranges of a log's tree: one, two side by side, and that of the tree over entries.
use Rattle.std.proofs.Common.{◌≡◌, ℕ, ◌+◌, ◌<◌, ◌≤◌, Bool, true, false, not, List, ◌∷◌, length, Some, refl, sym, ap, ◌∙◌, arith}
use Rattle.std.proofs.Math.Seq.{take-length}
use Rattle.std.proofs.lemmas.List.{length-map, get_or-map}
use Rattle.std.proofs.lemmas.Bool.Decides.{nat_tests}
use Rattle.warg_crypto.specs.Tree.{input_beside}
use Rattle.warg_log.specs.Tree.{leaves_of, root_of, root_over}
use Rattle.warg_log.specs.Cut.{Evaluation, with_target, with_own, joined, cut_over}
use Rattle.warg_log.specs.Ranges.{Range, leaves_from, front_part, rest_part, IsAligned}
use Rattle.warg_log.proofs.ForCallers.{counts, cut_own_range, cut_parts, cut_target, front_is_greatest, root_over_one, root_over_parts}
use Rattle.warg_witness.specs.Ranges.{IsPart}
use Rattle.warg_witness.specs.Ranges.IsPart.{whole}
use Rattle.warg_witness.specs.Inputs.{plain_input, cut_input}
use Rattle.warg_witness.specs.Private.Turns.{IsUp}
use Rattle.warg_witness.specs.Private.Divergence.{at_bottom, HaveOneDigest, DivergesAt, LackDigest, IsRangeClimb, IsNodeRange, IsAbove, side_of}
use Rattle.warg_witness.specs.declared.divergence.Climb.{Climb}
use Rattle.warg_witness.proofs.HashLemmas.{entries_count}
use Rattle.warg_witness.proofs.ClimbLemmas.{parts_placed, up_parts, both_there}
use Rattle.warg_witness.proofs.RangeLemmas.{Digest, Data, node_some, side_part, IsPart-trans, whole_aligned, front_aligned, rest_aligned, part_in}

-- the cut root of a range above a target is the branch over its sides
pub cut_around : (H : Digest) (e : Evaluation) (range : Range) → IsNodeRange e.target → IsAbove e.target range
    → cut_over H e range ≡ joined H (cut_over H e (front_part range)) (cut_over H e (rest_part range))
cut_around H e range node over = grind (arith, node_some node, cut_parts, counts)

module _ (H : Digest) (e : Evaluation) (range : Range) (node : IsNodeRange e.target) (over : IsAbove e.target range)
  where
    -- so a digest at the range takes one at each side
    pub sides_there : (right : Bool) {d : List ℕ} → cut_over H e range ≡ Some d → (t : List ℕ) × (u : List ℕ)
        × (cut_over H e (side_of right range) ≡ Some t) × (cut_over H e (side_of (not right) range) ≡ Some u)
    sides_there false is = let parts = both_there H _ _ _ (sym (cut_around H e range node over) ∙ is) in
        (parts.0, parts.1, parts.2, parts.3)
    sides_there true is = let parts = both_there H _ _ _ (sym (cut_around H e range node over) ∙ is) in
        (parts.1, parts.0, parts.3, parts.2)

    -- and those at the sides make the range's input and its digest
    sides_made : (right : Bool) {t u : List ℕ} → cut_over H e (side_of right range) ≡ Some t
        → cut_over H e (side_of (not right) range) ≡ Some u
        → (cut_input H e range ≡ Some (input_beside right u t))
        × (cut_over H e range ≡ Some (H (input_beside right u t)))
    sides_made false near far = (rw (near, far) refl, cut_around H e range node over ∙ rw (near, far) refl)
    sides_made true near far = (rw (near, far) refl, cut_around H e range node over ∙ rw (near, far) refl)

module _ (H : Digest) (F : Data) (x : List ℕ) (G : Data) (y : List ℕ) (target range : Range) where
  abbrev e : Evaluation
  e = with_target F target x

  abbrev f : Evaluation
  f = with_target G target y

  -- both evaluations at the target
  pub ranges_start : {D : Type 0} {climb : Climb D} → range ≡ target → climb ≡ at_bottom x y
      → IsRangeClimb H e f range climb
  ranges_start here bottom = rw (here, bottom) (record {
    first_is = cut_target H e;
    second_is = cut_target H f;
    diverges = λ same. (same, whole);
  })

  module _ (node : IsNodeRange target) (over : IsAbove target range) (right : Bool) where
    -- where a digest lacks at a side, one lacks at the range
    pub sides_lack : ((t u z v : List ℕ) → cut_over H e (side_of right range) ≡ Some t
        → cut_over H e (side_of (not right) range) ≡ Some u → cut_over H f (side_of right range) ≡ Some z
        → cut_over H f (side_of (not right) range) ≡ Some v → ⊥) → LackDigest H e f range
    sides_lack none = λ _ _ is other_is. let first = sides_there H e range node over right is in
        let second = sides_there H f range node over right other_is in none _ _ _ _ first.2 first.3 second.2 second.3

    -- one branch up
    pub ranges_up : {D : Type 0} {u v : List ℕ} {before after : Climb D}
        → IsRangeClimb H e f (side_of right range) before → cut_over H e (side_of (not right) range) ≡ Some u
        → cut_over H f (side_of (not right) range) ≡ Some v → IsUp H right before u v after
        → IsRangeClimb H e f range after
    ranges_up {before = before} climb far other_far up =
        let first = sides_made H e range node over right climb.first_is far in
        let second = sides_made H f range node over right climb.second_is other_far in
        let some = node_some node in
        let outer = side_part right range whole (omega (arith, over.more)) in record {
          first_is = first.1 ∙ ap Some (sym up.first_is);
          second_is = second.1 ∙ ap Some (sym up.second_is);
          diverges = up_parts (DivergesAt H e f range)
              ((x ≡ y) × IsPart range.start range.count target.start target.count) up
              (λ same _. parts_placed H before.divergence
              (λ _ _ is. search (IsPart-trans, outer, is)) (λ is. (is.0, IsPart-trans outer is.1))
              (climb.diverges same))
              (search (whole, over, first.0, second.0));
        }

-- the leaves are as many as the entries
pub leaves_count : (H : Digest) (entries : List (List ℕ)) → length (leaves_of H entries) ≡ length entries
leaves_count H entries = length-map entries (λ e. H (0 ∷ e))

pub ruleset counted = (leaves_count, entries_count)

-- An evaluation and the tree of these leaf digests diverge at these inputs.
abbrev pub DivergesFrom : Digest → Evaluation → List (List ℕ) → List ℕ → List ℕ → Type 0
DivergesFrom H e ds first second = DivergesAt H e (with_own H ds e.target) (leaves_from 0 (length ds)) first second

module _ (H : Digest) where
  -- over a log's own digests, with the target's own digest, the cut root of all leaves is the plain root
  own_root : (ds : List (List ℕ)) (target : Range) → 0 < length ds
      → cut_over H (with_own H ds target) (leaves_from 0 (length ds)) ≡ Some (root_of H ds)
  own_root ds target some = grind (arith, cut_own_range, whole_aligned, take-length)

  -- an evaluation that leads to a tree's root has it in common with the tree, and two trees have a range at which they
  -- have one digest
  pub have_root : {e : Evaluation} (ds : List (List ℕ))
      → cut_over H e (leaves_from 0 (length ds)) ≡ Some (root_of H ds) → 0 < length ds
      → HaveOneDigest H e (with_own H ds e.target) (leaves_from 0 (length ds))
  have_root {e} ds leads some =
      record { digest = root_of H ds; first = leads; second = own_root ds e.target some }

  pub root_led : {e : Evaluation} (ds : List (List ℕ))
      → HaveOneDigest H e (with_own H ds e.target) (leaves_from 0 (length ds)) → 0 < length ds
      → cut_over H e (leaves_from 0 (length ds)) ≡ Some (root_of H ds)
  root_led {e} ds one some = one.first ∙ sym one.second ∙ own_root ds e.target some

  pub have_range : (ds es : List (List ℕ)) (target range : Range) → IsAligned range.start range.count → 0 < range.count
      → range.start + range.count ≤ length ds → range.start + range.count ≤ length es
      → root_over H ds range.start range.count ≡ root_over H es range.start range.count
      → HaveOneDigest H (with_own H ds target) (with_own H es target) range
  have_range ds es target range aligned some in_first in_second same = grind (
    arith,
    cut_own_range H ds target range some aligned in_first,
    cut_own_range H es target range some aligned
        in_second,
  )

  -- the root over a range is the digest of the plain input there
  pub plain_digest_is : (entries : List (List ℕ)) (a n : ℕ) → 0 < n → a + n ≤ length entries
      → root_over H (leaves_of H entries) a n ≡ H (plain_input H entries a n)
  plain_digest_is entries a n some within = grind (
    arith,
    leaves_count,
    nat_tests,
    root_over_parts,
    root_over_one,
    get_or-map,
  )

  -- over the entries' own digests the evaluation's input at a range is the plain one, as where an evaluation diverges
  -- from the tree
  pub own_input : (entries : List (List ℕ)) (target range : Range) (second : List ℕ)
      → IsPart 0 (length entries) range.start range.count → 1 < range.count
      → cut_input H (with_own H (leaves_of H entries) target) range ≡ Some second
      → second ≡ plain_input H entries range.start range.count
  own_input entries target range second part more is =
      let at = part_in part in
      let f = front_is_greatest range.count more in
      let len = leaves_count H entries in
      let left = cut_own_range H (leaves_of H entries) target (front_part range) (omega arith)
      (front_aligned at.1 (omega arith)) (omega arith) in
      let right = cut_own_range H (leaves_of H entries) target (rest_part range) (omega arith)
      (rest_aligned at.1 more) (omega arith) in
      grind (arith, nat_tests)

  pub own_second : {e : Evaluation} (entries ds : List (List ℕ)) {first second : List ℕ} → ds ≡ leaves_of H entries
      → 0 < e.target.count → (diverges : DivergesFrom H e ds first second)
      → IsPart 0 (length entries) diverges.range.start diverges.range.count
      × (second ≡ plain_input H entries diverges.range.start diverges.range.count)
  own_second {e} entries ds {first} {second} is some diverges = grind (arith, leaves_count, own_input)
