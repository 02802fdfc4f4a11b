-- What proofs show of given entries, where they diverge from the trees over them.
use Rattle.std.proofs.Common.{◌≡◌, ℕ, ◌^◌, ◌<◌, List, [], ◌∷◌, Some, ◌∙◌, arith, ap, length, map, get_or}
use Rattle.std.proofs.lemmas.Nat.{pow_pos}
use Rattle.std.proofs.lemmas.Bool.Decides.{nat_tests}
use Rattle.warg_log.specs.Nodes.{height_of, start_of}
use Rattle.warg_log.specs.Tree.{leaves_of}
use Rattle.warg_log.specs.Claims.{InclusionClaim}
use Rattle.warg_witness.specs.Claims.{IsEntry, Begins}
use Rattle.warg_witness.specs.Inputs.{plain_input, cut_input, value_input}
use Rattle.warg_witness.specs.Placed.{IsValuePlaced, IsHashPlaced, IsAgreementPlaced, IsPlacedInBoth}
use Rattle.warg_witness.specs.Private.Agreement.{IsAt, DiffersFirst}
use Rattle.warg_witness.specs.Private.Meeting.{IsMeeting}
use Rattle.warg_witness.specs.Private.Divergence.{root_at, IsDivergence, Shows, inputs_of, IsAbove}
use Rattle.warg_witness.specs.declared.divergence.Divergence.{Divergence}
use Rattle.warg_witness.proofs.RangeLemmas.{Digest, Data, part_in, IsPart-trans}
use Rattle.warg_witness.proofs.ClimbLemmas.{shown}
use Rattle.warg_witness.proofs.CutLemmas.{leaves_count, DivergesFrom, plain_digest_is, own_second, own_input}
use Rattle.warg_log.proofs.ForCallers.{pow_below_pow}
use Rattle.warg_log.specs.Cut.{with_target, with_own}
use Rattle.warg_witness.specs.Ranges.{IsPart}
use Rattle.warg_log.specs.Ranges.{Range, leaves_from, range_of}
use Rattle.std.proofs.lemmas.List.{get_or-map, get_or-take}

-- what was read of a list of entries at a place
pub entry_at : {V : Type 0} (f : V → List ℕ) (entries : List V) (i : ℕ) {e : V} → i < length entries
    → e ≡ get_or entries i e → get_or (map f entries) i [] ≡ f e
entry_at f entries i {e} within is = grind (arith, get_or-map)

-- a lone leaf's entry is the value's claim
pub entry_from : {value : List ℕ} {entries : List (List ℕ)} (node : ℕ)
    → IsAt value entries (start_of node) (2 ^ height_of node) → IsEntry value node entries
entry_from node at = let low = pow_below_pow (height_of node) 1 in search (at, low, arith)

-- at the target the plain input is the value's leaf only where the claim is true
leaf_same : (H : Digest) (value : List ℕ) (entries : List (List ℕ)) (s w : ℕ) → 0 < w
    → ◌≡◌ {A = List ℕ} (0 ∷ value) (plain_input H entries s w) → IsAt value entries s w
leaf_same H value entries s w some e = grind (arith, nat_tests)

-- the evaluation's input around a value, at the value and elsewhere
value_here : (H : Digest) (F : Data) (v : List ℕ) (target : Range) → value_input H F target v target ≡ Some (0 ∷ v)
value_here H F v target = grind (arith, nat_tests)

value_above : (H : Digest) (F : Data) (v : List ℕ) (target range : Range) → IsAbove target range
    → value_input H F target v range ≡ cut_input H (with_target F target (H (0 ∷ v))) range
value_above H F v target range over = let more = over.more in grind (arith, nat_tests)

module _ (H : Digest) (F : Data) (entries ds : List (List ℕ)) (is : ds ≡ leaves_of H entries) (node : ℕ) where
  pub value_placed : (value first second : List ℕ)
      → DivergesFrom H (with_target F (range_of node) (H (0 ∷ value))) ds first second
      → IsValuePlaced H F value node entries first second
  value_placed value first second diverges = grind (
    arith,
    own_second H entries ds is (pow_pos (height_of node))
        diverges,
    pow_pos (height_of node),
    value_above H F value (range_of node) diverges.range diverges.above,
  )

  pub value_meets : (value : List ℕ) → (IsAt value entries (start_of node) (2 ^ height_of node) → ⊥)
      → (H (0 ∷ value) ≡ root_at H ds (range_of node)) × IsPart 0 (length ds) (start_of node) (2 ^ height_of node)
      → Shows H (IsValuePlaced H F value node entries)
      (0 ∷ value, plain_input H entries (start_of node) (2 ^ height_of node))
  value_meets value other meets = grind (arith, leaves_count, plain_digest_is, pow_pos, part_in, leaf_same, value_here)

  pub hash_placed : (hash first second : List ℕ) → DivergesFrom H (with_target F (range_of node) hash) ds first second
      → IsHashPlaced H F hash node entries first second
  hash_placed hash first second diverges = grind (
    arith,
    own_second H entries ds is (pow_pos (height_of node))
        diverges,
    pow_pos (height_of node),
  )

-- what a meeting shows, where the claim is false
pub value_shown : {D : Type 0} {H : Digest} {F : Data} {proof : InclusionClaim} {value : List ℕ}
    {entries tree : List (List ℕ)} {target : Range} {p : Divergence D} → target ≡ range_of proof.leaf.0
    → IsMeeting H F proof (H (0 ∷ value)) entries tree p → (IsAt value entries target.start target.count → ⊥)
    → Shows H (IsValuePlaced H F value proof.leaf.0 entries)
    (inputs_of p (0 ∷ value) (plain_input H entries target.start target.count))
value_shown {H = H} {F} {proof} {value} {entries} {tree} {p = p} here met other =
    rw here (shown p (value_placed H F entries tree met.tree_is proof.leaf.0 value) _ _
    (value_meets H F entries tree met.tree_is proof.leaf.0 value (rw here at other)) met.diverges)

-- the claim is that the value is the entry of the lone leaf
pub value_held : {value : List ℕ} {entries : List (List ℕ)} {target : Range} {node : ℕ} → target ≡ range_of node
    → IsAt value entries target.start target.count → IsEntry value node entries
value_held {node = node} here at = entry_from node (rw here at at)

pub value_from : {value : List ℕ} {entries : List (List ℕ)} {target : Range} {node : ℕ} → target ≡ range_of node
    → IsEntry value node entries → IsAt value entries target.start target.count
value_from here is = rw here (ap (λ h. 2 ^ h) is.leaf, is.same)

-- two evaluations that diverge, of other values
pub agreement_shown : {D : Type 0} (H : Digest) (F : Data) (v : List ℕ) (G : Data) (u : List ℕ) (node n : ℕ)
    (p : Divergence D) → (v ≡ u → ⊥) → IsDivergence H (with_target F (range_of node) (H (0 ∷ v)))
    (with_target G (range_of node) (H (0 ∷ u))) (leaves_from 0 n) p
    → Shows H (IsAgreementPlaced H (F, v) (G, u) node n) (inputs_of p (0 ∷ v) (0 ∷ u))
agreement_shown H F v G u node n p other = grind (arith, shown, value_above, value_here)

-- two trees of one digest at a range of both show where they diverge below it, or a place at which the entries differ
pub both_shown : {D : Type 0} (H : Digest) (old new : List (List ℕ)) (place : ℕ) (range : Range)
    → IsPart 0 (length old) range.start range.count → IsPart 0 (length new) range.start range.count
    → (p : Divergence D) → IsDivergence H (with_own H (leaves_of H old) (leaves_from place 1))
    (with_own H (leaves_of H new) (leaves_from place 1)) range p → (get_or old place [] ≡ get_or new place [] → ⊥)
    → Shows H (IsPlacedInBoth H old new) (inputs_of p (0 ∷ get_or old place []) (0 ∷ get_or new place []))
both_shown H old new place range in_old in_new p diverges differ = shown p
    (λ first second at. let more = at.above.more in let old_part = IsPart-trans in_old at.part in let new_part =
    IsPart-trans in_new at.part in let old_plain = own_input H old (leaves_from place 1) at.range first old_part
    more at.first_input in let new_plain = own_input H new (leaves_from place 1) at.range second new_part more
    at.second_input in search (old_part, new_part, old_plain, new_plain)) _ _
    (λ meets. let old_part = IsPart-trans in_old meets.1 in let new_part = IsPart-trans in_new meets.1 in let
    old_at = (part_in old_part).0 in let new_at = (part_in new_part).0 in grind
    (arith, plain_digest_is H old place 1, plain_digest_is H new place 1)) diverges

-- entries that differ from others at a place don't begin them
pub differs_not_begins : (old new : List (List ℕ)) (place : ℕ) → DiffersFirst old new place → Begins old new → ⊥
differs_not_begins old new place differs begins = differs.differ (ap (λ xs. get_or xs place []) begins
    ∙ get_or-take (length old) new place [] differs.within)

pub difference_in : (H : Digest) {old new tree : List (List ℕ)} {place : ℕ} → tree ≡ leaves_of H old
    → DiffersFirst old new place → place < length tree
difference_in H {old} is differs = rw (is, leaves_count H old) differs.within
