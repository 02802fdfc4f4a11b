-- Where two evaluations part that go up side by side, and what that shows.
use Rattle.std.proofs.Common.{◌≡◌, ℕ, Bool, true, false, List, length, Option, Some, ◌⊎◌, inl, inr, refl, sym, ap, ◌∙◌, arith, length-append}
use Rattle.warg_crypto.proofs.ForCallers.{branch_parts, same_or_not, HasSize}
use Rattle.warg_crypto.specs.Tree.{branch_input, where_both, input_beside}
use Rattle.warg_log.specs.Cut.{joined}
use Rattle.warg_witness.specs.Private.Turns.{IsUp}
use Rattle.warg_witness.specs.Private.Divergence.{Parts, Shows, inputs_of}
use Rattle.warg_witness.specs.declared.divergence.Climb.{Climb}
use Rattle.warg_witness.specs.declared.divergence.Divergence.{Divergence}
use Rattle.warg_witness.specs.declared.divergence.Divergence.TheVariants.{Target, Branch}

-- where two evaluations part, what stands in one place stands in another
pub parts_placed : {D : Type 0} (H : List ℕ → List ℕ) {P Q : List ℕ → List ℕ → Type 0} {A B : Type 0} (p : Divergence D)
    → ((l r : List ℕ) → P l r → Q l r) → (A → B) → Parts H P A p → Parts H Q B p
parts_placed H Target placed meet is = meet is
parts_placed H (Branch branches) placed meet is = record { collides = is.collides; placed = placed _ _ is.placed }

-- they show their branches' inputs, or those that are given
pub shown : {D : Type 0} {H : List ℕ → List ℕ} {P Q : List ℕ → List ℕ → Type 0} {A : Type 0} (p : Divergence D)
    → ((l r : List ℕ) → P l r → Q l r) → (first second : List ℕ) → (A → Shows H Q (first, second))
    → Parts H P A p → Shows H Q (inputs_of p first second)
shown Target placed first second meet is = meet is
shown (Branch branches) placed first second meet is = record { collides = is.collides; placed = placed _ _ is.placed }

-- two branches are one where their digests are: those of one side have one length
pub beside_parts : (b : Bool) {x u y v : List ℕ} → length x ≡ length y → input_beside b u x ≡ input_beside b v y
    → (x ≡ y) × (u ≡ v)
beside_parts true {x} {u} {y} {v} sizes same = grind (arith, branch_parts u x v y, length-append u x, length-append v y)
beside_parts false sizes same = branch_parts _ _ _ _ sizes same

-- a step up, by which of the digests are the same
pub up_by : {D : Type 0} {H : List ℕ → List ℕ} (b : Bool) {before after : Climb D} {u v : List ℕ}
    → length before.first ≡ length before.second → after.first ≡ H (input_beside b u before.first)
    → after.second ≡ H (input_beside b v before.second)
    → ((before.first ≡ before.second) × (u ≡ v) × (after.divergence ≡ before.divergence))
    ⊎ ((before.first ≡ before.second → u ≡ v → ⊥) × (after.divergence ≡ Branch (record {
      right = b;
      first = before.first;
      first_beside = u;
      second = before.second;
      second_beside = v;
    }))) → IsUp H b before u v after
up_by b sizes first second ends = grind (arith, beside_parts)

-- a step from digests of one length, whatever stands beside them
pub up_somewhere : {D : Type 0} {H : List ℕ → List ℕ} (b : Bool) (before : Climb D) (u v : List ℕ)
    → length before.first ≡ length before.second → (after : Climb D) × IsUp H b before u v after
up_somewhere {D} {H} b before u v sizes =
    let first = input_beside b u before.first in
    let second = input_beside b v before.second in
    let to : Divergence D → Climb D = λ p. record { first = H first; second = H second; divergence = p } in
    elim (same_or_not first second) [
      | inl same ↦ let parts = beside_parts b sizes same in (
        to before.divergence,
        record { first_is = refl; second_is = refl; diverges = inl (parts.0, parts.1, refl) },
      )
      | inr differ ↦ (to _, record { first_is = refl; second_is = refl; diverges = inr (differ, refl) })
    ]

-- and it leads to digests of one length
pub up_sizes : {D : Type 0} {H : List ℕ → List ℕ} {b : Bool} {before after : Climb D} {u v : List ℕ} → HasSize H
    → IsUp H b before u v after → length after.first ≡ length after.second
up_sizes gives up = ap length up.first_is ∙ gives _ ∙ sym (ap length up.second_is ∙ gives _)

-- where two evaluations come to one digest they part below, from one digest and with one beside it, or at the branches
-- here
pub up_parts : {D : Type 0} {H : List ℕ → List ℕ} {b : Bool} {before after : Climb D} {u v : List ℕ}
    (P : List ℕ → List ℕ → Type 0) (A : Type 0) → IsUp H b before u v after
    → (before.first ≡ before.second → u ≡ v → Parts H P A before.divergence)
    → P (input_beside b u before.first) (input_beside b v before.second) → after.first ≡ after.second
    → Parts H P A after.divergence
up_parts P A up below here one = grind arith

-- a branch that is there has both its parts, which make its input and its digest
pub both_there : (H : List ℕ → List ℕ) (left right : Option (List ℕ)) (d : List ℕ) → joined H left right ≡ Some d
    → (l : List ℕ) × (r : List ℕ) × (left ≡ Some l) × (right ≡ Some r)
    × (where_both branch_input left right ≡ Some (branch_input l r)) × (H (branch_input l r) ≡ d)
both_there H (Some l) (Some r) d is = let one : Some (H (branch_input l r)) ≡ Some d = is in
    (l, r, refl, refl, refl, cc)
both_there H _ _ d is = absurd (cc)
