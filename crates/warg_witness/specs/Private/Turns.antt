-- Evaluations along two paths of one place, side by side. The digests of a path are given from the topmost down.
use Rattle.std.specs.Prelude.{◌≡◌, ℕ, ◌⊎◌, Bool, List, reverse, Option, Some}
use Rattle.warg_crypto.specs.Tree.{input_beside}
use Rattle.warg_paths.specs.Paths.{inclusion_root, root_down}
use Rattle.warg_paths.specs.Ways.{IsOnWay, ArePathInputs}
use Rattle.warg_witness.specs.declared.divergence.Climb.{Climb}
use Rattle.warg_witness.specs.declared.divergence.Divergence.{Divergence}
use Rattle.warg_witness.specs.Private.Divergence.{Parts}
use Rattle.warg_witness.specs.declared.divergence.Divergence.TheVariants.{Branch}

-- A step on the side of a bit, with u beside the first digest and v beside the second: the evaluations diverge where they did
-- before, with one digest below and one beside; or the inputs differ, and they diverge here.
pub record IsUp {D : _} (H : List ℕ → List ℕ) (bit : Bool) (before : Climb D) (u v : List ℕ) (after : Climb D) : Type 0 where
  pub first_is : after.first ≡ H (input_beside bit u before.first)
  pub second_is : after.second ≡ H (input_beside bit v before.second)
  pub diverges : ((before.first ≡ before.second) × (u ≡ v) × (after.divergence ≡ before.divergence))
      ⊎ ((input_beside bit u before.first ≡ input_beside bit v before.second → ⊥)
      × (after.divergence ≡ Branch (record { right = bit; first = before.first; first_beside = u; second = before.second; second_beside = v })))

-- What is so of all two paths of one place of which these digests are left at leaf m of n.
abbrev pub Along : List (List ℕ) → List (List ℕ) → ℕ → ℕ → (ℕ → ℕ → List (List ℕ) → List (List ℕ) → Type 0) → Type 0
Along ds es m n P = (index count : ℕ) (path other : List (List ℕ)) (a : ℕ)
    → IsOnWay index 0 count (reverse path) m a n ds → IsOnWay index 0 count (reverse other) m a n es → P index count path other

-- One of two paths to leaf m of n, each with the digest of the leaf, and from the topmost digest down, leads to no digest.
abbrev pub LeadNowhere : (List ℕ → List ℕ) → List ℕ × List (List ℕ) → List ℕ × List (List ℕ) → ℕ → ℕ → Type 0
LeadNowhere H p q m n = (first second : List ℕ) → root_down H m n p.0 p.1 ≡ Some first → root_down H m n q.0 q.1 ≡ Some second → ⊥

-- Both, from the topmost digest down, lead to the climb's digests, and diverge as it says if the two are one.
pub record IsPathClimb {D : _} (H : List ℕ → List ℕ) (p q : List ℕ × List (List ℕ)) (m n : ℕ) (climb : Climb D) : Type 0 where
  pub first_led : root_down H m n p.0 p.1 ≡ Some climb.first
  pub second_led : root_down H m n q.0 q.1 ≡ Some climb.second
  pub diverges : climb.first ≡ climb.second
      → Parts H (λ first second. Along p.1 q.1 m n (λ index count path other. ArePathInputs H index count p.0 path q.0 other first second)) (p.0 ≡ q.0) climb.divergence

-- Two paths don't lead to one root.
abbrev pub NeverMeet : (List ℕ → List ℕ) → List ℕ × List (List ℕ) → List ℕ × List (List ℕ) → ℕ → ℕ → Type 0
NeverMeet H p q m n = (root : List ℕ) → inclusion_root H m n p.0 p.1 ≡ Some root → inclusion_root H m n q.0 q.1 ≡ Some root → ⊥

-- They lead to one root, and diverge as said on the way down from it.
pub record IsPathsMeeting {D : _} (H : List ℕ → List ℕ) (p q : List ℕ × List (List ℕ)) (m n : ℕ) (divergence : Divergence D) : Type 0 where
  pub root : List ℕ
  pub first_is : inclusion_root H m n p.0 p.1 ≡ Some root
  pub second_is : inclusion_root H m n q.0 q.1 ≡ Some root
  pub diverges : Parts H (ArePathInputs H m n p.0 p.1 q.0 q.1) (p.0 ≡ q.0) divergence
