-- What is found of two values, by what their evaluations show.
use Rattle.std.proofs.Common.{◌≡◌, ℕ, ◌∷◌, List, Option, Some, None, Result, IfSome, IfOk, refl, subst, sym, ◌∙◌}
use Rattle.std.proofs.lemmas.Result.{IfOk-weaker}
use Rattle.std.specs.Option.{MatchOption}
use Rattle.warg_crypto.specs.Collisions.{Collides}
use Rattle.warg_crypto.specs.Tree.{leaf_input}
use Rattle.warg_log.specs.Claims.{InclusionClaim}
use Rattle.warg_log.specs.Cut.{with_target}
use Rattle.warg_log.specs.Nodes.{ExistsAt}
use Rattle.warg_log.specs.Ranges.{Range, leaves_from, range_of}
use Rattle.warg_log.proofs.ForCallers.{inclusion_leads}
use Rattle.warg_map.specs.Bits.{last_bits}
use Rattle.warg_map.specs.ProofValue.{proof_value}
use Rattle.warg_witness.specs.Claims.{IsAgreement, IsMet, IsRootBelow}
use Rattle.warg_witness.specs.Findings.{Finds}
use Rattle.warg_witness.specs.MapClaims.{IsKeyAgreement, IsKeyMet}
use Rattle.warg_witness.specs.MapPlaced.{IsKeyAgreementPlaced, IsPlacedAtPrefix}
use Rattle.warg_witness.specs.PathClaims.{IsRecordAgreement}
use Rattle.warg_witness.specs.PathPlaced.{IsRecordAgreementPlaced}
use Rattle.warg_witness.specs.Placed.{IsAgreementPlaced, IsHashPlaced}
use Rattle.warg_witness.specs.UpdateClaims.{IsUpdated}
use Rattle.warg_witness.specs.Private.Agreement.{IsAgreed, IsCompared, IsFoundAt}
use Rattle.warg_witness.specs.Private.Divergence.{HaveOneDigest, IsDivergence, Parts, Shows, inputs_of}
use Rattle.warg_witness.specs.Private.MapMeeting.{IsKeyMeeting, MeetsOnPath}
use Rattle.warg_witness.specs.Private.Meeting.{IsMeeting, IsPlainAt}
use Rattle.warg_witness.specs.Private.Turns.{NeverMeet, IsPathsMeeting}
use Rattle.warg_witness.specs.declared.collision.Finding.{Finding}
use Rattle.warg_witness.specs.declared.collision.Finding.TheVariants.{Holds, NotMet, Collision}
use Rattle.warg_witness.specs.declared.divergence.Divergence.{Divergence}
use Rattle.warg_witness.specs.declared.divergence.Divergence.TheVariants.{Target, Branch}
use Rattle.warg_witness.proofs.ClimbLemmas.{parts_placed}
use Rattle.warg_witness.proofs.RangeLemmas.{Digest, Data}
use Rattle.warg_witness.proofs.ShownLemmas.{agreement_shown, hash_placed}
use Rattle.warg_witness.proofs.RecordLemmas.{record_agreement_shown}
use Rattle.warg_witness.proofs.KeyLemmas.{key_agreement_shown, own_grown_root}

-- where two evaluations are agreed on
module _ {D : Type 0} (H : Digest) {agree : Type 0} {placed : List ℕ → List ℕ → Type 0} {first second : List ℕ} where
  pub agreed_collides : (met : Option (Divergence D)) → IsAgreed H agree placed first second met
      → IfSome met (λ p. (first ≡ second → ⊥) → Collides H (inputs_of p (leaf_input first) (leaf_input second)))
  agreed_collides None agreed = tt
  agreed_collides (Some p) agreed = λ other. (agreed.is.1 other).collides

  pub agreed_none : (met : Option (Divergence D)) → IsAgreed H agree placed first second met → (agree → ⊥) → met ≡ None
  agreed_none None agreed other = refl
  agreed_none (Some p) agreed other = absurd (other agreed.is.0)

  found : {A : Type 0} (met : Option (Divergence D)) → IsAgreed H agree placed first second met → (it : Finding D A)
      → IsCompared met first second it → Finds agree (first ≡ second) placed it
  found None agreed NotMet is = agreed.is
  found None agreed Holds is = absurd (cc)
  found None agreed (Collision pair) is = absurd (cc)
  found (Some p) agreed NotMet is = absurd (is tt)
  found (Some p) agreed Holds is = (agreed.is.0, is.1)
  found (Some p) agreed (Collision pair) is = let at = (agreed.is.1 is.1).placed in
      (agreed.is.0, is.1, rw (← is.2) at at)

  pub agreed_found : {A E : Type 0} (met : Option (Divergence D)) → IsAgreed H agree placed first second met
      → (result : Result (Finding D A) E) → IfOk result (IsCompared met first second)
      → IfOk result (Finds agree (first ≡ second) placed)
  agreed_found met agreed result is = IfOk-weaker result _ _ (found met agreed) is

-- those of one proof over two data, those along two paths of one place, and those of two proofs of one key
pub values_agreed : {D : Type 0} (H : Digest) (F : Data) (proof : InclusionClaim) (v : List ℕ) (G : Data)
    (u : List ℕ) {x y : List ℕ} {target whole : Range} → ExistsAt proof.leaf.0 proof.log_length → x ≡ H (0 ∷ v)
    → y ≡ H (0 ∷ u) → target ≡ range_of proof.leaf.0 → whole ≡ leaves_from 0 proof.log_length
    → (met : Option (Divergence D))
    → MatchOption met (HaveOneDigest H (with_target F target x) (with_target G target y) whole → ⊥)
    (λ p. HaveOneDigest H (with_target F target x) (with_target G target y) whole
    × IsDivergence H (with_target F target x) (with_target G target y) whole p)
    → IsAgreed H (IsAgreement H proof F (H (0 ∷ v)) G (H (0 ∷ u)))
    (IsAgreementPlaced H (F, v) (G, u) proof.leaf.0 proof.log_length) v u met
values_agreed H F proof v G u exists first second target whole None none = record {
  is = λ agrees. (rw (first, second, target, whole) at none)
      (record {
        digest = agrees.root;
        first = ((inclusion_leads H F proof (H (0 ∷ v)) agrees.root).0 agrees.first_is).1;
        second = ((inclusion_leads H G proof (H (0 ∷ u)) agrees.root).0 agrees.second_is).1;
      });
}
values_agreed H F proof v G u exists first second target whole (Some p) meeting =
    let met = rw (first, second, target, whole) at meeting in
    let root = met.0.digest in
    let agreement : IsAgreement H proof F (H (0 ∷ v)) G (H (0 ∷ u)) =
    record {
      root = root;
      first_is = (inclusion_leads H F proof (H (0 ∷ v)) root).1 (exists, met.0.first);
      second_is = (inclusion_leads H G proof (H (0 ∷ u)) root).1 (exists, met.0.second);
    } in
    record { is = (agreement, λ other. agreement_shown H F v G u proof.leaf.0 proof.log_length p other met.1) }

pub records_agreed : {D : Type 0} (H : Digest) (m n : ℕ) (path : List (List ℕ)) (v : List ℕ)
    (other_path : List (List ℕ)) (u : List ℕ) {x y : List ℕ} → x ≡ H (0 ∷ v) → y ≡ H (0 ∷ u)
    → (met : Option (Divergence D))
    → MatchOption met (NeverMeet H (x, path) (y, other_path) m n)
    (IsPathsMeeting H (x, path) (y, other_path) m n)
    → IsAgreed H (IsRecordAgreement H m n path v other_path u)
    (IsRecordAgreementPlaced H m n (path, v) (other_path, u)) v u met
records_agreed H m n path v other_path u first second None none =
    record { is = λ agrees. (rw (first, second) at none) agrees.root agrees.first_is agrees.second_is }
records_agreed H m n path v other_path u first second (Some p) meeting =
    let met = rw (first, second) at meeting in
    record {
      is = (
        record { root = met.root; first_is = met.first_is; second_is = met.second_is },
        λ other. record_agreement_shown H m n path v other_path u p other met,
      );
    }

pub keys_agreed : {D : Type 0} (H : Digest) (key : List ℕ) (P : List (Option (List ℕ))) (v : List ℕ)
    (Q : List (Option (List ℕ))) (u : List ℕ) {P' Q' : List (Option (List ℕ))} {x y digest : List ℕ} → digest ≡ H key
    → P' ≡ P → Q' ≡ Q
    → x ≡ H (0 ∷ v) → y ≡ H (0 ∷ u) → (met : Option (Divergence D))
    → MatchOption met (proof_value H P' x (last_bits digest 256) ≡ proof_value H Q' y (last_bits digest 256) → ⊥)
    (MeetsOnPath H (P', x) (Q', y) (last_bits digest 256)) → IsAgreed H (IsKeyAgreement H key P v Q u)
    (IsKeyAgreementPlaced H key (P, v) (Q, u)) v u met
keys_agreed H key P v Q u digest peers other_peers first second None none =
    record { is = rw (digest, peers, other_peers, first, second) at none }
keys_agreed H key P v Q u digest peers other_peers first second (Some p) meeting =
    let met = rw (digest, peers, other_peers, first, second) at meeting in
    record { is = (met.met, λ other. key_agreement_shown H key P v Q u p met.diverges other) }

-- a meeting's branches collide
pub branches_collide : {D : Type 0} (H : Digest) (p : Divergence D) (placed : List ℕ → List ℕ → Type 0) (meet : Type 0)
    → Parts H placed meet p → Parts H (λ _ _. Unit) Unit p
branches_collide H p placed meet parts = parts_placed H p (λ _ _ _. tt) (λ _. tt) parts

-- what is found where an evaluation diverges nowhere from a tree, or at branches that are placed
found_at : {D A : Type 0} (H : Digest) {met claim holds meet : Type 0} (placed : List ℕ → List ℕ → Type 0)
    (p : Divergence D) → met → Parts H placed meet p → (meet → claim) → (holds → claim) → (claim → holds)
    → (it : Finding D A)
    → IsFoundAt p holds it → Finds met claim placed it
found_at H placed Target met parts meets from to NotMet is = absurd (cc)
found_at H placed Target met parts meets from to Holds is = (met, meets parts)
found_at H placed Target met parts meets from to (Collision pair) is = absurd (cc)
found_at H placed (Branch branches) met parts meets from to NotMet is = absurd (is tt)
found_at H placed (Branch branches) met parts meets from to Holds is = (met, from is.1)
found_at H placed (Branch branches) met parts meets from to (Collision pair) is =
    let Placed : List ℕ × List ℕ → Type 0 = λ two. placed two.0 two.1 in
    (met, λ true_claim. is.1 (to true_claim), subst Placed (sym is.2) parts.placed)

-- so of a hash and of an update, by the meeting
pub hash_found : {D A : Type 0} {H : Digest} {F : Data} {proof : InclusionClaim} {hash : List ℕ}
    {entries tree : List (List ℕ)} {target : Range} {plain : List ℕ} (p : Divergence D)
    → IsPlainAt H proof.leaf.0 tree target plain → IsMeeting H F proof hash entries tree p → (it : Finding D A)
    → IsFoundAt p (hash ≡ plain) it → Finds (IsMet H F proof hash entries) (IsRootBelow H hash proof.leaf.0 entries)
    (IsHashPlaced H F hash proof.leaf.0 entries) it
hash_found {H = H} {F = F} {proof = proof} {hash = hash} {entries = entries} {tree = tree} p here meeting =
    let plain_is = rw (here.target_is, meeting.tree_is) at here.plain_is in
    found_at H (IsHashPlaced H F hash proof.leaf.0 entries) p meeting.met
    (parts_placed H p (hash_placed H F entries tree meeting.tree_is proof.leaf.0 hash)
    (λ meets. rw meeting.tree_is at meets.0) meeting.diverges) (λ below. below) (λ same. same ∙ plain_is)
    (λ below. below ∙ sym plain_is)

pub update_found : {D A : Type 0} {H : Digest} {P : List (Option (List ℕ))} {key value : List ℕ}
    {insertions : List (List ℕ × List ℕ)} {own : List (Option (List ℕ))}
    (new : List ℕ) (p : Divergence D)
    → IsKeyMeeting H P key value insertions p own → (it : Finding D A)
    → IsFoundAt p (IsKeyAgreement H key P new own new) it → Finds (IsKeyMet H P key value insertions)
    (IsUpdated H P key new insertions) (IsPlacedAtPrefix H P value key insertions) it
update_found {H = H} {P = P} {key = key} {value = value} {insertions = insertions} {own = own} new p meeting =
    let root = own_grown_root H insertions key own meeting.beside new in
    found_at H (IsPlacedAtPrefix H P value key insertions) p meeting.met meeting.diverges
    (λ alike. alike.updates new) (λ same. same ∙ root) (λ updated. updated ∙ sym root)

-- what is found of one claim, said of another one that is met and true where it is
pub finds_as : {D A : Type 0} {met met' claim claim' : Type 0} (P Q : List ℕ → List ℕ → Type 0) → (met → met')
    → (met' → met) → (claim → claim') → (claim' → claim) → (¬ claim → (l r : List ℕ) → P l r → Q l r)
    → (it : Finding D A)
    → Finds met claim P it → Finds met' claim' Q it
finds_as P Q up down from to placed NotMet finds = λ met. finds (down met)
finds_as P Q up down from to placed Holds finds = (up finds.0, from finds.1)
finds_as P Q up down from to placed (Collision pair) finds =
    (up finds.0, (λ claim. finds.1 (to claim)), placed finds.1 pair.0 pair.1 finds.2)

-- so of a claim that is met, by a pair that shows a collision unless the claim is true, or by what it says itself
pub finds_shown : {D A : Type 0} {H : Digest} {met at claim : Type 0} {placed : List ℕ → List ℕ → Type 0} {two : List ℕ
    × List ℕ} → met → (at → claim) → (claim → at) → ((at → ⊥) → Shows H placed two) → (it : Finding D A)
    → Finds Unit at (λ l r. (l, r) ≡ two) it → Finds met claim placed it
finds_shown {placed = placed} {two} met is from shows =
    let Placed : List ℕ × List ℕ → Type 0 = λ two. placed two.0 two.1 in
    finds_as (λ l r. (l, r) ≡ two) placed (λ _. met) (λ _. tt) is from
    (λ untrue l r same. subst Placed (sym same) (shows untrue).placed)

pub finds_met : {D A : Type 0} {met : Type 0} (claim : Type 0) (placed : List ℕ → List ℕ → Type 0) → met
    → (it : Finding D A) → Finds Unit claim placed it → Finds met claim placed it
finds_met claim placed met = finds_as placed placed (λ _. met) (λ _. tt) (λ is. is) (λ is. is) (λ _ _ _ at. at)
