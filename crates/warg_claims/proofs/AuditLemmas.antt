-- Checked steps lead from root to root.
use Rattle.std.proofs.Common.{◌≡◌, ℕ, true, List, [], ◌∷◌, Ok, subst, ◌∙◌}
use Rattle.warg_protobuf.specs.MapProofBundle.{MapBundle}
use Rattle.warg_witness.specs.UpdateClaims.{LeadThrough, Leads, Step}
use Rattle.warg_check.specs.UpdateVerdicts.{update_verdict, insertion_verdict, IsUpdateShown, IsInsertionShown}
use Rattle.warg_check.specs.Claims.{Claim, Evidence, verdict, shows}
use Rattle.warg_check.specs.Claims.Claim.{entry_at, growth, value_under, nothing_under, update, insertion}
use Rattle.warg_check.specs.Claims.Evidence.{by_bundle, by_path}
use Rattle.warg_paths.specs.Pieces.{hashes_of}
use Rattle.warg_claims.specs.Audits.{IsStep, AreChecked, step_of, steps_of}
use Rattle.warg_claims.proofs.SoundLemmas.{found_peers, empty_leaf, judged_true}

-- What the laws of `warg_check` say of a map's bundle.
abbrev pub ShowsUpdates : (List ℕ → List ℕ) → Type 0
ShowsUpdates H = (bytes : List ℕ) (at : ℕ) (key old_value new_value old_root new_root : List ℕ)
    → update_verdict H bytes at key old_value new_value old_root new_root ≡ Ok true
    → IsUpdateShown H bytes at key old_value new_value old_root new_root

abbrev pub ShowsInsertions : (List ℕ → List ℕ) → Type 0
ShowsInsertions H = (bytes : List ℕ) (at : ℕ) (key value old_root new_root : List ℕ)
    → insertion_verdict H bytes at key value old_root new_root ≡ Ok true
    → IsInsertionShown H bytes at key value old_root new_root

-- a step leads from the root before it to the root after it
abbrev LeadsOn : (List ℕ → List ℕ) → Step → List ℕ → List ℕ → Type 0
LeadsOn H step old new = Leads H step step.old_value old × Leads H step step.new_value new

module _ (H : List ℕ → List ℕ) (updates : ShowsUpdates H) (inserts : ShowsInsertions H) where
  leads_on : (claim : Claim) (evidence : Evidence) (old new : List ℕ) → IsStep claim old new → verdict H claim evidence
      ≡ Ok true → LeadsOn H (step_of (claim, evidence)) old new
  leads_on (update key old_value new_value old_root new_root) (by_bundle bytes place) old new step passed =
      let shown = updates bytes place key old_value new_value old_root new_root passed in
      let peers = found_peers (λ (b : MapBundle). b.proofs) place shown.spelled
      shown.stands in
      subst (λ p. LeadsOn H (record { peers = p; key = key; old_value = old_value; new_value = new_value }) old new)
      peers (shown.old_is ∙ step.0, shown.new_is ∙ step.1)
  leads_on (insertion key value old_root new_root) (by_bundle bytes place) old new step passed =
      let shown = inserts bytes place key value old_root new_root passed in
      let peers = found_peers (λ (b : MapBundle). b.absences) place shown.spelled
      shown.stands in
      subst (λ p. LeadsOn H (record { peers = p; key = key; old_value = []; new_value = value }) old new) peers
      (rw (empty_leaf H) at (shown.old_is ∙ step.0), shown.new_is ∙ step.1)
  leads_on (update key old_value new_value old_root new_root) (by_path bytes) old new step passed =
      absurd ((let wrong = (judged_true (shows H (update key old_value new_value old_root new_root))
      (hashes_of bytes) passed).1 in cc))
  leads_on (insertion key value old_root new_root) (by_path bytes) old new step passed =
      absurd ((let wrong = (judged_true (shows H (insertion key value old_root new_root)) (hashes_of bytes) passed).1 in
      cc))
  leads_on (entry_at index value log) evidence old new step passed = absurd step
  leads_on (growth before after) evidence old new step passed = absurd step
  leads_on (value_under key value root) evidence old new step passed = absurd step
  leads_on (nothing_under key root) evidence old new step passed = absurd step

  pub lead_through : (steps : List (Claim × Evidence)) (root end : List ℕ) → AreChecked H root steps end
      → LeadThrough H root (steps_of steps) end
  unfolding AreChecked LeadThrough
  lead_through [] root end checked = checked
  lead_through (step ∷ steps) root end checked =
      let (next, is_step, passed, rest) = checked in
      let leads = leads_on step.0 step.1 root next is_step passed in
      (next, leads.0, leads.1, lead_through steps next end rest)
