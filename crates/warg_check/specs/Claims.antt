-- Claims about a log by its checkpoints, and about a map by its roots; the evidence for one; and the verdict.
use Rattle.std.specs.Prelude.{ℕ, Bool, false, List, Result}
use Rattle.warg_log.specs.Claims.{RootAndLength}
use Rattle.warg_check.specs.declared.verdict.CheckError.{CheckError}
use Rattle.warg_check.specs.Verdicts.{key_verdict, absent_verdict}
use Rattle.warg_check.specs.CheckpointVerdicts.{entry_verdict, growth_verdict}
use Rattle.warg_check.specs.UpdateVerdicts.{update_verdict, insertion_verdict}
use Rattle.warg_check.specs.PathVerdicts.{shows_record, shows_tree, path_verdict}

-- An entry at an index, from 0, of a log; one log's being the beginning of another; a value under a key; nothing under
-- a key; a key's change from one value to another; a new key's value.
pub data Claim : Type 0 where
  entry_at : (index : ℕ) (value : List ℕ) (log : RootAndLength) → Claim
  growth : (old new : RootAndLength) → Claim
  value_under : (key value root : List ℕ) → Claim
  nothing_under : (key root : List ℕ) → Claim
  update : (key old_value new_value old_root new_root : List ℕ) → Claim
  insertion : (key value old_root new_root : List ℕ) → Claim

-- What is to show a claim: the proof at a place, from 0, of a bundle's bytes, or the bytes of a path.
pub data Evidence : Type 0 where
  by_bundle : (bytes : List ℕ) (place : ℕ) → Evidence
  by_path : (bytes : List ℕ) → Evidence

-- The verdict on a claim by the proof at a place of a bundle's bytes.
abbrev pub bundle_verdict : (List ℕ → List ℕ) → Claim → List ℕ → ℕ → Result Bool CheckError
bundle_verdict H (entry_at index value log) bytes place = entry_verdict H bytes place index value log.length log.root
bundle_verdict H (growth old new) bytes place = growth_verdict H bytes place old.length old.root new.length new.root
bundle_verdict H (value_under key value root) bytes place = key_verdict H bytes place key value root
bundle_verdict H (nothing_under key root) bytes place = absent_verdict H bytes place key root
bundle_verdict H (update key old_value new_value old_root new_root) bytes place = update_verdict H bytes place key old_value new_value old_root new_root
bundle_verdict H (insertion key value old_root new_root) bytes place = insertion_verdict H bytes place key value old_root new_root

-- A path shows a claim: it leads to the log's root, or to both logs'. None shows a claim about a map.
abbrev pub shows : (List ℕ → List ℕ) → Claim → List (List ℕ) → Bool
shows H (entry_at index value log) digests = shows_record H index value log.length log.root digests
shows H (growth old new) digests = shows_tree H old.length old.root new.length new.root digests
shows H _ digests = false

-- The verdict on a claim by evidence: whether it shows the claim, or why it is none.
abbrev pub verdict : (List ℕ → List ℕ) → Claim → Evidence → Result Bool CheckError
verdict H claim (by_bundle bytes place) = bundle_verdict H claim bytes place
verdict H claim (by_path bytes) = path_verdict (shows H claim) bytes
