use Rattle.std.proofs.Common.{◌≡◌, List, ℕ, Option, Some, None, refl}
use Rattle.std.specs.Option.{ok_or}
use Rattle.std.specs.Prelude.{IfOk, IfErr}
use Rattle.warg_tiles.specs.CheckpointText.{Said, text_before}
use Rattle.warg_folder.specs.Files.{Files}
use Rattle.warg_folder.specs.Names.{state}
use Rattle.warg_store.specs.Opening.{CanBeServed}
use Rattle.warg_store.specs.Rebuilt.{IsStated}
use Rattle.warg_store.specs.Refusals.{IsNoFault}
use Rattle.warg_store.specs.declared.error.LogError.{LogError}
use Rattle.warg_store.specs.declared.error.LogError.TheVariants.{NoLog}
use Rattle.warg_store.proofs.OptionLemmas.{one_value, no_value}
use Rattle.warg_store.proofs.opening.read_state.Goals as goal

-- what was read is stated
stated_by : (o : Option Said) (error : LogError) (files : Files) → ((said : Said) (behind : Option (List ℕ))
    → CanBeServed said → files state ≡ Some (text_before said behind) → o ≡ Some said)
    → IfOk (ok_or o error) (λ said. IsStated said files)
stated_by None error files each = tt
stated_by (Some found) error files each = λ said behind can there.
    one_value refl (each said behind can there)

-- where something was, there is no refusal
found_whole : (o : Option Said) (said : Said) (error : LogError) → o ≡ Some said → IfErr (ok_or o error) (IsNoFault ⊥)
found_whole None said error there = absurd (no_value refl there)
found_whole (Some found) said error there = tt

pub returns-clause-stated : goal.returns-clause-stated
returns-clause-stated g c = λ faithful.
    rw c.ok_or.ensures.value (stated_by _ _ (g.F.Folder.seen c.args.folder.now)
    (c.in_ok-read_text.ensures.text faithful))

pub returns-clause-whole : goal.returns-clause-whole
returns-clause-whole g c = λ faithful said behind can there.
    rw c.ok_or.ensures.value
    (found_whole c.in_ok-read_text.field-0 said NoLog (c.in_ok-read_text.ensures.text faithful said behind can there))
