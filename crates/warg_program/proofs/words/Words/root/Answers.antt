use Rattle.std.proofs.Common.{refl}
use Rattle.warg_program.proofs.WordLemmas.{root_said}
use Rattle.warg_program.proofs.words.Words.root.Goals as goal

pub returns : goal.returns
returns g c = record {
  ok = root_said _ _ _ _ c.in_ok-bytes.ensures.ok c.in_ok-try_from.ensures.ok (c.in_ok-try_from.ensures.exactly.0 refl);
  errors = tt;
}
