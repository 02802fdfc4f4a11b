use Rattle.std.proofs.Common.{ap, ◌∙◌}
use Rattle.warg_tiles.specs.CheckpointText.{line, length_line}
use Rattle.warg_tiles.specs.CheckpointFaults.{HasOrigin, HasLength, HasRoot, IsFirstFault}
use Rattle.warg_tiles.proofs.ForCallers.{err_same}
use Rattle.warg_tiles.proofs.TextLemmas.{no_length, no_root, no_extensions}
use Rattle.warg_tiles.proofs.checkpoint_text.CheckpointText.read.Goals.{In-Some-root_in}
use Rattle.warg_tiles.proofs.checkpoint_text.CheckpointText.read.Goals as goal

-- the three lines that were read
abbrev three_lines : (g : _) (c : In-Some-root_in g) → HasRoot c.args.bytes.now
three_lines g c = (
  c.in-Some.origin.now,
  c.in-Some-length_in.length,
  c.in-Some-root_in.root,
  c.in-Some-root_in.rest.now,
  c.in-Some.ensures.0,
  c.in-Some-length_in.ensures.0,
  c.in-Some-root_in.ensures.0,
  c.in-Some.ensures.1 ∙ ap (line c.in-Some.origin.now) (c.in-Some-length_in.ensures.1
      ∙ ap (length_line c.in-Some-length_in.length) c.in-Some-root_in.ensures.1),
)

pub returns-in_default-length_in-clause-err : goal.returns-in_default-length_in-clause-err
returns-in_default-length_in-clause-err g c =
    let own : HasOrigin c.args.bytes.now = (
      c.in-Some.origin.now,
      c.in-Some.rest.now,
      c.in-Some.ensures.0,
      c.in-Some.ensures.1,
    ) in
    (own, no_length own c.in_default-length_in.ensures)

pub returns-in_default-root_in-clause-err : goal.returns-in_default-root_in-clause-err
returns-in_default-root_in-clause-err g c =
    let own : HasLength c.args.bytes.now = (
      c.in-Some.origin.now,
      c.in-Some-length_in.length,
      c.in-Some-length_in.rest.now,
      c.in-Some.ensures.0,
      c.in-Some-length_in.ensures.0,
      c.in-Some.ensures.1 ∙ ap (line c.in-Some.origin.now) c.in-Some-length_in.ensures.1,
    ) in
    (own, no_root own c.in_default-root_in.ensures)

pub returns-in_err-behind-clause-err : goal.returns-in_err-behind-clause-err
returns-in_err-behind-clause-err g c =
    err_same (IsFirstFault c.args.bytes.now) c.in_err-behind.field-0.0 c.from_residual-in_err-behind.result
    c.from_residual-in_err-behind.ensures.1
    (no_extensions (three_lines g (goal.at.returns-in_err-behind-clause-err g c).In-Some-root_in)
    c.in_err-behind.field-0.0 c.in_err-behind.ensures.err)
