use Rattle.std.proofs.Common.{sym, ◌∙◌}
use Rattle.std.specs.Option.{option_copied}
use Rattle.warg_tiles.proofs.ForCallers.{text_once}
use Rattle.warg_store.proofs.WholeLemmas.{text_no_fault}
use Rattle.warg_store.proofs.opening.text_in.Goals as goal

pub returns-in-Ok-clause-read : goal.returns-in-Ok-clause-read
returns-in-Ok-clause-read c = λ said behind can is.
    (text_once c.in-Ok.text said (option_copied c.in-Ok.field-0-1) behind c.in-Ok.ensures.ok.0 can
    (sym c.in-Ok.ensures.ok.1 ∙ is)).0

pub returns-in-Err-clause-whole : goal.returns-in-Err-clause-whole
returns-in-Err-clause-whole c = λ said behind can is. c.refused_text.ensures.memory
    (text_no_fault said behind c.args.bytes.now c.in-Err.error can is c.in-Err.ensures.err)
