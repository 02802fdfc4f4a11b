use Rattle.std.proofs.Common.{Some, refl, ap, ◌∙◌}
use Rattle.warg_tiles.specs.CheckpointText.{Said}
use Rattle.warg_folder.proofs.ForCallers.{read_none}
use Rattle.warg_store.proofs.OpenLemmas.{text_read}
use Rattle.warg_store.proofs.WholeLemmas.{err_same}
use Rattle.warg_store.proofs.opening.read_text.Goals as goal

pub returns-in_ok-text_in-in-Some-clause-text : goal.returns-in_ok-text_in-in-Some-clause-text
returns-in_ok-text_in-in-Some-clause-text g c = λ faithful said behind can there.
    let found = text_read said behind _ c.in-Some.bytes.items 1048576 can refl there
    (rw c.in-Some.is at (c.in_ok-bytes.ensures.found faithful)) in
    ap (λ (s : Said). Some s) (c.in_ok-text_in-in-Some.ensures.read said found.0 can.can
    (c.as_slice.ensures.value ∙ found.1))

pub returns-in_ok-text_in-in-Some-clause-none : goal.returns-in_ok-text_in-in-Some-clause-none
returns-in_ok-text_in-in-Some-clause-none g c = λ faithful. (
  λ is. cc,
  λ none.
      let gone = rw (c.in-Some.is, none) at (c.in_ok-bytes.ensures.found faithful) in
      cc (gone),
)

pub returns-in-None-clause-text : goal.returns-in-None-clause-text
returns-in-None-clause-text g c = λ faithful said behind can there.
    let gone = read_none _ 1048576 (rw c.in-None.is at (c.in_ok-bytes.ensures.found faithful)) in
    cc (gone, there)

pub returns-in-None-clause-none : goal.returns-in-None-clause-none
returns-in-None-clause-none g c = λ faithful. (
  λ is. read_none _ 1048576 (rw c.in-None.is at (c.in_ok-bytes.ensures.found faithful)),
  λ none. refl,
)

pub returns-in_err-text_in-in-Some-clause-whole : goal.returns-in_err-text_in-in-Some-clause-whole
returns-in_err-text_in-in-Some-clause-whole g c = λ faithful said behind can there.
    let found = text_read said behind _ c.in-Some.bytes.items 1048576 can refl there
    (rw c.in-Some.is at (c.in_ok-bytes.ensures.found faithful)) in
    err_same _ _ _ c.from_residual-in_err-text_in-in-Some.ensures.1
    (c.in_err-text_in-in-Some.ensures.whole said found.0 can.can (c.as_slice.ensures.value ∙ found.1))

pub returns-in_err-text_in-in-Some-clause-absent : goal.returns-in_err-text_in-in-Some-clause-absent
returns-in_err-text_in-in-Some-clause-absent g c = λ faithful none.
    let gone = rw (c.in-Some.is, none) at (c.in_ok-bytes.ensures.found faithful) in
    absurd (cc (gone))
