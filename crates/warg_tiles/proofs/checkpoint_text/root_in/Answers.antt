use Rattle.std.proofs.Common.{sym, ◌∙◌, arith}
use Rattle.base64.specs.Engines.{standard}
use Rattle.base64.specs.GeneralPurpose.{encode_of}
use Rattle.warg_tiles.proofs.TextLemmas.{no_line, root_line_is, root_read, decoded_length, hash_read, hash_unread}
use Rattle.warg_tiles.proofs.checkpoint_text.root_in.Goals as goal

pub returns-in_err-line : goal.returns-in_err-line
returns-in_err-line g c = rw c.from_residual.ensures
    (λ root rest is e. no_line c.args.bytes.now (encode_of standard root) rest c.in_err-line.ensures e)

pub returns-then-line-gt44 : goal.returns-then-line-gt44
returns-then-line-gt44 g c = λ root rest is e.
    omega (
      arith,
      c.if-line-gt44.true,
      (root_line_is c.args.bytes.now c.in_ok-line.line.now c.in_ok-line.rest.now rest root c.in_ok-line.ensures.0
          c.in_ok-line.ensures.1 is e).0,
    )

pub returns-in_default : goal.returns-in_default
returns-in_default g c = λ root rest is e.
    let fine = (root_line_is c.args.bytes.now c.in_ok-line.line.now c.in_ok-line.rest.now rest root
    c.in_ok-line.ensures.0 c.in_ok-line.ensures.1 is e).1 in
    cc (sym fine ∙ c.in_default.ensures.err)

pub returns-in_err-root : goal.returns-in_err-root
returns-in_err-root g c =
    rw c.from_residual-in_err-root.ensures (λ root rest is e.
    let fine = (root_line_is c.args.bytes.now c.in_ok-line.line.now c.in_ok-line.rest.now rest root
    c.in_ok-line.ensures.0 c.in_ok-line.ensures.1 is e).1 in
    hash_unread c.try_from.result c.ok.result _ c.try_from.ensures.exactly c.ok.ensures.value c.in_err-root.was
    (decoded_length _ root _ fine c.in-Ok.ensures.ok.0 is))

pub returns : goal.returns
returns g c =
    let read = hash_read c.try_from.result c.ok.result c.in_ok-root.root _ c.try_from.ensures.ok
    c.try_from.ensures.exactly c.ok.ensures.value c.in_ok-root.was in (
      rw c.bytes-digest.ensures.value at c.bytes-digest.ensures.digest,
      root_read c.args.bytes.now c.in_ok-line.line.now c.in_ok-line.rest.now _ c.in_ok-root.root
          (λ i. let f = c.type_inv.bytes i in omega arith) c.in_ok-line.ensures.1 c.in-Ok.ensures.ok.0 read.0,
    )
