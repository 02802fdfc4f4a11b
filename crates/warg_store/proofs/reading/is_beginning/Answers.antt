use Rattle.std.proofs.Common.{◌≡◌, length, sym, ap, ◌∙◌, arith}
use Rattle.warg_log.specs.Claims.{RootAndLength}
use Rattle.warg_store.proofs.EnoughLemmas.{consistency_leads, whole_root}
use Rattle.warg_store.proofs.reading.is_beginning.Goals as goal

pub returns-clause-is : goal.returns-clause-is
returns-clause-is g c = λ faithful log of own some less root.
    let count : c.length-length.result ≡ length log.entries = c.length-length.ensures
    ∙ ap (λ (r : RootAndLength). r.length) of.said in
    let path = c.in_ok-path.ensures.own faithful log of.holds (sym count) (omega arith) own in
    let leads = consistency_leads log c.length-old_length.result c.length-length.result c.in_ok-path.path.items
    (omega (arith, c.length-old_length.ensures, some)) (omega (arith, c.if-old_length-length.false))
    (omega (arith, count)) path in
    let whole = whole_root log c.length-length.result (omega (arith, count)) in
    let last = ap (λ (r : RootAndLength). r.root) of.said in
    c.check_tree.ensures.1 (cc (
      leads,
      whole,
      last,
      root,
      c.length-old_length.ensures,
      c.length-length.ensures,
      c.as_slice.ensures.value,
    ))
