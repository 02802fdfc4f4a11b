use Rattle.std.proofs.Common.{◌≡◌, ◌<◌, true, length, sym, ap, ◌∙◌, arith}
use Rattle.warg_crypto.specs.Digests.{sha256}
use Rattle.warg_crypto.specs.Tree.{leaf_digest}
use Rattle.warg_log.specs.Claims.{RootAndLength}
use Rattle.warg_store.proofs.EnoughLemmas.{entry_leaf, inclusion_leads, whole_root}
use Rattle.warg_store.proofs.reading.entry.Goals as goal

pub returns-clause-whole : goal.returns-clause-whole
returns-clause-whole g c = λ faithful log of.
    let count : c.length-length.result ≡ length log.entries = c.length-length.ensures
    ∙ ap (λ (r : RootAndLength). r.length) of.said in
    let below : c.args.index < c.length-length.result = omega (arith, c.if-index-length.false) in
    let path = c.in_ok-path.ensures.own faithful log of.holds (sym (ap (λ (r : RootAndLength). r.length) of.said)) in
    let entry = c.in_ok-entry.ensures.own faithful log
    (rw (c.inclusion.ensures.seen faithful) of.holds) of.can.short (sym count) in
    let leads = inclusion_leads log c.args.index c.length-length.result (leaf_digest sha256 c.in_ok-entry.entry.items)
    c.in_ok-path.path.items below (omega (arith, count))
    (entry_leaf log c.args.index c.in_ok-entry.entry.items entry) path in
    let whole = whole_root log c.length-length.result (omega (arith, count)) in
    let is : c.check_record.result ≡ true = c.check_record.ensures.1
    (cc (
      leads,
      whole,
      ap (λ (r : RootAndLength). r.root) of.said,
      c.length-length.ensures,
      c.as_slice.ensures.value,
    )) in
    absurd (cc (is, c.if-check_record.false))
