use Rattle.warg_store.proofs.OptionLemmas.{no_value}
use Rattle.warg_store.proofs.OpenLemmas.{bundle_read}
use Rattle.warg_store.proofs.ReadLemmas.{whole_read}
use Rattle.warg_folder.proofs.ForCallers.{read_none}
use Rattle.warg_store.proofs.edge.read_bundle.Goals as goal

pub returns-in-Some-clause-own : goal.returns-in-Some-clause-own
returns-in-Some-clause-own g c = λ faithful log short wide there.
    bundle_read log c.args.tile.now _ c.in-Some.bytes.items short wide there
    (rw (c.in-Some.is, c.as_str.ensures.value, c.in_ok-path.ensures) at (c.in_ok-bytes.ensures.found faithful))

pub returns-clause-whole : goal.returns-clause-whole
returns-clause-whole g c = λ faithful log there.
    let gone = read_none _ 16777472
    (rw (c.in-None.is, c.as_str.ensures.value, c.in_ok-path.ensures) at (c.in_ok-bytes.ensures.found faithful)) in
    absurd (no_value gone there)

pub returns-in-Some-clause-file : goal.returns-in-Some-clause-file
returns-in-Some-clause-file g c = λ faithful short.
    whole_read _ c.in-Some.bytes.items 16777472
    (rw (c.in-Some.is, c.as_str.ensures.value, c.in_ok-path.ensures) at (c.in_ok-bytes.ensures.found faithful)) short
