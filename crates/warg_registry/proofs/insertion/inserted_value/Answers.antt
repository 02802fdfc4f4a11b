use Rattle.std.proofs.Common.{ap, ◌∙◌}
use Rattle.warg_crypto.specs.Tree.{leaf_digest}
use Rattle.warg_registry.proofs.Entries.{one_entry, other_bytes, other_hashes}
use Rattle.warg_registry.proofs.insertion.inserted_value.Goals as goal

pub returns-in_default : goal.returns-in_default
returns-in_default g c = λ value fine is same. c.in_default.ensures.none (c.args.key.now, value) fine is

pub returns-then-ne : goal.returns-then-ne
returns-then-ne g c = λ value fine is same.
    let one = one_entry c.args.entry.now (c.in-Ok.read.key.now, c.in-Ok.read.value.now) (c.args.key.now, value)
    c.in-Ok.ensures.ok.0 fine c.in-Ok.ensures.ok.1 is in
    other_bytes c.in-Ok.read.key.now c.args.key.now c.ne.result c.ne.ensures c.if-ne.true one.0

pub returns-then-ne-2 : goal.returns-then-ne-2
returns-then-ne-2 g c = λ value fine is same.
    let one = one_entry c.args.entry.now (c.in-Ok.read.key.now, c.in-Ok.read.value.now) (c.args.key.now, value)
    c.in-Ok.ensures.ok.0 fine c.in-Ok.ensures.ok.1 is in
    other_hashes c.hash_leaf.result c.args.leaf.now c.ne-2.result c.ne-2.ensures c.if-ne-2.true
    (c.hash_leaf.ensures ∙ ap (leaf_digest g.D.SupportedDigest.digest) one.1 ∙ same)
