use Rattle.std.proofs.Common.{◌∙◌, subst, arith}
use Rattle.warg_crypto.specs.Digests.{sha256}
use Rattle.warg_pages.specs.ProvedKeys.{IsProved}
use Rattle.warg_registry.proofs.ForCallers.{own_entry}
use Rattle.warg_uses.proofs.RegistryCallers.{not_absent, within, entry_is, value_found}
use Rattle.warg_uses.proofs.registry.newest.Goals as goal

pub returns-in_default-clause-own : goal.returns-in_default-clause-own
returns-in_default-clause-own g c = λ known insertions version is_known source all fine last.
    not_absent sha256 insertions c.args.name.now version c.in_default.field-0.items
    (subst (IsProved sha256 insertions c.args.name.now) c.in_default.is
    (c.in_ok-index.ensures.own known insertions is_known source)) last

pub returns-in_default-get-clause-own : goal.returns-in_default-get-clause-own
returns-in_default-get-clause-own g c = λ known insertions version is_known source all fine last.
    let proved = subst (IsProved sha256 insertions c.args.name.now) c.in-Held.is
    (c.in_ok-index.ensures.own known insertions is_known source) in
    let own = own_entry sha256 insertions c.args.name.now version c.in-Held.leaf c.in-Held.index proved.0 proved.1
    last in
    let there = within (λ e. e.items) c.args.entries.now insertions c.in-Held.index _ all own.0 in
    grind (arith, there, c.in_default-get.ensures.lookup.0)

pub returns-clause-own : goal.returns-clause-own
returns-clause-own g c = λ known insertions version is_known source all fine last.
    let proved = subst (IsProved sha256 insertions c.args.name.now) c.in-Held.is
    (c.in_ok-index.ensures.own known insertions is_known source) in
    let own = own_entry sha256 insertions c.args.name.now version c.in-Held.leaf c.in-Held.index proved.0 proved.1
    last in
    let at = c.in-Some.ensures.lookup in
    let read = entry_is (λ e. e.items) c.args.entries.now insertions c.in-Held.index c.in-Some.entry.now _ all at.3.0
    at.1 own.0 in
    value_found sha256 c.as_slice.result.now c.as_bytes.result.now c.args.name.now version c.in-Held.leaf
    c.inserted_value.result c.inserted_value.ensures c.as_bytes.ensures.value fine (c.as_slice.ensures.value ∙ read)
    own.1
