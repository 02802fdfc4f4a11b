use Rattle.std.proofs.Common.{sym}
use Rattle.warg_registry.proofs.PremiseLemmas.{long_key, long_value, same_entry, differ, bare, other, keys_differ, empty_is}
use Rattle.warg_registry.proofs.premises.one_insertion.Goals as goal

pub returns-clause-key : goal.returns-clause-key
returns-clause-key c = λ law. differ (law long_key long_value empty_is same_entry)

pub returns-clause-value : goal.returns-clause-value
returns-clause-value c = λ law. differ (sym (law long_value long_key empty_is (sym same_entry)))

pub returns-clause-entry : goal.returns-clause-entry
returns-clause-entry c = λ law. keys_differ (law bare other (empty_is, empty_is))
