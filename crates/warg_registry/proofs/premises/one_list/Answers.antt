use Rattle.std.proofs.Common.{[], ◌∷◌}
use Rattle.std.proofs.lemmas.List.Elements.{All-nil}
use Rattle.warg_registry.specs.Insertions.{IsInsertion}
use Rattle.warg_registry.proofs.PremiseLemmas.{alone, long_key, long_value, same_entries, lists_differ}
use Rattle.warg_registry.proofs.premises.one_list.Goals as goal

pub returns-clause-lengths : goal.returns-clause-lengths
returns-clause-lengths c = λ law. lists_differ (law (long_key ∷ []) (long_value ∷ []) same_entries)

pub returns-clause-entries : goal.returns-clause-entries
returns-clause-entries c = λ law. (let same = law [] alone (All-nil IsInsertion) in cc)
