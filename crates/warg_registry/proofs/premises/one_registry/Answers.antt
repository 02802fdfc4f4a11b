use Rattle.std.proofs.Common.{[], ◌∷◌}
use Rattle.std.proofs.lemmas.List.Elements.{All-nil}
use Rattle.warg_registry.specs.Insertions.{IsInsertion}
use Rattle.warg_registry.proofs.PremiseLemmas.{nothing, alone, counts_differ, long_key, long_value, same_entries, second, registries_differ}
use Rattle.warg_registry.proofs.premises.one_registry.Goals as goal

pub returns-clause-lengths : goal.returns-clause-lengths
returns-clause-lengths c = λ law. registries_differ (law second [] (long_key ∷ []) (long_value ∷ []) same_entries)

pub returns-clause-entries : goal.returns-clause-entries
returns-clause-entries c = λ law. counts_differ (law nothing [] [] alone (All-nil IsInsertion))
