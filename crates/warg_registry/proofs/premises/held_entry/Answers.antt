use Rattle.std.proofs.Common.{[], ◌∷◌}
use Rattle.warg_registry.specs.Insertions.{entry_of}
use Rattle.warg_registry.proofs.PremiseLemmas.{nothing, alone, held_alone, first_version, none_there, no_such_leaf}
use Rattle.warg_registry.proofs.premises.held_entry.Goals as goal

pub returns-clause-index : goal.returns-clause-index
returns-clause-index c = λ law. let found = law nothing alone [] [] 1 (held_alone nothing ([], [])) in
    none_there (entry_of found.0) found.1

pub returns-clause-held : goal.returns-clause-held
returns-clause-held c = λ law. let found = law nothing alone [] (0 ∷ []) 0 first_version in
    no_such_leaf found.0.1 found.3
