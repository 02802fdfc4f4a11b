use Rattle.std.proofs.Common.{◌≡◌, take, false, string_bytes}
use Rattle.std.specs.List.{All}
use Rattle.warg_folder.specs.Names.{is_of_log}
use Rattle.warg_store.proofs.opening.are_others.Given as goal

abbrev pub invariant-names : goal.invariant-names
invariant-names l = record {
  others : All (λ name. is_of_log (string_bytes name) ≡ false) (take l.name-index l.names);
}
