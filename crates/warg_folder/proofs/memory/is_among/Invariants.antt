use Rattle.std.proofs.Common.{map, take, string_bytes}
use Rattle.std.specs.List.{Contains}
use Rattle.warg_folder.proofs.memory.is_among.Given as goal

abbrev pub invariant-names : goal.invariant-names
invariant-names l = Contains (map (λ it. string_bytes it) (take l.it-index l.names)) l.name → ⊥
