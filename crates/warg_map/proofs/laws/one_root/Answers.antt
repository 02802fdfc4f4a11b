use Rattle.std.specs.FinMap.{get}
use Rattle.warg_map.proofs.UniqueRootsAndProofs.{root-leaves}
use Rattle.warg_map.proofs.laws.one_root.Goals as goal

pub returns : goal.returns
returns c = λ H m n h. root-leaves H 256 (get m) (get n) h
