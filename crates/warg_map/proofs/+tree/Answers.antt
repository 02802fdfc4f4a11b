use Rattle.std.proofs.Common.{arith}
use Rattle.warg_map.proofs.+tree.Goals as goal

pub warg_map++node++Fork+Destruct::drop-drop-requires : goal.warg_map++node++Fork+Destruct::drop-drop-requires
warg_map++node++Fork+Destruct::drop-drop-requires g t c κs = λ within. (omega arith, within)

pub warg_map++node++Fork+Destruct::drop-drop-requires-2 : goal.warg_map++node++Fork+Destruct::drop-drop-requires-2
warg_map++node++Fork+Destruct::drop-drop-requires-2 g t c κs = λ within. (omega arith, within)

pub warg_map++node++Stem+Destruct::drop-drop-requires-2 : goal.warg_map++node++Stem+Destruct::drop-drop-requires-2
warg_map++node++Stem+Destruct::drop-drop-requires-2 g t c κs = λ within. (omega arith, within)
