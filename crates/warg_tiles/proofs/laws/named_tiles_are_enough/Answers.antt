use Rattle.warg_tiles.proofs.FetchLemmas.{all_known}
use Rattle.warg_tiles.proofs.laws.named_tiles_are_enough.Goals as goal

pub returns : goal.returns
returns c = λ H n tiles nodes are. all_known H tiles nodes are.give
