use Rattle.std.proofs.Common.{[]}
use Rattle.warg_log.specs.Nodes.{height_of, height_within, place_of}
use Rattle.warg_tiles.proofs.premises.given_digests_are_needed.Goals as goal

pub returns : goal.returns
unfolding height_of height_within place_of
returns c = λ H law. let none = law [] [] 0 [] tt in absurd cc
