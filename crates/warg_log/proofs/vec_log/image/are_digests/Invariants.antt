use Rattle.std.proofs.Common.{◌≡◌, ℕ, ◌<◌, [], get_or}
use Rattle.warg_log.proofs.vec_log.image.are_digests.Given as goal

abbrev pub invariant-places : goal.invariant-places
invariant-places g l = (k : ℕ) → k < l.place → get_or l.digests k [] ≡ get_or l.tree k []
