use Rattle.std.proofs.Common.{◌≡◌, map, take}
use Rattle.warg_pages.proofs.SlotDigests.{byte_and_digest}
use Rattle.warg_pages.proofs.root_pair.have_same_digests.Given as goal

abbrev pub invariant-loop-at : goal.invariant-loop-at
invariant-loop-at g l = map byte_and_digest (take l.at l.before) ≡ map byte_and_digest (take l.at l.after)
