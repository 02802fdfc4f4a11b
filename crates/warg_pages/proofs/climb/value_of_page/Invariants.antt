use Rattle.std.proofs.Common.{◌≡◌, ◌+◌, ◌-◌, ◌*◌, drop}
use Rattle.warg_map.specs.Bits.{bits_from}
use Rattle.warg_pages.specs.Pages.{slot_height}
use Rattle.warg_pages.specs.Private.Descents.{value_above}
use Rattle.warg_pages.proofs.climb.value_of_page.Given as goal

abbrev pub invariant-loop-passed : goal.invariant-loop-passed
invariant-loop-passed g l =
    l.value ≡ value_above g.D.SupportedDigest.digest (slot_height l.depth) (drop (8 - l.passed) l.peers) l.fn.foot
    (bits_from l.key (8 * l.depth + (8 - l.passed)) l.passed)
