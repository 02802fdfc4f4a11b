use Rattle.std.proofs.Common.{◌≡◌, take}
use Rattle.std.specs.List.{All}
use Rattle.warg_pages.proofs.alone.are_of.Given as goal

abbrev pub invariant-loop-change : goal.invariant-loop-change
invariant-loop-change g l = All (λ c. c.key ≡ l.key) (take l.change-index l.changes)
