use Rattle.std.proofs.Common.{◌≡◌, ◌++◌, length}
use Rattle.warg_pages.specs.Slots.{IsPage}
use Rattle.warg_pages.specs.PageBytes.{page_bytes}
use Rattle.warg_pages.proofs.page.MapPage.read.Given as goal

abbrev pub invariant-slots : goal.invariant-slots
invariant-slots g l = record {
  read : l.bytes ≡ page_bytes l.slots.items ++ l.rest;
  page : IsPage l.slots.items;
}

abbrev pub decreases-slots : goal.decreases-slots
decreases-slots g l = length l.rest
