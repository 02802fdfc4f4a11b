use Rattle.std.proofs.Common.{◌≡◌, take}
use Rattle.warg_pages.specs.PageBytes.{page_bytes}
use Rattle.warg_pages.proofs.page.MapPage.write.Given as goal

abbrev pub invariant-slots : goal.invariant-slots
invariant-slots g l = l.bytes.items ≡ page_bytes (take l.slot-index l.slot-items)
