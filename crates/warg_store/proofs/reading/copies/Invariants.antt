use Rattle.std.proofs.Common.{◌≡◌, map, take}
use Rattle.warg_store.proofs.reading.copies.Given as goal

abbrev pub invariant-entries : goal.invariant-entries
invariant-entries l = map (λ e. e.items) l.copies.items ≡ map (λ e. e.now) (take l.entry-index l.entries)
