use Rattle.std.proofs.Common.{sym, ◌∙◌}
use Rattle.warg_tiles.proofs.EntryLemmas.{written_more}
use Rattle.warg_tiles.proofs.entries.write_entries.Goals as goal

pub entries-preserved : goal.entries-preserved
entries-preserved g c =
    let step = written_more (λ e. g.T.AsSlice.items e) c.args.entries.now c.entries.entry-index c.entry-item.result
    c.entries-test.true (sym c.entry-item.is) in
    let written = rw (c.as_slice.ensures, c.entries.invariant) at c.in_ok-write_entry.ensures.ok in
    written ∙ step
