use Rattle.std.proofs.Common.{Bor, List, ℕ, ◌<◌, length, map, sym, ◌∙◌}
use Rattle.std.proofs.lemmas.List.{map_push}
use Rattle.warg_protobuf.proofs.ForCallers.{all_push}
use Rattle.warg_tiles.proofs.EntryLemmas.{read_more, none_left, some_left}
use Rattle.warg_tiles.proofs.entries.read_entries.Goals as goal

pub entries-preserved : goal.entries-preserved
entries-preserved g c = rw (
  c.in_ok-push.ensures.items,
  map_push (λ (e : Bor (List ℕ)). e.now) c.entries.entries.items
      c.in-Some.entry,
) record {
  read = read_more c.args.bytes.now (map (λ (e : Bor (List ℕ)). e.now) c.entries.entries.items) c.in-Some.entry.now
      c.entries.rest.now c.in-Some.behind.now c.entries.invariant.read c.in-Some.ensures.1;
  short = all_push (λ (e : List ℕ). length e < 65536) (map (λ (e : Bor (List ℕ)). e.now) c.entries.entries.items)
      c.in-Some.entry.now c.entries.invariant.short c.in-Some.ensures.0;
}

pub returns-in_default-clause-truncated : goal.returns-in_default-clause-truncated
returns-in_default-clause-truncated g c = λ refused ys short is.
    none_left (map (λ (e : Bor (List ℕ)). e.now) c.entries.entries.items) ys c.entries.rest.now
    c.entries.invariant.short short (some_left c.entries.rest.now (sym c.is_empty.ensures ∙ c.entries-test.true))
    c.in_default.ensures (sym c.entries.invariant.read ∙ is)
