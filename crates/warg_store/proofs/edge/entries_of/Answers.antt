use Rattle.std.proofs.Common.{List, ℕ, Bor, map, sym, ◌∙◌, arith}
use Rattle.std.proofs.lemmas.List.{length-map}
use Rattle.warg_store.proofs.ReadLemmas.{bundle_short}
use Rattle.warg_store.proofs.WholeLemmas.{bundle_count}
use Rattle.warg_store.proofs.edge.entries_of.Goals as goal

pub returns-then-len-width-clause-whole : goal.returns-then-len-width-clause-whole
returns-then-len-width-clause-whole c = λ log short is same.
    let es : List (List ℕ) = map (λ (e : Bor (List ℕ)). e.now) c.in-Ok.entries.items in
    let count = bundle_count log c.args.tile.now es is (sym c.in-Ok.ensures.ok ∙ same) in
    absurd (omega (
      arith,
      count,
      length-map c.in-Ok.entries.items (λ (e : Bor (List ℕ)). e.now),
      c.if-len-width.true,
      c.len.ensures,
      c.width.ensures.value,
    ))

pub returns-clause-short : goal.returns-clause-short
returns-clause-short c = bundle_short (map (λ (e : Bor (List ℕ)). e.now) c.in-Ok.entries.items) c.args.bytes.now
    c.in-Ok.ensures.ok (λ i. let low = c.type_inv.bytes i in omega arith)
