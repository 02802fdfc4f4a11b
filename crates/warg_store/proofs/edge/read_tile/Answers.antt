use Rattle.std.proofs.Common.{ℕ, length, Some, List, Err, sym, ap, ◌∙◌, arith}
use Rattle.std.specs.List.{flat_map}
use Rattle.warg_store.proofs.OptionLemmas.{one_value, no_value}
use Rattle.warg_store.proofs.OpenLemmas.{tile_read, tile_hashed}
use Rattle.warg_store.proofs.ReadLemmas.{tile_whole}
use Rattle.warg_store.proofs.edge.read_tile.Goals as goal

pub returns-clause-own : goal.returns-clause-own
returns-clause-own g c = λ faithful log there.
    c.new.ensures.digests
    ∙ tile_read log c.args.tile _ c.in-Some.bytes.items c.in-Ok.digests.items
    (omega (arith, c.width-width.ensures.most, c.width-width.ensures.value)) there
    (rw (c.in-Some.is, c.as_str.ensures.value, c.in_ok-path.ensures) at (c.in_ok-bytes.ensures.found faithful))
    (rw c.as_slice.ensures.value at c.in-Ok.ensures.ok)

pub returns-in-Err-HashLength-clause-whole : goal.returns-in-Err-HashLength-clause-whole
returns-in-Err-HashLength-clause-whole g c = λ faithful log there.
    let found = tile_hashed log c.args.tile _ c.in-Some.bytes.items
    (omega (arith, c.width-width.ensures.most, c.width-width.ensures.value)) there
    (rw (c.in-Some.is, c.as_str.ensures.value, c.in_ok-path.ensures) at (c.in_ok-bytes.ensures.found faithful)) in
    let none = rw c.as_slice.ensures.value at
    (c.in-Err-HashLength.ensures.length.0 (ap (λ e. Err e) c.in-Err-HashLength.field-0-is)) in
    absurd (no_value none found.0)

pub returns-then-len-width-clause-whole : goal.returns-then-len-width-clause-whole
returns-then-len-width-clause-whole g c = λ faithful log there.
    let found = tile_hashed log c.args.tile _ c.in-Some.bytes.items
    (omega (arith, c.width-width.ensures.most, c.width-width.ensures.value)) there
    (rw (c.in-Some.is, c.as_str.ensures.value, c.in_ok-path.ensures) at (c.in_ok-bytes.ensures.found faithful)) in
    let same = one_value (rw c.as_slice.ensures.value at c.in-Ok.ensures.ok) found.0 in
    absurd (omega (arith, ap length same, found.1, c.if-len-width.true, c.len.ensures, c.width-width.ensures.value))

pub returns-clause-file : goal.returns-clause-file
returns-clause-file g c = λ faithful.
    tile_whole _ c.in-Some.bytes.items c.in-Ok.digests.items
    (rw (c.in-Some.is, c.as_str.ensures.value, c.in_ok-path.ensures) at (c.in_ok-bytes.ensures.found faithful))
    (rw c.as_slice.ensures.value at c.in-Ok.ensures.ok)
    (omega (arith, c.if-len-width.false, c.len.ensures, c.width-width.ensures.most))
    ∙ ap (λ (ds : List (List ℕ)). Some (flat_map (λ digest. digest) ds)) (sym c.new.ensures.digests)
