use Rattle.std.proofs.Common.{◌≡◌, length, take, sym, ap, ◌∙◌, arith}
use Rattle.std.specs.Int.{from_be_bytes, w64}
use Rattle.warg_registry.proofs.Entries.{part_read}
use Rattle.warg_registry.proofs.insertion.first_part.Goals as goal

pub returns : goal.returns
returns c =
    let front = c.in_ok-length.ensures.cases in
    let number = c.from_be_bytes-length.ensures ∙ ap (from_be_bytes w64) front.0 in
    let count : length c.split_at.result.0.now ≡ from_be_bytes w64 (take 8 c.args.bytes.now) =
    c.split_at.ensures.front_len ∙ number in (
      omega arith,
      part_read c.args.bytes.now c.split_at.result.0.now c.split_at.result.1.now
          (λ i. let f = c.type_inv.bytes i in omega arith) (omega (arith, front.2)) count
          (sym front.1 ∙ c.split_at.ensures.by_index.0),
    )
