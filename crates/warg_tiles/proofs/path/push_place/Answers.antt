use Rattle.std.proofs.Common.{◌%◌, refl, sym, arith}
use Rattle.std.proofs.lemmas.Bool.{true≢false}
use Rattle.std.proofs.lemmas.List.{append_assoc}
use Rattle.warg_tiles.proofs.PathLemmas.{three_padded, full_place, partial_place}
use Rattle.warg_tiles.proofs.path.push_place.Goals as goal

pub returns-in_ok-write-2 : goal.returns-in_ok-write-2
returns-in_ok-write-2 g c =
    let digits = rw (c.laid_out.ensures, three_padded (c.number-number.result % 1000) (omega arith)) at
    c.in_ok-write.ensures.bytes in
    rw (
      partial_place c.args.tile.now.number c.args.tile.now.width
          (λ e. true≢false (sym (c.if-not-is_full.ensures.1 e))),
      ← c.number-number.ensures.value,
      ← c.width-width.ensures.value,
      c.in_ok-write-2.ensures.bytes,
      digits,
      c.in_ok-push_groups.ensures,
    )
    (simp append_assoc)

pub returns-else-not-is_full : goal.returns-else-not-is_full
returns-else-not-is_full g c =
    let digits = rw (c.laid_out.ensures, three_padded (c.number-number.result % 1000) (omega arith)) at
    c.in_ok-write.ensures.bytes in
    rw (
      c.if-not-is_full.ensures.0 refl,
      full_place,
      ← c.number-number.ensures.value,
      digits,
      c.in_ok-push_groups.ensures,
    ) (simp append_assoc)
