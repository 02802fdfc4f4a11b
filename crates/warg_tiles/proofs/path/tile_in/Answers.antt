use Rattle.std.proofs.Common.{None, Some, sym, ◌∙◌, arith}
use Rattle.std.proofs.lemmas.Fmt.{decimal_injective}
use Rattle.warg_tiles.proofs.PathLemmas.{parts_at_slash}
use Rattle.warg_tiles.proofs.path.tile_in.Goals as goal

pub returns-in_err-level : goal.returns-in_err-level
returns-in_err-level c =
    rw c.from_residual-in_err-level.ensures
    (λ t tile is. parts_at_slash c.args.path.now _ c.in_ok-strip_prefix.field-0.now t None
    c.in_ok-strip_prefix.ensures.cases.1.1 c.in_ok-strip_prefix.ensures.cases.2 c.in_err-level.ensures.cases tile
    is)

pub returns-in_err-level-2 : goal.returns-in_err-level-2
returns-in_err-level-2 c =
    rw c.from_residual-in_err-level-2.ensures (λ t tile is. c.in_err-level-2.ensures t.level (omega (arith, tile.level))
    (parts_at_slash c.args.path.now _ c.in_ok-strip_prefix.field-0.now t
    (Some (c.in_ok-level.level, c.in_ok-level.place)) c.in_ok-strip_prefix.ensures.cases.1.1
    c.in_ok-strip_prefix.ensures.cases.2 c.in_ok-level.ensures.cases tile is).0)

pub returns-in_err-place : goal.returns-in_err-place
returns-in_err-place c =
    rw c.from_residual-in_err-place.ensures
    (λ t tile is. c.in_err-place.ensures t.number t.width tile.number tile.some tile.most
    (parts_at_slash c.args.path.now _ c.in_ok-strip_prefix.field-0.now t
    (Some (c.in_ok-level.level, c.in_ok-level.place)) c.in_ok-strip_prefix.ensures.cases.1.1
    c.in_ok-strip_prefix.ensures.cases.2 c.in_ok-level.ensures.cases tile is).1)

pub returns-then-level-gt63 : goal.returns-then-level-gt63
returns-then-level-gt63 c = λ t tile is.
    let parts = parts_at_slash c.args.path.now _ c.in_ok-strip_prefix.field-0.now t
    (Some (c.in_ok-level.level, c.in_ok-level.place)) c.in_ok-strip_prefix.ensures.cases.1.1
    c.in_ok-strip_prefix.ensures.cases.2 c.in_ok-level.ensures.cases tile is in
    omega (
      arith,
      decimal_injective c.in_ok-level-2.level t.level (omega arith) (omega (arith, tile.level))
          (sym c.in_ok-level-2.ensures ∙ parts.0),
      tile.level,
    )
