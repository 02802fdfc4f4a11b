use Rattle.warg_tiles.specs.TilePaths.{place_path}
use Rattle.warg_tiles.proofs.path.entries_in.Goals as goal

pub returns-in_err-strip_prefix : goal.returns-in_err-strip_prefix
returns-in_err-strip_prefix c = rw c.from_residual.ensures
    (λ t tile is. c.in_err-strip_prefix.ensures.cases (place_path t.number t.width) is)
