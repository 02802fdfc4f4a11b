use Rattle.warg_registry.proofs.MapLines.{is_line}
use Rattle.warg_registry.proofs.folder.lines_of.Goals as goal

pub returns-clause-each : goal.returns-clause-each
returns-clause-each c = rw (c.in_ok-push.ensures.items, c.new-lines.ensures.items) (
  rw c.in_ok-map_line.ensures (is_line c.args.root.now),
  tt,
)
