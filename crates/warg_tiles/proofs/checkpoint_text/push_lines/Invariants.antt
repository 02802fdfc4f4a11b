use Rattle.std.proofs.Common.{◌≡◌, [], ◌++◌, map, take}
use Rattle.warg_tiles.specs.CheckpointText.{lines}
use Rattle.warg_tiles.proofs.checkpoint_text.push_lines.Given as goal

abbrev pub invariant-extensions : goal.invariant-extensions
invariant-extensions g l = l.bytes.items ≡ l.initial.bytes.items ++ lines
    (map (λ e. e.items) (take l.extension-index l.extensions)) []
