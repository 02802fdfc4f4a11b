use Rattle.warg_tiles.proofs.TextLemmas.{lines-take}
use Rattle.warg_tiles.proofs.checkpoint_text.push_lines.Goals as goal

pub extensions-preserved : goal.extensions-preserved
extensions-preserved g c =
    rw (
      lines-take c.args.bytes.now.items (λ e. e.items) c.args.extensions.now c.extension-item.result
          c.extensions.extension-index c.extensions-test.true c.extension-item.is,
      ← c.extensions.invariant,
      ← c.as_slice.ensures.value,
    )
    c.in_ok-push_line.ensures
