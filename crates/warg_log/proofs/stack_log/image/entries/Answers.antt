use Rattle.std.proofs.Common.{refl, arith}
use Rattle.warg_log.proofs.ImageLemmas.{roots_fit}
use Rattle.warg_log.proofs.stack_log.image.entries.Goals as goal

pub blocks-2-init : goal.blocks-2-init
blocks-2-init g c = rw (c.of-roots.ensures, c.new-entries.ensures.items) (record {
  count = omega (arith, c.requires.count);
  fit = (roots_fit c.args.count c.requires.fits).1;
  written = refl;
  lengths = tt;
})
