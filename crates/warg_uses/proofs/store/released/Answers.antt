use Rattle.std.proofs.Common.{refl}
use Rattle.warg_store.specs.Growing.{with_entry}
use Rattle.warg_uses.proofs.store.released.Goals as goal

pub returns : goal.returns
returns g c faithful served kept has =
    let pushed = c.in_ok-push.ensures.pushed faithful served kept kept
    (c.in_ok-log.ensures.has faithful served kept has) in
    c.in_ok-commit.ensures.committed faithful served kept (with_entry kept c.args.release.now) pushed refl
