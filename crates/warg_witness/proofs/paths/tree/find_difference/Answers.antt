use Rattle.warg_witness.proofs.ShownLemmas.{differs_not_begins}
use Rattle.warg_witness.proofs.GrowthLemmas.{growth_shown}
use Rattle.warg_witness.proofs.paths.tree.find_difference.Goals as goal

pub returns : goal.returns
returns g c =
    let differs = rw c.in-Some.is at c.in_ok-place.ensures in
    let shown = growth_shown _ _ _ _ _ c.requires _ _ differs c.growth_divergence-divergence.ensures in (
      tt,
      differs_not_begins _ _ _ differs,
      rw (c.in_ok-pair.ensures, ← c.entry_at-old_entry.ensures, ← c.entry_at-new_entry.ensures) shown.placed,
    )

pub collide-requires : goal.collide-requires
collide-requires g c =
    let differs = rw c.in-Some.is at c.in_ok-place.ensures in
    rw (← c.entry_at-old_entry.ensures, ← c.entry_at-new_entry.ensures)
    (growth_shown _ _ _ _ _ c.requires _ _ differs c.growth_divergence-divergence.ensures).collides
