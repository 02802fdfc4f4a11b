use Rattle.std.proofs.lemmas.List.{take_all}
use Rattle.warg_bundle.proofs.NeededLemmas.{root_exists, needed_all}
use Rattle.warg_bundle.proofs.log.needed.add_consistency.Goals as goal

pub add_inclusion-requires : goal.add_inclusion-requires
add_inclusion-requires g c = root_exists (λ p. p.leaf) (λ p. p.log_length) _ _ _ _ _
    (rw c.as_slice-inclusion-items.ensures.value c.in-Ok.ensures.leaves)
    (rw c.as_slice-inclusion-items.ensures.value c.in-Ok.ensures.lengths) c.requires c.roots-test.true
    c.inclusion-item.is

pub returns : goal.returns
returns g c =
    rw (
      take_all _ _ c.roots-test.false,
      c.as_slice-inclusion-items.ensures.value,
      needed_all (λ p. p.leaf) (λ p. p.log_length) _ _ _ c.in-Ok.ensures.leaves c.in-Ok.ensures.lengths,
    ) at
    c.roots.invariant
