use Rattle.std.proofs.Common.{◌≡◌, false, inl, inr, IsTrue, refl, arith}
use Rattle.std.proofs.lemmas.Bool.{false_from_ne_true}
use Rattle.std.proofs.lemmas.Nat.{pow_pos}
use Rattle.warg_log.specs.Cut.{is_beside, IsFull}
use Rattle.warg_log.specs.Ranges.{front_part}
use Rattle.warg_log.specs.Walks.{read_on}
use Rattle.warg_log.proofs.RootLemmas.{front_is}
use Rattle.warg_log.proofs.WayLemmas.{beside_decides, counts, starts, way_over_parts}
use Rattle.warg_log.proofs.laws.needed_parts.Goals as goal

pub returns-clause-rest_first : goal.returns-clause-rest_first
unfolding read_on
returns-clause-rest_first c = λ t r more apart misses.
    let front = front_is r.count more in
    let other = λ (same : r ≡ t). elim ((beside_decides t (front_part r)).0 misses) as (λ _. ⊥) [
      | inl before ↦ omega (arith, starts same, front.1, pow_pos front.0)
      | inr behind ↦ omega (arith, starts same, counts same)
    ] in
    rw (way_over_parts t r more other apart, misses) refl

pub returns-clause-front_first : goal.returns-clause-front_first
unfolding read_on
returns-clause-front_first c = λ t r more other clear.
    let front = front_is r.count more in
    let is_clear : is_beside t (front_part r) ≡ false = false_from_ne_true _ clear in
    let apart : IsFull r.count → IsTrue (is_beside t r)
    → ⊥ = λ full beside. clear ((beside_decides t (front_part r)).1 (elim ((beside_decides t r).0 beside) [
      | inl before ↦ inl (omega (arith, front.1, front.2))
      | inr behind ↦ inr behind
    ])) in
    rw (way_over_parts t r more other apart, is_clear) refl
