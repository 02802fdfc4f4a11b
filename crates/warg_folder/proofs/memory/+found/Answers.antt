use Rattle.std.proofs.Common.{ℕ, List, Some, ap, refl}
use Rattle.warg_folder.proofs.ForCallers.{same_name}
use Rattle.warg_folder.proofs.MemoryLemmas.{seen_more}
use Rattle.warg_folder.proofs.memory.+found.Goals as goal

pub returns-then-eq : goal.returns-then-eq
returns-then-eq t c =
    rw (seen_more _ _ _ c.in_ok-last.ensures.cases.0, c.in-Written.is, ← c.as_str.ensures.value, ← c.if-eq.ensures)
    (ap (λ (l : List ℕ). Some l) c.as_slice.ensures.value)

pub returns-else-eq : goal.returns-else-eq
returns-else-eq t c =
    rw (seen_more _ _ _ c.in_ok-last.ensures.cases.0, c.in-Written.is, ← c.as_str.ensures.value, ← c.if-eq.ensures)
    c.found.ensures

pub returns-in-Some : goal.returns-in-Some
returns-in-Some t c =
    rw (
      seen_more _ _ _ c.in_ok-last.ensures.cases.0,
      c.in-Renamed.is,
      ← c.as_str-in-Renamed.ensures.value,
      ← c.if-eq-2.ensures,
      ← c.as_str-then-eq-2.ensures.value,
      ← c.in-Some.ensures,
    )

pub returns-in-None : goal.returns-in-None
returns-in-None t c =
    rw (
      seen_more _ _ _ c.in_ok-last.ensures.cases.0,
      c.in-Renamed.is,
      ← c.as_str-in-Renamed.ensures.value,
      ← c.if-eq-2.ensures,
      ← c.as_str-then-eq-2.ensures.value,
      ← c.in-None.ensures,
      same_name _ _ c.args.name.now refl c.if-eq-2.ensures,
    ) c.found-in-None.ensures

pub returns-then-eq-3 : goal.returns-then-eq-3
returns-then-eq-3 t c =
    rw (
      seen_more _ _ _ c.in_ok-last.ensures.cases.0,
      c.in-Renamed.is,
      ← c.as_str-in-Renamed.ensures.value,
      ← c.if-eq-2.ensures,
      ← c.as_str-else-eq-2.ensures.value,
      ← c.if-eq-3.ensures,
    )

pub returns-else-eq-3 : goal.returns-else-eq-3
returns-else-eq-3 t c =
    rw (
      seen_more _ _ _ c.in_ok-last.ensures.cases.0,
      c.in-Renamed.is,
      ← c.as_str-in-Renamed.ensures.value,
      ← c.if-eq-2.ensures,
      ← c.as_str-else-eq-2.ensures.value,
      ← c.if-eq-3.ensures,
    ) c.found-else-eq-3.ensures

pub returns-then-eq-4 : goal.returns-then-eq-4
returns-then-eq-4 t c =
    rw (
      seen_more _ _ _ c.in_ok-last.ensures.cases.0,
      c.in-Removed.is,
      ← c.as_str-in-Removed.ensures.value,
      ← c.if-eq-4.ensures,
    )

pub returns-else-eq-4 : goal.returns-else-eq-4
returns-else-eq-4 t c =
    rw (
      seen_more _ _ _ c.in_ok-last.ensures.cases.0,
      c.in-Removed.is,
      ← c.as_str-in-Removed.ensures.value,
      ← c.if-eq-4.ensures,
    ) c.found-else-eq-4.ensures

pub returns-in-Synced : goal.returns-in-Synced
returns-in-Synced t c = rw (seen_more _ _ _ c.in_ok-last.ensures.cases.0, c.in-Synced.is) c.found-in-Synced.ensures

pub returns-then-eq-5 : goal.returns-then-eq-5
returns-then-eq-5 t c =
    rw (
      seen_more _ _ _ c.in_ok-last.ensures.cases.0,
      c.in-Replaced.is,
      ← c.as_str-in-Replaced.ensures.value,
      ← c.if-eq-5.ensures,
    ) (ap (λ (l : List ℕ). Some l) c.as_slice-then-eq-5.ensures.value)

pub returns-else-eq-5 : goal.returns-else-eq-5
returns-else-eq-5 t c =
    rw (
      seen_more _ _ _ c.in_ok-last.ensures.cases.0,
      c.in-Replaced.is,
      ← c.as_str-in-Replaced.ensures.value,
      ← c.if-eq-5.ensures,
    ) c.found-else-eq-5.ensures
