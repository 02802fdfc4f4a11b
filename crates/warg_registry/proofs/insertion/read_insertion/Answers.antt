use Rattle.std.proofs.Common.{◌≡◌, eqb, length, true, refl}
use Rattle.warg_registry.proofs.Entries.{no_value, no_more, behind_entry}
use Rattle.warg_registry.proofs.insertion.read_insertion.Goals as goal

pub returns-in_default-first_part-clause-none : goal.returns-in_default-first_part-clause-none
returns-in_default-first_part-clause-none c =
    let first = c.in-Some.ensures in
    no_value c.args.entry.now c.in-Some.key.now c.in-Some.rest.now first.0 first.1 c.in_default-first_part.ensures

pub returns-then-not-is_empty-clause-none : goal.returns-then-not-is_empty-clause-none
returns-then-not-is_empty-clause-none c =
    let first = c.in-Some.ensures in
    let second = c.in-Some-first_part.ensures in
    let more = c.in-Some-first_part.rest.now in
    no_more c.args.entry.now c.in-Some.key.now c.in-Some-first_part.value.now c.in-Some.rest.now more
    first.0 second.0 first.1 second.1 (λ e. let all : eqb (length more) 0 ≡ true = rw e refl in cc)

pub returns-then-not-is_empty-clause-fault : goal.returns-then-not-is_empty-clause-fault
returns-then-not-is_empty-clause-fault c =
    let key = c.in-Some.key.now in
    let value = c.in-Some-first_part.value.now in
    let more = c.in-Some-first_part.rest.now in
    let first = c.in-Some.ensures in
    let second = c.in-Some-first_part.ensures in (
      (key, value),
      more,
      (first.0, second.0),
      behind_entry c.args.entry.now key value c.in-Some.rest.now more first.1 second.1,
      λ e. let all : eqb (length more) 0 ≡ true = rw e refl in cc,
    )
