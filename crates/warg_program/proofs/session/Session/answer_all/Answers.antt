use Rattle.std.proofs.Common.{arith, ◌∙◌, sym, refl, eqb-true}
use Rattle.warg_program.proofs.WordLemmas.{some_bytes, first_line}
use Rattle.warg_program.proofs.TextLemmas.{starts, goes_on, stops, meets_full, ends}
use Rattle.warg_program.proofs.session.Session.answer_all.Goals as goal

pub loop-rest-init : goal.loop-rest-init
loop-rest-init g c = record {
  stands = starts _ _ c.requires.state c.requires.no_text;
  few = omega arith;
}

pub loop-rest-preserved : goal.loop-rest-preserved
loop-rest-preserved g c =
    let some = some_bytes _ c.loop-rest-test.ensures in
    let next = first_line _ _ _ _ _ c.unwrap_or-rest.ensures refl some c.split_first.ensures in
    record {
      stands = goes_on _ _ _ _ _ _ _ c.loop-rest.invariant.stands next.0 c.in-Ok.ensures;
      few = omega (arith, c.loop-rest.invariant.few, next.1);
    }

pub returns-in-Err-BadLine : goal.returns-in-Err-BadLine
returns-in-Err-BadLine g c =
    let some = some_bytes _ c.loop-rest-test.ensures in
    let next = first_line _ _ _ _ _ c.unwrap_or-rest.ensures refl some c.split_first.ensures in
    let is = rw c.in-Err-BadLine.field-0-is at c.in-Err-BadLine.ensures in
    let all = stops _ _ _ _ _ _ _ c.loop-rest.invariant.stands next.0 is.0
    (rw is.1 at c.in_ok-writeln-in-Err-BadLine.ensures.bytes) in
    record { text = all.0; good = sym all.1; room = all.2; errors = tt }

pub returns-in-Err-Full : goal.returns-in-Err-Full
returns-in-Err-Full g c =
    let some = some_bytes _ c.loop-rest-test.ensures in
    let next = first_line _ _ _ _ _ c.unwrap_or-rest.ensures refl some c.split_first.ensures in
    let full = rw c.in-Err-Full.field-0-is at c.in-Err-Full.ensures in
    record { text = tt; good = tt; room = tt; errors = meets_full _ _ _ _ _ _ c.loop-rest.invariant.stands next.0 full }

pub returns-in-Err-Memory : goal.returns-in-Err-Memory
returns-in-Err-Memory g c = record { text = tt; good = tt; room = tt; errors = tt }

pub overflow_add-number : goal.overflow_add-number
overflow_add-number g c = let some = some_bytes _ c.loop-rest-test.ensures in omega arith

pub loop-rest-smaller : goal.loop-rest-smaller
loop-rest-smaller g c =
    let some = some_bytes _ c.loop-rest-test.ensures in
    (first_line _ _ _ _ _ c.unwrap_or-rest.ensures refl some c.split_first.ensures).1

pub returns : goal.returns
returns g c =
    let all = ends _ _ _ _ c.loop-rest.invariant.stands
    (eqb-true _ _ (sym c.is_empty.ensures ∙ c.loop-rest-test.false)) in
    record { text = all.0; good = sym all.1; room = all.2; errors = tt }
