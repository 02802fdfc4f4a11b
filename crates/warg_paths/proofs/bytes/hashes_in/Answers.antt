use Rattle.std.proofs.Common.{◌≡◌, Some, ◌%◌, length, sym, ap, ◌∙◌, arith}
use Rattle.std.proofs.lemmas.Bool.{eq-eqb}
use Rattle.std.proofs.lemmas.List.{length-append}
use Rattle.warg_paths.proofs.BytesLemmas.{one_more, none_left}
use Rattle.warg_paths.proofs.bytes.hashes_in.Goals as goal

pub pieces-preserved : goal.pieces-preserved
pieces-preserved g c =
    let step = c.in-Some.ensures.steps in
    record {
      read = rw (c.in_ok-push.ensures.items, c.in_ok-try_from.ensures.ok)
          (one_more c.pieces.hashes.items c.in-Some.piece.now c.next.new.self.rest.now
          (step.1.1 ∙ c.pieces.invariant.size) ∙ rw (← step.1.0) c.pieces.invariant.read);
      even = omega (
        arith,
        c.pieces.invariant.even,
        c.pieces.invariant.size,
        step.1.1,
        ap length step.1.0
            ∙ length-append c.in-Some.piece.now c.next.new.self.rest.now,
      );
      size = step.0 ∙ c.pieces.invariant.size;
    }

pub returns-clause-ok : goal.returns-clause-ok
returns-clause-ok g c =
    let none : length c.pieces.piece-iterator.rest.now ≡ 0 =
    omega (arith, c.in-None.ensures.steps.1.0, c.pieces.invariant.even, c.pieces.invariant.size) in
    rw (eq-eqb (length c.args.bytes.now % 32) 0 c.if-bytes-ne0.false)
    (ap Some (sym c.pieces.invariant.read ∙ none_left c.pieces.hashes.items c.pieces.piece-iterator.rest.now none))
