use Rattle.std.proofs.Common.{arith, codes, refl}
use Rattle.std.proofs.lemmas.Grind.{common_steps}
use Rattle.warg_program.specs.Text.{answer}
use Rattle.warg_program.proofs.TextLemmas.{told, not_decoded, no_proof}
use Rattle.warg_program.proofs.session.Session.say_verdict.Goals as goal

pub returns-in_ok-writeln-in-Ok : goal.returns-in_ok-writeln-in-Ok
unfolding answer
returns-in_ok-writeln-in-Ok g c s at =
    let verdict = rw c.in-Ok.is at c.check_inclusion.ensures.verdict in
    record {
      is_good = refl;
      room = λ full. full;
      log_is = at.log_is;
      map_is = at.map_is;
      text_is = λ number. rw verdict (grind (arith, common_steps));
    }

pub returns-in-Err-Decode : goal.returns-in-Err-Decode
unfolding answer
returns-in-Err-Decode g c =
    let verdict = rw (c.in-Err-Decode.is, c.in-Err-Decode.field-0-is) at c.check_inclusion.ensures.verdict in
    told _ _ _ (codes "refused not decoded") _ (λ s at. not_decoded _ _ verdict) (λ s. refl)
    (λ s full. full) c.say.ensures

pub returns-in-Err-NoSuchProof : goal.returns-in-Err-NoSuchProof
unfolding answer
returns-in-Err-NoSuchProof g c =
    let verdict = rw (c.in-Err-NoSuchProof.is, c.in-Err-NoSuchProof.field-0-is) at c.check_inclusion.ensures.verdict in
    told _ _ _ (codes "refused no such proof") _ (λ s at. no_proof _ verdict) (λ s. refl)
    (λ s full. full) c.say-in-Err-NoSuchProof.ensures
