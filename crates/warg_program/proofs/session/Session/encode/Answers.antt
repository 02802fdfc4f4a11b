use Rattle.std.proofs.Common.{ap, Err}
use Rattle.warg_program.proofs.BundledLemmas.{bytes_shown, too_large_shown}
use Rattle.warg_program.proofs.TextLemmas.{says_same}
use Rattle.warg_program.proofs.session.Session.encode.Goals as goal

pub returns-in-Ok : goal.returns-in-Ok
returns-in-Ok g c = says_same c.args.self.now c.say_bytes.new.self _ _ c.say_bytes.result
    (bytes_shown c.args.bundle.now _ _ c.in-Ok.ensures.fits c.in-Ok.ensures.written c.as_slice.ensures.value)
    c.say_bytes.ensures

pub returns-in-Err-TooLarge : goal.returns-in-Err-TooLarge
returns-in-Err-TooLarge g c = says_same c.args.self.now c.say.new.self _ _ c.say.result
    (too_large_shown c.args.bundle.now (c.in-Err-TooLarge.ensures.too_large.0 (ap Err c.in-Err-TooLarge.field-0-is)))
    c.say.ensures
