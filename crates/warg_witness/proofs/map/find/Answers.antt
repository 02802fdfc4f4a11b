use Rattle.std.proofs.lemmas.Result.{IfOk-weaker}
use Rattle.warg_witness.proofs.AgreementLemmas.{finds_shown}
use Rattle.warg_witness.proofs.KeyLemmas.{key_shown}
use Rattle.warg_witness.proofs.map.find.Goals as goal

pub returns : goal.returns
returns g c =
    let met = rw c.in-Some.is at c.in_ok-met.ensures in
    IfOk-weaker c.find_key.result _ _
    (finds_shown met.1.met (λ is. is) (λ is. is)
    (λ other. key_shown _ _ _ _ _ other _ _ g.met.D.SupportedDigest.is_digest met.0 met.1.diverges))
    c.find_key.ensures

pub find_key-requires : goal.find_key-requires
find_key-requires g c = let met = rw c.in-Some.is at c.in_ok-met.ensures in
    λ other. (key_shown _ _ _ _ _ other _ _ g.met.D.SupportedDigest.is_digest met.0 met.1.diverges).collides
