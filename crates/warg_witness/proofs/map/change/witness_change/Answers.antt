use Rattle.std.proofs.Common.{◌≡◌}
use Rattle.std.proofs.lemmas.Result.{IfOk-weaker}
use Rattle.warg_map.specs.Bits.{key_bits}
use Rattle.warg_map.specs.Last.{last_under}
use Rattle.warg_map.specs.Sparse.{pair_bytes}
use Rattle.warg_witness.specs.ChangeClaims.{IsChangeMet}
use Rattle.warg_witness.specs.MapClaims.{IsKeyMet}
use Rattle.warg_witness.specs.Private.MapMeeting.{IsKeyMeeting, lent_pair}
use Rattle.warg_witness.proofs.AgreementLemmas.{finds_shown}
use Rattle.warg_witness.proofs.ChangeLemmas.{found_before, found_step, step_parts}
use Rattle.warg_witness.proofs.KeyLemmas.{key_shown}
use Rattle.warg_witness.proofs.map.change.witness_change.Goals as goal
use Rattle.warg_witness.proofs.map.change.witness_change.Goals.{In-Some, Else-not-branch}

-- the old insertions, as the proof meets them
meeting : (g : _) (c : In-Some g)
    → let H = g.D.SupportedDigest.digest in let key = g.K.VisitBytes.bytes c.args.key.now in
    let xs = pair_bytes g.K.VisitBytes.bytes g.V.VisitBytes.bytes c.args.old.now in
    (last_under H (key_bits H key) xs ≡ lent_pair g.K.VisitBytes.bytes g.V.VisitBytes.bytes c.in-Some.met.last)
    × IsKeyMeeting H c.args.proof.now key (g.W.VisitBytes.bytes c.args.old_value.now) xs c.in-Some.met.divergence
    c.in-Some.met.own
meeting g c = rw (c.in-Some.is, c.peers.ensures.value) at c.in_ok-met.ensures

-- and the new ones
met_both : (g : _) (c : Else-not-branch g)
    → IsKeyMet g.D.SupportedDigest.digest c.args.proof.now (g.K.VisitBytes.bytes c.args.key.now)
    (g.W.VisitBytes.bytes c.args.old_value.now) (pair_bytes g.K.VisitBytes.bytes g.V.VisitBytes.bytes c.args.old.now)
    → IsChangeMet g.D.SupportedDigest.digest c.args.proof.now (g.K.VisitBytes.bytes c.args.key.now)
    (g.W.VisitBytes.bytes c.args.old_value.now) (g.V.VisitBytes.bytes c.args.new_value.now)
    (pair_bytes g.K.VisitBytes.bytes g.V.VisitBytes.bytes c.args.old.now)
    (pair_bytes g.K.VisitBytes.bytes g.V.VisitBytes.bytes c.args.new.now)
met_both g c before = record { before = before; after = c.in_ok-leads_to.ensures.0 c.if-not-branch.false }

pub find_key-requires : goal.find_key-requires
find_key-requires g c =
    let met = meeting g (goal.at.find_key-requires g c).In-Some in
    λ other. (key_shown _ _ _ _ _ other _ _ g.met.D.SupportedDigest.is_digest met.0 met.1.diverges).collides

pub returns-in_default-2 : goal.returns-in_default-2
returns-in_default-2 g c =
    let at = goal.at.returns-in_default-2 g c in
    let old = meeting g at.In-Some in
    let met = met_both g at.Else-not-branch old.1.met in
    let found = finds_shown old.1.met (λ is. is) (λ is. is)
    (λ other. key_shown _ _ _ _ _ other _ _ g.met.D.SupportedDigest.is_digest old.0 old.1.diverges)
    c.in_ok-lie.lie c.in_ok-lie.ensures in
    record { found = found_before _ _ _ _ _ _ _ met c.in_ok-lie.lie c.in_default-2.not-Holds found }

pub find_change-requires : goal.find_change-requires
find_change-requires g c =
    let at = goal.at.find_change-requires g c in
    let old = meeting g at.In-Some in
    step_parts _ _ _ _ _ _ _ (met_both g at.Else-not-branch old.1.met) c.in-Some.met.divergence old.1.diverges

pub returns : goal.returns
returns g c =
    let at = goal.at.returns g c in
    let old = meeting g at.In-Some in
    let met = met_both g at.Else-not-branch old.1.met in
    let before = (rw c.in-Holds.is at c.in_ok-lie.ensures).1 in
    let found = found_step _ _ _ _ _ _ _ met c.in-Some.met.divergence old.1.diverges before in
    record { found = IfOk-weaker c.find_change.result _ _ found c.find_change.ensures }
