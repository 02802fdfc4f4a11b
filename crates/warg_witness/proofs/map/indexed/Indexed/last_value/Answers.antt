use Rattle.std.proofs.Common.{◌≡◌, ◌∙◌, sym, ap, None}
use Rattle.std.specs.Map.{lookup}
use Rattle.warg_crypto.specs.Bytes.{same_bytes}
use Rattle.warg_map.specs.Bits.{key_bits}
use Rattle.warg_map.specs.Last.{last_under}
use Rattle.warg_witness.specs.Private.MapMeeting.{lent_pair}
use Rattle.warg_witness.proofs.InsertionLemmas.{value_of_digest, looked_up, by_bytes}
use Rattle.warg_witness.proofs.map.indexed.Indexed.last_value.Goals as goal
use Rattle.warg_witness.proofs.map.indexed.Indexed.last_value.Goals.{After-copied}

-- what stands under the key's digest
under : (g : _) (c : After-copied g)
    → last_under g.D.SupportedDigest.digest (key_bits g.D.SupportedDigest.digest (g.K.VisitBytes.bytes c.args.key.now))
    c.args.self.now ≡ lent_pair g.K.VisitBytes.bytes g.V.VisitBytes.bytes c.copied.result
under g c =
    let H = g.D.SupportedDigest.digest in
    let key = g.K.VisitBytes.bytes c.args.key.now in
    let index = c.self.inside.last in
    let found : lookup (same_bytes c.of.result) index.entries ≡ c.copied.result =
    sym (looked_up _ by_bytes index c.of.result) ∙ sym c.get.ensures.value ∙ sym c.copied.ensures in
    let there : lookup (same_bytes (H key)) index.entries ≡ c.copied.result =
    ap (λ d. lookup (same_bytes d) index.entries) (sym c.of.ensures) ∙ found in
    ap (last_under H (key_bits H key)) (sym c.self.view_is) ∙ c.self.invariant key
    ∙ ap (lent_pair g.K.VisitBytes.bytes g.V.VisitBytes.bytes) there

pub returns-in_default : goal.returns-in_default
returns-in_default g c =
    let H = g.D.SupportedDigest.digest in
    let none = ap (lent_pair g.K.VisitBytes.bytes g.V.VisitBytes.bytes) c.in_default.is in
    let there = under g (goal.at.returns-in_default g c).After-copied ∙ none in
    value_of_digest H (g.K.VisitBytes.bytes c.args.key.now) c.args.self.now None there tt

pub returns-then-branch : goal.returns-then-branch
returns-then-branch g c =
    let H = g.D.SupportedDigest.digest in
    let last = ap (lent_pair g.K.VisitBytes.bytes g.V.VisitBytes.bytes) c.in-Some.is in
    let same = c.in_ok-have_same_bytes.ensures.0 c.if-branch.true in
    let there = under g (goal.at.returns-then-branch g c).After-copied ∙ last in
    value_of_digest H (g.K.VisitBytes.bytes c.args.key.now) c.args.self.now _ there same
