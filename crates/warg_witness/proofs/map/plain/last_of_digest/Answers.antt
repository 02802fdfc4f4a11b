use Rattle.std.proofs.Common.{◌≡◌, rules, nat_eq}
use Rattle.std.specs.Cmp.Lexicographic.{pointwise}
use Rattle.std.proofs.lemmas.Iterator.Adapters.{YieldsList-from_rev_slice}
use Rattle.std.proofs.lemmas.Iterator.Search.{find_from_yields_List}
use Rattle.warg_map.specs.Bits.{key_bits}
use Rattle.warg_map.specs.Last.{same_bits}
use Rattle.warg_witness.proofs.InsertionLemmas.{last_found, same_digest_bits}
use Rattle.warg_witness.proofs.map.plain.last_of_digest.Goals as goal

pub returns : goal.returns
returns g c key is =
    let H = g.D.SupportedDigest.digest in
    let found = find_from_yields_List (λ e. same_bits (key_bits H key) (key_bits H (g.K.VisitBytes.bytes e.0))) _ _
    c.find.result c.find.ensures.ran (YieldsList-from_rev_slice c.args.insertions.now (cc))
    (λ x b q k. let e : pointwise nat_eq (H (g.K.VisitBytes.bytes x.now.0)) c.args.digest.now
    ≡ same_bits (key_bits H key) (key_bits H (g.K.VisitBytes.bytes x.now.0)) =
    rw is (same_digest_bits H g.met.D.SupportedDigest.is_digest key _) in search (rules, e)) in
    last_found _ _ _ c.args.insertions.now c.find.result found
