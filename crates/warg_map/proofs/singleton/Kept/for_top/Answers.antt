use Rattle.std.proofs.Common.{◌≤◌, ◌∙◌, arith, rules}
use Rattle.warg_map.specs.Private.Lone.{IsKept}
use Rattle.warg_map.proofs.StemRoots.{root-kept}
use Rattle.warg_map.proofs.singleton.Kept.for_top.Goals as goal
use Rattle.warg_map.proofs.singleton.Kept.for_top.Goals.{then-self-top+then-lower-self, else-self-top}

pub returns-clause-digest : goal.returns-clause-digest
returns-clause-digest g c = λ value own low.
    let H = g.D.SupportedDigest.digest in
    let key = c.args.key.now in
    let known : (c.if-self-top.known.now.height ≤ c.args.top) × IsKept H key value c.if-self-top.known.now =
    elim c.if-self-top.branch [
      | then-self-top+then-lower-self w ↦ rw w.known-is (w.if-self-top.true, own)
      | else-self-top w ↦ rw w.known-is (c.requires.lower, low)
    ] in
    let up : c.if-self-top.known.now.height ≤ c.max-height.result = search rules in
    let most : c.max-height.result ≤ c.args.top = search (rules, known.0) in
    c.stem_digest.ensures ∙ root-kept H value key c.if-self-top.known.now.height c.max-height.result
    (omega (arith, most, c.requires.top)) up known.1
