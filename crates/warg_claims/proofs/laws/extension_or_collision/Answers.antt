use Rattle.std.proofs.Common.{◌≡◌, Ok, sym, subst, ◌∙◌}
use Rattle.warg_crypto.specs.Collisions.{SomeCollision}
use Rattle.warg_log.specs.Sparse.{held_digest}
use Rattle.warg_witness.specs.Placed.{IsConsistencyPlaced}
use Rattle.warg_bundle.specs.LogBundles.{Bundle}
use Rattle.warg_claims.proofs.ConvictLemmas.{extended}
use Rattle.warg_claims.proofs.laws.extension_or_collision.Goals as goal

pub returns : goal.returns
returns c = λ H bytes place old new b m before after gives shown reads there first second untrue.
    let is = c.growth_is_shown.ensures H bytes place m old b.log_length new
    (extended H bytes place old new b m reads there shown) in
    let one : is.bundle ≡ b = (let both : Ok is.bundle ≡ Ok b = sym is.spelled ∙ reads in cc) in
    subst (λ (x : Bundle). SomeCollision H (IsConsistencyPlaced H (held_digest x.hashes) before after)) one
    (c.consistency_or_collision.ensures H (held_digest is.bundle.hashes) m b.log_length before after gives
    (record {
      old_count = sym first.length;
      new_count = sym second.length;
      roots =
          rw (← first.root, ← second.root) is.roots;
    }) untrue)
