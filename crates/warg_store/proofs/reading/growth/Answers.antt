use Rattle.std.proofs.Common.{◌≡◌, ◌≤◌, ◌<◌, ℕ, length, take, sym, ap, ◌∙◌, arith}
use Rattle.warg_crypto.specs.Digests.{sha256}
use Rattle.warg_log.specs.Claims.{RootAndLength}
use Rattle.warg_log.specs.Tree.{root_of, leaves_of}
use Rattle.warg_paths.proofs.ForCallers.{old_root_known}
use Rattle.warg_tiles.specs.TileData.{digest_by}
use Rattle.warg_store.specs.Private.Fetched.{AreOwn}
use Rattle.warg_store.proofs.EnoughLemmas.{consistency_leads, old_root}
use Rattle.warg_store.proofs.WholeLemmas.{err_no_fault}
use Rattle.warg_store.proofs.reading.growth.Goals as goal

pub returns-clause-own : goal.returns-clause-own
returns-clause-own g c faithful log files count =
    c.in_ok-path.ensures.own faithful log files (grind (arith, count, c.length-2.ensures))
    (grind (arith, c.if-new-length.false, c.length.ensures, count))
    (rw c.new-tiles.ensures tt)

pub returns-in_err-check_root-clause-whole : goal.returns-in_err-check_root-clause-whole
returns-in_err-check_root-clause-whole g c = λ faithful log of.
    let ds = leaves_of sha256 log.entries in
    let count : ◌≡◌ {A = ℕ} c.args.checkpoint.now.length (length log.entries) =
    ap (λ (r : RootAndLength). r.length) of.said in
    let size : length log.entries ≡ c.length-2.result = sym (c.length-2.ensures ∙ count) in
    let inside : c.args.new ≤ c.length-2.result =
    grind (arith, c.if-new-length.false, c.length.ensures, c.length-2.ensures) in
    let some : 0 < c.args.old = grind (arith, c.if-old-eq0.false) in
    let order : c.args.old ≤ c.args.new = grind (arith, c.if-old-new.false) in
    let none : AreOwn log c.new-tiles.result = rw c.new-tiles.ensures tt in
    let path = c.in_ok-path.ensures.own faithful log of.holds size inside none in
    let own = c.in_ok-path.ensures.tiles faithful log of.holds size inside none in
    let first = old_root log _ c.args.old own some (omega (arith, order, inside, size))
    (old_root_known sha256 (digest_by sha256 c.fetched_growth.new.tiles) c.args.old c.args.new some
    c.in_ok-path.ensures.known) in
    let leads = consistency_leads log c.args.old c.args.new c.in_ok-path.path.items some order
    (omega (arith, inside, size)) path in
    let root = c.new_root-root.ensures.whole (root_of sha256 (take c.args.old ds)) (root_of sha256 (take c.args.new ds))
    first (rw c.as_slice.ensures.value leads) in
    err_no_fault _ _ _ c.from_residual-in_err-check_root.ensures.1
    (c.in_err-check_root.ensures.whole faithful log
    (record {
      can = of.can;
      said = of.said;
      holds = rw (c.fetched_growth.ensures.seen faithful) of.holds;
    })
    (omega (arith, some, order)) (omega (arith, inside, c.length-2.ensures)) own root)
