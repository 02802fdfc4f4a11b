use Rattle.std.proofs.Common.{◌≡◌, ◌≤◌, ◌<◌, length, sym, ap, ◌∙◌, arith}
use Rattle.std.proofs.lemmas.Result.{IfOk-at_ok}
use Rattle.warg_crypto.specs.Digests.{sha256}
use Rattle.warg_log.specs.Claims.{RootAndLength}
use Rattle.warg_paths.proofs.ForCallers.{inclusion_known}
use Rattle.warg_tiles.specs.TileData.{digest_by}
use Rattle.warg_store.specs.Private.Fetched.{AreOwn}
use Rattle.warg_store.proofs.EnoughLemmas.{inclusion_leads, path_memory, some_none}
use Rattle.warg_store.proofs.FetchedLemmas.{own_inclusion}
use Rattle.warg_store.proofs.WholeLemmas.{err_no_fault}
use Rattle.warg_store.proofs.reading.inclusion.Goals as goal

pub returns-clause-own : goal.returns-clause-own
returns-clause-own g c faithful log files count =
    let size : length log.entries ≡ c.length-length.result = count ∙ sym c.length-length.ensures in
    let inside : c.args.log_length ≤ c.length-length.result = omega (arith, c.if-log_length-length.false) in
    let own = c.in_ok-leaf.ensures.own faithful log files size inside (rw c.new-tiles.ensures tt) in
    own_inclusion log _ own _ _ c.in_ok-path.path.items
    (IfOk-at_ok _ c.in_ok-path.ensures.path c.inclusion_path.ensures.ok).1

pub returns-in_err-leaf-clause-whole : goal.returns-in_err-leaf-clause-whole
returns-in_err-leaf-clause-whole g c = λ faithful log of.
    let size : length log.entries ≡ c.length-length.result =
    sym (c.length-length.ensures ∙ ap (λ (r : RootAndLength). r.length) of.said) in
    err_no_fault _ _ _ c.from_residual.ensures.1
    (c.in_err-leaf.ensures.whole faithful log of.holds size (omega (arith, c.if-log_length-length.false)))

pub returns-in_err-path-clause-whole : goal.returns-in_err-path-clause-whole
returns-in_err-path-clause-whole g c = λ faithful log of.
    let below : c.args.index < c.args.log_length = omega (arith, c.if-index-log_length.false) in
    err_no_fault _ _ _ c.from_residual-in_err-path.ensures.1
    (c.in_err-path.ensures.whole (path_memory c.inclusion_path.result
    (λ e. omega (arith, c.inclusion_path.ensures.out_of_range.0 e, below))
    (λ e. some_none _ (inclusion_known sha256 (digest_by sha256 c.fetch_inclusion.new.tiles) _ _ below
    c.in_ok-leaf.ensures.known) (c.inclusion_path.ensures.not_known.0 e).1)))

pub returns-in_err-check_root-clause-whole : goal.returns-in_err-check_root-clause-whole
returns-in_err-check_root-clause-whole g c = λ faithful log of.
    let size : length log.entries ≡ c.length-length.result =
    sym (c.length-length.ensures ∙ ap (λ (r : RootAndLength). r.length) of.said) in
    let inside : c.args.log_length ≤ c.length-length.result = omega (arith, c.if-log_length-length.false) in
    let below : c.args.index < c.args.log_length = omega (arith, c.if-index-log_length.false) in
    let none : AreOwn log c.new-tiles.result = rw c.new-tiles.ensures tt in
    let own = c.in_ok-leaf.ensures.own faithful log of.holds size inside none in
    let path = own_inclusion log _ own _ _ c.in_ok-path.path.items
    (IfOk-at_ok _ c.in_ok-path.ensures.path c.inclusion_path.ensures.ok).1 in
    let root = inclusion_leads log c.args.index c.args.log_length c.in_ok-leaf.leaf c.in_ok-path.path.items below
    (omega (arith, inside, size)) (c.in_ok-leaf.ensures.leaf faithful log of.holds size inside none) path in
    err_no_fault _ _ _ c.from_residual-in_err-check_root.ensures.1
    (c.in_err-check_root.ensures.whole faithful log
    (record {
      can = of.can;
      said = of.said;
      holds = rw (c.fetch_inclusion.ensures.seen faithful) of.holds;
    }) (omega (arith, below))
    (omega (arith, inside, c.length-length.ensures)) own
    (rw c.as_slice.ensures.value at c.root_of_inclusion-root.ensures ∙ root))
