use Rattle.std.proofs.Common.{◌≡◌, ◌<◌, [], length, Some, Ok, Err, Result, IfOk, slice_index_or, sym, ap, ◌∙◌, arith}
use Rattle.std.proofs.Math.Seq.{take-length}
use Rattle.warg_crypto.specs.Digests.{sha256}
use Rattle.warg_log.specs.Tree.{root_of, own_digest}
use Rattle.warg_log.specs.Cut.{old_over}
use Rattle.warg_paths.specs.Paths.{led_to, inclusion_of}
use Rattle.warg_uses.proofs.paths.path_to_release.Goals as goal

-- what holds of each value holds of the value that is there
mapped : {T E : Type 0} (r : Result T E) (P Q : T → Type 0) → IfOk r P → ((x : T) → P x → Q x) → IfOk r Q
mapped (Ok x) P Q is then = then x is
mapped (Err e) P Q is then = tt

pub returns : goal.returns
returns c =
    let ds = c.args.log.now in
    let n = length ds in
    mapped c.inclusion_path.result _ _ c.inclusion_path.ensures.ok (λ path made.
    let inside : c.args.index < n = omega (arith, made.0, c.length.ensures.value) in
    let is : inclusion_of (old_over sha256 (own_digest sha256 ds)) c.args.index n ≡ Some path.items =
    ap (inclusion_of (old_over sha256 (own_digest sha256 ds)) c.args.index) (sym c.length.ensures.value) ∙ made.1 in
    sym (ap (led_to sha256 c.args.index n (slice_index_or ds c.args.index [])) is)
    ∙ c.own_inclusion_path.ensures sha256 ds c.args.index n inside (omega arith) ∙ ap (λ es. Some (root_of sha256 es))
    (take-length ds))
