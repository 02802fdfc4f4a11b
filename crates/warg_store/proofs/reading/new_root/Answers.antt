use Rattle.std.proofs.Common.{◌≡◌, ℕ, List, Some, refl, sym, ap, ◌∙◌}
use Rattle.std.specs.Prelude.{◌&&◌, nat_eq, true}
use Rattle.std.specs.Cmp.Lexicographic.{pointwise, bytes_decides}
use Rattle.warg_crypto.specs.Digests.{sha256}
use Rattle.warg_log.specs.Ranges.{leaves_from}
use Rattle.warg_log.specs.Cut.{old_over}
use Rattle.warg_paths.specs.Paths.{consistency_roots}
use Rattle.warg_tiles.specs.TileData.{digest_by}
use Rattle.warg_folder.proofs.ForCallers.{apart}
use Rattle.warg_store.proofs.OptionLemmas.{one_value, no_value}
use Rattle.warg_store.proofs.reading.new_root.Goals.{After-roots_of_consistency}
use Rattle.warg_store.proofs.reading.new_root.Goals as goal

-- where the path leads from the root that the tiles have, the call returns that root and the new one
returned : (c : After-roots_of_consistency) (from to : List ℕ)
    → old_over sha256 (digest_by sha256 c.args.tiles.now) (leaves_from 0 c.args.old) ≡ Some from
    → consistency_roots sha256 c.args.old c.args.new from c.args.path.now ≡ Some (from, to)
    → (c.in_ok-from.from ≡ from) × (c.roots_of_consistency.result ≡ Some (from, to))
returned c from to old leads =
    let same = one_value (sym (rw c.new.ensures at c.in_ok-from.ensures.root)) old in
    (same, rw same at c.roots_of_consistency.ensures ∙ leads)

pub returns-in_err-old_root-clause-whole : goal.returns-in_err-old_root-clause-whole
returns-in_err-old_root-clause-whole c = λ from to old leads.
    let at = goal.at.returns-in_err-old_root-clause-whole c in
    absurd (no_value c.in_err-old_root.was
    (returned at.After-roots_of_consistency from to old leads).1)

pub returns-then-eq-clause-whole : goal.returns-then-eq-clause-whole
returns-then-eq-clause-whole c = λ from to old leads.
    let at = goal.at.returns-then-eq-clause-whole c in
    ap (λ (p : List ℕ × List ℕ). Some p.1) (one_value c.in_ok-old_root.was
    (returned at.After-roots_of_consistency from to old leads).1)

pub returns-clause-whole : goal.returns-clause-whole
returns-clause-whole c = λ from to old leads.
    let roots = returned (goal.at.returns-clause-whole c).After-roots_of_consistency from to old leads in
    let first : c.in_ok-old_root.old_root ≡ c.in_ok-from.from = ap (λ (p : List ℕ × List ℕ). p.0)
    (one_value c.in_ok-old_root.was roots.1) ∙ sym roots.0 in
    let equal : (pointwise nat_eq c.in_ok-old_root.old_root c.in_ok-from.from && true) ≡ true =
    rw ((bytes_decides c.in_ok-old_root.old_root c.in_ok-from.from).1 first) refl in
    absurd (apart (sym equal ∙ sym c.if-eq.ensures))
