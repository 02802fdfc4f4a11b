use Rattle.std.proofs.Common.{ℕ, List, map, sym, arith, Bor}
use Rattle.std.proofs.lemmas.List.{get_or-map, length-map}
use Rattle.warg_store.specs.Log.{AreShort}
use Rattle.warg_registry.specs.Insertions.{entry_of}
use Rattle.warg_registry.proofs.Refused.{told_as, refused_for, none_long}
use Rattle.warg_registry.proofs.folder.entries_in.Goals as goal

abbrev Pair : Type 0
Pair = Bor (List ℕ) × Bor (List ℕ)

pub returns-in_err-entry_in-clause-refused : goal.returns-in_err-entry_in-clause-refused
returns-in_err-entry_in-clause-refused c =
    let pair : Pair → List ℕ × List ℕ = λ e. (e.0.now, e.1.now) in
    let all = c.args.insertions.now in
    let i = c.insertions.insertion-index in
    let long : Type 0 = AreShort (map entry_of (map pair all)) → ⊥ in
    let e = c.in_err-entry_in.field-0.0 in
    told_as _ _ _ c.from_residual.ensures.1
    (refused_for _ ⊥ long ⊥ e (none_long entry_of (map pair all) i _ (omega (arith, length-map all pair))
    (sym (get_or-map pair all i _ _ (omega arith)))) (λ n. n) c.in_err-entry_in.ensures.refused)
