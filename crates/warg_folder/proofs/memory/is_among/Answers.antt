use Rattle.std.proofs.Common.{◌≡◌, ⊎_elim, true, false, refl, sym, ap, ◌∙◌, arith}
use Rattle.std.proofs.lemmas.List.{get_or-map, length-map, take_all}
use Rattle.warg_folder.proofs.ListLemmas.{text, contains_more}
use Rattle.warg_folder.proofs.ForCallers.{same_name, other_name}
use Rattle.warg_folder.proofs.memory.is_among.Goals as goal

pub names-preserved : goal.names-preserved
names-preserved c = λ has. ⊎_elim (λ before. c.names.invariant before)
    (λ here. other_name (text c.it-item.result) c.as_str.result.now c.args.name.now c.as_str.ensures.value
    (sym c.if-eq.false ∙ c.eq.ensures) here)
    (contains_more c.args.names.now c.names.it-index c.it-item.result c.args.name.now (omega arith) c.it-item.is has)

pub returns : goal.returns
returns c = (
  λ t. absurd (let no : false ≡ true = t in cc),
  λ has. absurd (c.names.invariant
      (rw (take_all c.names.it-index c.args.names.now (omega (arith, c.names-test.false))) has)),
)

pub returns-then-eq : goal.returns-then-eq
returns-then-eq c =
    let it = c.it-item.result in (
      λ t. (
        c.names.it-index,
        omega (arith, length-map c.args.names.now text),
        get_or-map text c.args.names.now c.names.it-index it c.args.name.now (omega arith)
            ∙ ap text (sym c.it-item.is)
            ∙ same_name (text it) c.as_str.result.now c.args.name.now c.as_str.ensures.value
            (sym c.if-eq.true ∙ c.eq.ensures),
      ),
      λ has. refl,
    )
