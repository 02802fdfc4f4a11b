use Rattle.std.proofs.Common.{◌≡◌, ◌<◌, false, length, get_or, sym, ◌∙◌, arith, string_bytes}
use Rattle.std.proofs.lemmas.List.{get_or_default, take_all}
use Rattle.std.proofs.lemmas.List.Elements.{All-more}
use Rattle.std.specs.declared.string.String.{String}
use Rattle.std.specs.declared.alloc.Global.{Global}
use Rattle.warg_folder.specs.Names.{is_of_log}
use Rattle.warg_store.proofs.opening.are_others.Goals as goal

pub names-preserved : goal.names-preserved
names-preserved c = record {
  others = All-more (λ (x : String Global). is_of_log (string_bytes x) ≡ false) c.args.names.now
      c.names.name-index c.name-item.result (omega arith) c.names.invariant.others
      (rw (← c.name-item.is, ← c.as_str.ensures.value) (sym c.is_of_log.ensures ∙ c.if-is_of_log.false));
}

pub returns-then-is_of_log-clause-found : goal.returns-then-is_of_log-clause-found
returns-then-is_of_log-clause-found c = λ none.
    let names = c.args.names.now in
    let at = c.names.name-index in
    let within : at < length names = omega arith in
    let name = get_or names at c.name-item.result in (
      at,
      name,
      within,
      get_or_default names at name c.name-item.result within,
      rw (← c.name-item.is, ← c.as_str.ensures.value) (sym c.is_of_log.ensures ∙ c.if-is_of_log.true),
    )

pub returns-clause-others : goal.returns-clause-others
returns-clause-others c = λ others.
    rw (take_all c.names.name-index c.args.names.now (omega arith)) at c.names.invariant.others
