use Rattle.std.proofs.Common.{◌≡◌, ◌++◌, sym, inl, ◌∙◌}
use Rattle.std.proofs.lemmas.List.{append-nil, nil_from_length}
use Rattle.std.specs.Vec.Iter.{into_iter_items}
use Rattle.warg_registry.specs.Pruning.{bytes_of}
use Rattle.warg_registry.proofs.SomeNames.{some_all, moved, some_passed}
use Rattle.warg_registry.proofs.Listed.{none_there}
use Rattle.warg_registry.proofs.Pruned.{not_there, is_there, pushed_none, among_passed}
use Rattle.warg_registry.proofs.pruning.NeededPages.others.Goals.{In-None}
use Rattle.warg_registry.proofs.pruning.NeededPages.others.Goals as goal

pub names-init : goal.names-init
names-init c = record {
  none = λ n is. absurd (none_there n (rw c.new-others.ensures.items at is));
  all = λ n is. inl (rw (c.new-others.ensures.items, c.into_iter-name-iterator.ensures.into_iter_gives.0) is);
  some = rw (c.new-others.ensures.items, c.into_iter-name-iterator.ensures.into_iter_gives.0)
      (some_all c.args.names.items);
}

pub names-preserved-in-Continue-1 : goal.names-preserved-in-Continue-1
names-preserved-in-Continue-1 c =
    let keys = c.args.self.now.names.keys in
    let same = moved c.names.others.items c.in_ok-push.ensures.items c.in-Some.ensures.steps.0 in
    record {
      none = pushed_none (bytes_of keys) c.names.others.items c.push.new.self.items c.in-Some.name
          c.in_ok-push.ensures.items c.names.invariant.none
          (λ there. not_there c.as_str.result.now keys (sym c.contains.ensures ∙ c.if-not-contains.true)
          (rw c.as_str.ensures.value there));
      all = rw same at
          c.names.invariant.all;
      some = rw same at c.names.invariant.some;
    }

pub names-preserved : goal.names-preserved
names-preserved c =
    let keys = c.args.self.now.names.keys in
    record {
      none = c.names.invariant.none;
      all = among_passed (bytes_of c.args.names.items) (bytes_of keys) c.names.others.items _ _ c.in-Some.name
          c.in-Some.ensures.steps.0 (rw c.as_str.ensures.value at
          (is_there c.as_str.result.now keys (sym c.contains.ensures ∙ c.if-not-contains.false))) c.names.invariant.all;
      some = some_passed c.args.names.items c.names.others.items _ _ c.in-Some.name c.in-Some.ensures.steps.0
          c.names.invariant.some;
    }

-- at the end no name is left to be looked at
none_left : (c : In-None) → c.names.others.items ++ into_iter_items c.names.name-iterator ≡ c.names.others.items
none_left c = rw (nil_from_length (into_iter_items c.names.name-iterator)
    (sym c.names.name-iterator.rest.ok.0 ∙ c.in-None.ensures.steps.0)) (append-nil c.names.others.items)

pub returns-clause-some : goal.returns-clause-some
returns-clause-some c = rw (none_left (goal.at.returns-clause-some c).In-None) at c.names.invariant.some

pub returns-clause-all : goal.returns-clause-all
returns-clause-all c =
    rw (none_left (goal.at.returns-clause-all c).In-None) at c.names.invariant.all
