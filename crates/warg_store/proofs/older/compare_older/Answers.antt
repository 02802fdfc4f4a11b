use Rattle.std.proofs.Common.{◌≡◌, ◌++◌, ℕ, List, true, nat_eq, codes, map, refl, arith}
use Rattle.std.specs.Prelude.{Contains, string_bytes}
use Rattle.std.specs.List.{AllByRecursion, starts_with}
use Rattle.std.proofs.lemmas.List.{take_all}
use Rattle.warg_protobuf.proofs.ForCallers.{all_at}
use Rattle.warg_store.specs.Private.Compared.{IsBeginning}
use Rattle.warg_folder.proofs.ForCallers.{read_then}
use Rattle.warg_store.proofs.ComparedLemmas.{all_more}
use Rattle.warg_store.proofs.OlderLemmas.{begins_partial}
use Rattle.warg_store.proofs.WholeLemmas.{err_same}
use Rattle.warg_store.proofs.older.compare_older.Goals as goal

pub names-preserved : goal.names-preserved
names-preserved g c = record {
  faults = omega (arith, c.names.invariant.faults, c.compare_named.ensures.cause.later);
  read = λ faithful. read_then _ _ _ _ _ _ _ (g.met.F.Folder.counts_now c.args.folder.now)
      (c.names.invariant.read faithful)
      (c.compare_named.ensures.read faithful);
  older = λ faithful. all_more
      (IsBeginning c.args.newer.now (g.F.Folder.seen c.args.folder.now)) (λ s. string_bytes s)
      c.as_slice-name-items.result.now c.names.name-index c.name-item.result (omega arith) c.name-item.is
      (c.names.invariant.older faithful)
      (rw ((c.names.invariant.read faithful).found, c.as_str.ensures.value) at
      (c.in_ok-compare_named.ensures.older faithful));
}

pub returns-clause-older : goal.returns-clause-older
returns-clause-older g c = λ faithful name t bytes narrow path there.
    let items = c.as_slice-name-items.result.now in
    let IsOne : List ℕ → Type 0 = IsBeginning c.args.newer.now (g.F.Folder.seen c.args.folder.now) in
    let begins : starts_with nat_eq name (string_bytes c.in_ok-full_path.field-0 ++ codes ".p/") ≡ true =
    rw (c.in_ok-full_path.ensures, ← path) (begins_partial c.args.newer.now t narrow) in
    let is : Contains (map (λ s. string_bytes s) items) name =
    rw c.as_slice-name-items.ensures.value (c.in_ok-names.ensures.all faithful name (rw there refl) begins) in
    let all : AllByRecursion IsOne (map (λ s. string_bytes s) items) =
    rw (take_all c.names.name-index items (omega (arith, c.names-test.false))) at (c.names.invariant.older faithful) in
    let here = rw is.2 at (all_at IsOne (map (λ s. string_bytes s) items) is.0 name all is.1) in
    here t bytes narrow path there

pub returns-in_err-compare_named-clause-read : goal.returns-in_err-compare_named-clause-read
returns-in_err-compare_named-clause-read g c = λ faithful.
    read_then _ _ _ _ _ _ _ (g.met.F.Folder.counts_now c.args.folder.now) (c.names.invariant.read faithful)
    (c.compare_named.ensures.read faithful)

pub returns-in_err-compare_named-clause-whole : goal.returns-in_err-compare_named-clause-whole
returns-in_err-compare_named-clause-whole g c = λ faithful log short part older.
    let all = rw (← c.as_slice-name-items.ensures.value) at (c.in_ok-names.ensures.there faithful) in
    let same = (c.names.invariant.read faithful).found in
    err_same _ _ _ c.from_residual-in_err-compare_named.ensures.1
    (c.in_err-compare_named.ensures.whole faithful log short part (rw same older)
    (rw (same, c.as_str.ensures.value, c.name-item.is) (all c.names.name-index c.name-item.result (omega arith))))
