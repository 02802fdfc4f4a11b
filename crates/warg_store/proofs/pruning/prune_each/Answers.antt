use Rattle.std.proofs.Common.{◌≡◌, ◌+◌, ℕ, List, Bool, true, false, None, get_or, ⊎_elim, string_bytes, refl, ap, ◌∙◌, arith}
use Rattle.std.specs.Bool.{if◌then◌else◌}
use Rattle.std.specs.declared.string.String.{String}
use Rattle.std.specs.declared.alloc.Global.{Global}
use Rattle.std.proofs.lemmas.List.{take_all}
use Rattle.std.proofs.lemmas.List.Elements.{All-more, All-weaker}
use Rattle.warg_folder.specs.Files.{Files, without}
use Rattle.warg_store.specs.Pruned.{IsSpare}
use Rattle.warg_store.proofs.PruneLemmas.{spare_still, staged_stays, gone_if_spare, prunes_none, prunes_then}
use Rattle.warg_store.proofs.GoneLemmas.{gone_more, left_behind, left_after, first_left}
use Rattle.warg_store.proofs.pruning.prune_each.Goals.{then-branch, else-branch}
use Rattle.warg_folder.proofs.ForCallers.{without_either}
use Rattle.warg_store.proofs.pruning.prune_each.Goals as goal

-- where a file was spare, it is gone
abbrev IsGone : ℕ → ℕ → Files → Files → String Global → Type 0
IsGone kept served s now x = IsSpare kept served s (string_bytes x) → now (string_bytes x) ≡ None

-- what is gone stays so
still_none : (name n : List ℕ) (is : Bool) (old new : Files) → new ≡ (if is then without name old else old)
    → old n ≡ None → new n ≡ None
still_none name n true old new e none = ⊎_elim (λ same. ap (λ (f : Files). f n) e ∙ same ∙ none)
    (λ gone. ap (λ (f : Files). f n) e ∙ gone) (without_either name old n)
still_none name n false old new e none = ap (λ (f : Files). f n) e ∙ none

pub names-init : goal.names-init
names-init g c = record {
  faults = omega arith;
  run = λ faithful. prunes_none _ _ _ g.met.F.Folder.only_now _ _ _;
  staged = λ faithful n is. refl;
  gone = λ faithful apart there. (refl, λ k d behind inside. there k d inside);
  few = omega arith;
  all = λ faithful s before k d inside. absurd (omega arith);
}

pub names-preserved : goal.names-preserved
names-preserved g c = record {
  faults = omega (arith, c.names.invariant.faults, c.prune_one.ensures.cause.later);
  run = λ faithful. prunes_then _ _ _ g.met.F.Folder.only_now _ _ _ _ _
      (c.names.invariant.run faithful) (c.prune_one.ensures.run faithful);
  staged = λ faithful n is. staged_stays c.args.kept c.args.served _ _ c.as_str.result.now _ n
      (c.in_ok-prune_one.ensures.gone faithful) (c.in_ok-prune_one.ensures.spare faithful).0 is
      ∙ c.names.invariant.staged faithful n is;
  gone = λ faithful apart there.
      let old = g.F.Folder.seen c.names.folder in
      let new = g.F.Folder.seen c.prune_one.new.folder in
      let name = c.as_str.result.now in
      let i = c.names.name-index in
      let was = c.names.invariant.gone faithful apart there in
      let is = c.in_ok-prune_one.ensures.gone faithful in
      elim c.if-branch.branch [
        | then-branch w ↦
            let gone : new ≡ without name old = rw w.if-branch.true at is in
            let one : c.if-branch.removed ≡ c.names.removed + 1 =
            omega (arith, w.removed-is, w.saturating_add-removed.ensures, c.names.invariant.few, c.names-test.true) in (
              rw one (gone_more _ _ old new name was.0 (first_left c.args.names.now i c.name-item.result name old
                  (omega arith) c.name-item.is c.as_str.ensures.value was.1) gone),
              left_behind c.args.names.now i c.name-item.result name old new (omega arith) c.name-item.is
                  c.as_str.ensures.value apart was.1 gone,
            )
        | else-branch w ↦
            let same : new ≡ old = rw w.if-branch.false at is in
            (rw (w.removed-is, same) was.0, rw same (left_after c.args.names.now i old was.1))
      ];
  few = elim c.if-branch.branch [
    | then-branch w ↦ omega (arith, w.removed-is, w.saturating_add-removed.ensures, c.names.invariant.few)
    | else-branch w ↦ omega (arith, w.removed-is, c.names.invariant.few)
  ];
  all = λ faithful s before.
      let old = g.F.Folder.seen c.names.folder in
      let new = g.F.Folder.seen c.prune_one.new.folder in
      let here = (c.names.invariant.run faithful).crash s before old (g.met.F.Folder.seen_may_stay c.names.folder) in
      let text : c.as_str.result.now ≡ string_bytes (get_or c.args.names.now c.names.name-index c.name-item.result) =
      c.as_str.ensures.value ∙ ap (λ (x : String Global). string_bytes x) c.name-item.is in
      All-more (IsGone c.args.kept c.args.served s new) c.args.names.now c.names.name-index c.name-item.result
      (omega arith)
      (All-weaker (IsGone c.args.kept c.args.served s old) (IsGone c.args.kept c.args.served s new)
      (λ x gone spare. still_none c.as_str.result.now _ _ old new
      (c.in_ok-prune_one.ensures.gone faithful) (gone spare)) _ (c.names.invariant.all faithful s before))
      (λ spare. rw (← text) (gone_if_spare c.args.kept c.args.served old new c.as_str.result.now _
      (c.in_ok-prune_one.ensures.gone faithful) (c.in_ok-prune_one.ensures.spare faithful).1
      (spare_still c.args.kept c.args.served s old c.as_str.result.now here (rw text spare))));
}

pub returns-in_err-prune_one-clause-run : goal.returns-in_err-prune_one-clause-run
returns-in_err-prune_one-clause-run g c = λ faithful.
    prunes_then _ _ _ g.met.F.Folder.only_now _ _ _ _ _
    (c.names.invariant.run faithful) (c.prune_one.ensures.run faithful)

pub returns-clause-all : goal.returns-clause-all
returns-clause-all g c = λ faithful s before.
    rw (take_all c.names.name-index c.args.names.now (omega (arith, c.names-test.false))) at
    (c.names.invariant.all faithful s before)
