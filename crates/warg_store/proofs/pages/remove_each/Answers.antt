use Rattle.std.proofs.Common.{◌≡◌, length, map, true, None, refl, arith, string_bytes}
use Rattle.std.proofs.lemmas.List.{take_all}
use Rattle.std.proofs.lemmas.List.Elements.{All-more, All-weaker}
use Rattle.std.specs.declared.string.String.{String}
use Rattle.warg_folder.specs.Files.{Files}
use Rattle.std.specs.declared.alloc.Global.{Global}
use Rattle.warg_folder.specs.Moments.{Follows}
use Rattle.warg_folder.specs.Names.{is_page}
use Rattle.warg_folder.proofs.ForCallers.{leaves_none, goes_on}
use Rattle.warg_store.specs.Pruned.{IsWithoutPages}
use Rattle.warg_store.proofs.GoneLemmas.{gone_more, left_behind, first_left}
use Rattle.warg_store.proofs.RemoveLemmas.{all_pages, one_gone, follows_one, still_gone, named_in}
use Rattle.warg_store.proofs.pages.remove_each.Goals.{After-remove_one}
use Rattle.warg_store.proofs.pages.remove_each.Goals as goal

-- a page is gone
abbrev IsGone : Files → String Global → Type 0
IsGone s x = is_page (string_bytes x) ≡ true → s (string_bytes x) ≡ None

-- the files that a crash leaves lack no more than pages of the names
crash_more : (g : _) (c : After-remove_one g) → g.F.Folder.IsFaithful
    → Follows (IsWithoutPages (map (λ name. string_bytes name) c.args.names.now))
    (g.F.Folder.may_leave c.args.folder.now) (g.F.Folder.may_leave c.remove_one.new.folder)
crash_more g c faithful = follows_one _ c.as_str.result.now _ _ _
    (named_in c.args.names.now c.names.name-index c.name-item.result c.as_str.result.now (omega arith) c.name-item.is
    c.as_str.ensures.value) (c.names.invariant.crash faithful) (c.remove_one.ensures.crash faithful)

pub names-init : goal.names-init
names-init g c = record {
  removed = λ faithful k x low. absurd (omega arith);
  only = λ faithful. all_pages _ (g.F.Folder.seen c.args.folder.now);
  crash = λ faithful e left. (e, left, all_pages _ e);
  faults = omega arith;
  time = λ faithful. leaves_none _ _ _ _
      (λ e left. (e, g.met.F.Folder.only_now c.args.folder.now e left, all_pages _ e));
  gone = λ faithful apart there. (refl, λ k d behind inside. (there k d inside).0);
}

pub names-preserved : goal.names-preserved
names-preserved g c =
    let name = c.as_str.result.now in
    let old = g.F.Folder.seen c.names.folder in
    let new = g.F.Folder.seen c.remove_one.new.folder in
    let more = (goal.at.names-preserved g c).After-remove_one in
    record {
      removed = λ faithful. All-more (IsGone new) c.args.names.now c.names.name-index c.name-item.result (omega arith)
          (All-weaker (IsGone old) (IsGone new) (λ x gone page. still_gone name _ old new
          (c.in_ok-remove_one.ensures.only faithful) (gone page)) _ (c.names.invariant.removed faithful))
          (rw (← c.name-item.is, ← c.as_str.ensures.value) (c.in_ok-remove_one.ensures.removed faithful));
      only = λ faithful. one_gone _ name _ old new
          (named_in c.args.names.now c.names.name-index c.name-item.result name (omega arith) c.name-item.is
          c.as_str.ensures.value) (c.names.invariant.only faithful) (c.in_ok-remove_one.ensures.only faithful);
      crash = crash_more g more;
      faults = omega (arith, c.names.invariant.faults, c.remove_one.ensures.cause.later);
      time = λ faithful. goes_on _ _ _ _ _ _ _ (c.names.invariant.time faithful)
          (c.remove_one.ensures.time faithful) (crash_more g more faithful);
      gone = λ faithful apart there.
          let was = c.names.invariant.gone faithful apart there in
          let i = c.names.name-index in
          let it = c.name-item.result in
          let is = c.in_ok-remove_one.ensures.gone faithful
          (rw (c.as_str.ensures.value, c.name-item.is) (there i it (omega arith)).1) in (
            gone_more i _ old new name was.0 (first_left c.args.names.now i it name old (omega arith) c.name-item.is
                c.as_str.ensures.value was.1) is,
            left_behind c.args.names.now i it name old new (omega arith) c.name-item.is c.as_str.ensures.value apart
                was.1 is,
          );
    }

pub returns-in_err-remove_one-clause-crash : goal.returns-in_err-remove_one-clause-crash
returns-in_err-remove_one-clause-crash g c =
    crash_more g (goal.at.returns-in_err-remove_one-clause-crash g c).After-remove_one

pub returns-in_err-remove_one-clause-any_moment : goal.returns-in_err-remove_one-clause-any_moment
returns-in_err-remove_one-clause-any_moment g c = λ faithful. goes_on _ _ _ _ _ _ _ (c.names.invariant.time faithful)
    (c.remove_one.ensures.time faithful)
    (crash_more g (goal.at.returns-in_err-remove_one-clause-any_moment g c).After-remove_one faithful)

pub returns-clause-gone : goal.returns-clause-gone
returns-clause-gone g c = λ faithful apart there.
    let all : length c.args.names.now ≡ c.names.name-index =
    omega (arith, c.names-test.false, c.names.auto.name-index-end) in
    rw all (c.names.invariant.gone faithful apart there).0

pub returns-clause-removed : goal.returns-clause-removed
returns-clause-removed g c = λ faithful.
    rw (take_all c.names.name-index c.args.names.now (omega arith)) at (c.names.invariant.removed faithful)
