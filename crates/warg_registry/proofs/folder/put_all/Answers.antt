use Rattle.std.proofs.Common.{◌≡◌, take, refl, ◌∙◌, arith}
use Rattle.std.proofs.lemmas.List.{take_all}
use Rattle.warg_registry.specs.Folder.{with_pages, files_of}
use Rattle.warg_registry.proofs.RegistryGrowth.{put_more, put_fresh}
use Rattle.warg_registry.proofs.FolderMoments.{stages_none, beside_then}
use Rattle.warg_registry.proofs.folder.put_all.Goals as goal

pub pages-init : goal.pages-init
pages-init g c =
    record {
      put = λ faithful served old next has fresh. has;
      ready = λ faithful. c.requires faithful;
      moments = λ faithful served old next has.
          stages_none g.F.Folder (g.met.F.Folder.only_now c.args.log.now.folder) has.staging;
      faults = omega arith;
      stays = refl;
    }

pub put_one-requires : goal.put_one-requires
put_one-requires g c = c.pages.invariant.ready

pub returns-in_err-put_one-clause-any_moment : goal.returns-in_err-put_one-clause-any_moment
returns-in_err-put_one-clause-any_moment g c = λ faithful served old next has.
    beside_then g.F.Folder g.met.F.Folder.counts_now g.met.F.Folder.seen_may_stay
    (c.pages.invariant.moments faithful served old next has)
    (c.put_one.ensures.any_moment faithful (c.pages.invariant.stays ∙ has.is_open))

pub pages-preserved : goal.pages-preserved
pages-preserved g c =
    let dev = g.F.Folder in record {
      put = λ faithful served old next has fresh.
          let i = c.pages.page-index in
          let changed = c.args.changed.now in
          let next_put = with_pages next (files_of (take i changed)) in
          let more = put_more next changed i c.page-item.result (omega arith) c.page-item.is in
          let free = put_fresh served old next changed i c.page-item.result (omega arith) c.page-item.is fresh in
          rw more
          (c.in_ok-put_one.ensures.put faithful served old next_put
          (c.pages.invariant.put faithful served old next has fresh) free);
      ready = λ faithful. c.put_one.ensures.ready faithful;
      moments = λ faithful served old next has.
          beside_then dev g.met.F.Folder.counts_now g.met.F.Folder.seen_may_stay
          (c.pages.invariant.moments faithful served old next has)
          (c.put_one.ensures.any_moment faithful (c.pages.invariant.stays ∙ has.is_open));
      faults = omega (arith, c.pages.invariant.faults, c.put_one.ensures.cause.later);
      stays = c.put_one.ensures.open ∙ c.pages.invariant.stays;
    }

pub returns-clause-put : goal.returns-clause-put
returns-clause-put g c = λ faithful served old next has fresh.
    let dev = g.F.Folder in
    let all : take c.pages.page-index c.args.changed.now ≡ c.args.changed.now =
    take_all c.pages.page-index c.args.changed.now (omega arith) in
    rw all at (c.pages.invariant.put faithful served old next has fresh)

pub returns-clause-ready : goal.returns-clause-ready
returns-clause-ready g c = c.pages.invariant.ready

pub returns-clause-any_moment : goal.returns-clause-any_moment
returns-clause-any_moment g c = c.pages.invariant.moments
