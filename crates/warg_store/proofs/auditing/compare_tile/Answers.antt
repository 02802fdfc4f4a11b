use Rattle.std.proofs.Common.{◌≡◌, List, ℕ, true, false, Some, refl, sym, ap, ◌∙◌}
use Rattle.std.proofs.lemmas.Result.{on_ok_weaker}
use Rattle.warg_tiles.specs.TilePaths.{tile_path}
use Rattle.warg_folder.specs.Files.{Files}
use Rattle.std.specs.List.{flat_map}
use Rattle.warg_folder.proofs.ForCallers.{read_then}
use Rattle.warg_store.proofs.WholeLemmas.{err_same}
use Rattle.warg_store.proofs.AuditLemmas.{ok_holds}
use Rattle.warg_store.proofs.ReadLemmas.{digests_decide}
use Rattle.warg_store.proofs.auditing.compare_tile.Goals as goal

pub returns-then-eq-clause-file : goal.returns-then-eq-clause-file
returns-then-eq-clause-file g c = λ faithful. ok_holds c.compare_older.result _
    (c.in_ok-found.ensures.file faithful ∙ ap (λ (ds : List (List ℕ)). Some (flat_map (λ digest. digest) ds)) same)
  where
    same : c.in_ok-found.found.digests.items ≡ c.args.stored.now.digests.items
    same = sym c.as_slice.ensures.value ∙ (digests_decide _ _ _ c.eq.ensures).0 c.if-eq.true
        ∙ c.as_slice-2.ensures.value

pub returns-then-eq-clause-older : goal.returns-then-eq-clause-older
returns-then-eq-clause-older g c = λ faithful. on_ok_weaker c.compare_older.result
    (λ older t bytes narrow there. older (tile_path t) t bytes narrow refl
    (ap (λ (f : Files). f (tile_path t)) (c.read_tile.ensures.read faithful).found ∙ there))
    (c.compare_older.ensures.older faithful)

pub returns-then-eq-clause-read : goal.returns-then-eq-clause-read
returns-then-eq-clause-read g c = λ faithful.
    read_then _ _ _ _ _ _ _ (g.met.F.Folder.counts_now c.args.folder.now) (c.read_tile.ensures.read faithful)
    (c.compare_older.ensures.read faithful)

pub returns-in_err-found-clause-whole : goal.returns-in_err-found-clause-whole
returns-in_err-found-clause-whole g c = λ faithful log whole own.
    err_same _ _ _ c.from_residual.ensures.1
    (c.in_err-found.ensures.whole faithful log (whole.holds.tile c.args.stored.now.tile own.0))

pub returns-then-eq-clause-whole : goal.returns-then-eq-clause-whole
returns-then-eq-clause-whole g c = λ faithful log whole own.
    c.compare_older.ensures.whole faithful log whole.short own
    (rw (c.read_tile.ensures.read faithful).found whole.older)

pub returns-clause-whole : goal.returns-clause-whole
returns-clause-whole g c = λ faithful log whole own.
    let same = c.as_slice.ensures.value
    ∙ c.in_ok-found.ensures.own faithful log (whole.holds.tile c.args.stored.now.tile own.0) ∙ sym own.1
    ∙ sym c.as_slice-2.ensures.value in
    let is : c.eq.result ≡ true = (digests_decide _ _ _ c.eq.ensures).1 same in
    absurd (let no : true ≡ false = sym is ∙ c.if-eq.false in cc)
