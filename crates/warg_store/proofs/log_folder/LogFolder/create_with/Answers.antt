use Rattle.std.proofs.Common.{◌≡◌, ℕ, length, map, IfErr, Vec, Global, ap, subst, refl, ◌∙◌, arith}
use Rattle.warg_tiles.specs.CheckpointText.{text_of}
use Rattle.warg_folder.specs.Names.{checkpoint}
use Rattle.warg_store.specs.Opening.{HasLogFile}
use Rattle.warg_store.specs.Log.{Keeps, CanBeKept, said_of, checkpoint_of, no_entries_with}
use Rattle.warg_store.specs.declared.opening.CreateError.{CreateError}
use Rattle.warg_store.specs.declared.opening.CreateError.TheVariants.{Exists}
use Rattle.warg_store.proofs.CreateLemmas.{created, has_none}
use Rattle.warg_store.proofs.WholeLemmas.{err_same}
use Rattle.warg_store.proofs.log_folder.LogFolder.create_with.Goals as goal

pub returns-clause-has : goal.returns-clause-has
returns-clause-has g c = λ faithful.
    let seen = g.F.Folder.seen in
    let lines = map (λ (l : Vec ℕ Global). l.items) c.args.lines.now in
    let none = no_entries_with c.args.origin.now lines in
    let said : c.in_ok-text.text ≡ said_of none = c.in_ok-text.ensures.said in
    let text : c.as_slice.result.now ≡ checkpoint_of none = c.as_slice.ensures.value ∙ c.in_ok-bytes.ensures
    ∙ ap text_of said in
    let named : CanBeKept none = record {
      origin = c.in_ok-text.ensures.line;
      lines = c.requires;
      most = omega arith;
      short = tt;
      text = omega (arith, ap length (c.in_ok-bytes.ensures ∙ ap text_of said));
    } in
    let keeps : Keeps none none (seen c.put_first.new.folder) =
    rw (c.in_ok-put_first.ensures.committed faithful, text)
    (created c.args.origin.now lines named (seen c.args.folder)
    (c.in_ok-put_first.ensures.fresh faithful checkpoint refl)) in
    rw (c.with.ensures, said, c.new-2.ensures.items)
    (has_none _ _ c.args.origin.now lines _ _ c.new.ensures.value c.new.ensures.stands keeps
    (c.in_ok-put_first.ensures.empty faithful) (c.in_ok-put_first.ensures.ready faithful))

pub returns-clause-ready : goal.returns-clause-ready
returns-clause-ready g c = λ faithful. rw c.with.ensures (λ is. c.in_ok-put_first.ensures.ready faithful)

pub returns-clause-empty : goal.returns-clause-empty
returns-clause-empty g c =
    (rw (c.with.ensures, c.new.ensures.value), rw (c.with.ensures, c.in_ok-text.ensures.said))

pub returns-in_err-text-clause-exists : goal.returns-in_err-text-clause-exists
returns-in_err-text-clause-exists g c = λ faithful exists.
    let P : CreateError → Type 0 = λ e. e ≡ Exists → HasLogFile (g.F.Folder.seen c.args.folder) in
    subst (λ r. IfErr r P) exists
    (err_same P _ _ c.from_residual.ensures.1 (λ e. absurd (c.in_err-text.ensures.not_there e))) refl
