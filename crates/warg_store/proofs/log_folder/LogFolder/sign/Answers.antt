use Rattle.std.proofs.Common.{◌≡◌}
use Rattle.warg_folder.specs.Moments.{LeavesOnly}
use Rattle.warg_store.specs.Log.{LogOf, IsOneOf, IsNoteOf, said_of, checkpoint_of}
use Rattle.warg_store.specs.Growing.{Has}
use Rattle.warg_folder.proofs.ForCallers.{begins}
use Rattle.warg_store.proofs.GrowingLemmas.{beside_one_of}
use Rattle.warg_store.proofs.SignLemmas.{unsigned, sign_staging, sign_moment, sign_has}
use Rattle.warg_store.proofs.log_folder.LogFolder.sign.Goals.{After-replace}
use Rattle.warg_store.proofs.log_folder.LogFolder.sign.Goals as goal

-- the note is over the checkpoint that is kept
note_over : (g : _) (c : After-replace g) (old : LogOf) → c.args.self.now.text ≡ said_of old
    → IsNoteOf (checkpoint_of old) c.args.note.now
note_over g c old says = rw (c.as_slice.ensures.value, c.in_ok-text.ensures, says) at
    (c.is_signed_note.ensures.0 c.if-not-is_signed_note.false)

-- putting it leaves what is served or what is kept
replaced : (g : _) (c : After-replace g) → g.F.Folder.IsFaithful → (served old next : LogOf)
    → Has g.F.Folder.seen g.F.Folder.may_leave served old next c.args.self.now
    → LeavesOnly g.F.Folder.moment g.F.Folder.left_since c.args.self.now.folder c.replace.new.self
    (IsOneOf served old old)
replaced g c faithful served old next has =
    let inside = rw (← c.self.view_is) at has in
    rw (← c.self.view_is)
    (begins _ _ _ _ _ _ (g.met.F.Folder.only_now c.self.inside.folder) (c.replace.ensures.time faithful)
    (λ e left. beside_one_of served old old _ e inside.keeps (inside.staging e left))
    (sign_moment c.args.note.now _ served old _ _
    (note_over g c old has.text) inside.keeps (c.replace.ensures.crash faithful) inside.staging))

pub returns-then-note-gt-MOST_TEXT-clause-any_moment : goal.returns-then-note-gt-MOST_TEXT-clause-any_moment
returns-then-note-gt-MOST_TEXT-clause-any_moment g c = λ faithful served old next has.
    unsigned _ _ _ _ served old next _ (g.met.F.Folder.only_now c.args.self.now.folder) has

pub returns-in_err-text-clause-any_moment : goal.returns-in_err-text-clause-any_moment
returns-in_err-text-clause-any_moment g c = λ faithful served old next has.
    unsigned _ _ _ _ served old next _ (g.met.F.Folder.only_now c.args.self.now.folder) has

pub returns-then-not-is_signed_note-clause-any_moment : goal.returns-then-not-is_signed_note-clause-any_moment
returns-then-not-is_signed_note-clause-any_moment g c = λ faithful served old next has.
    unsigned _ _ _ _ served old next _ (g.met.F.Folder.only_now c.args.self.now.folder) has

pub returns-in_err-replace-clause-any_moment : goal.returns-in_err-replace-clause-any_moment
returns-in_err-replace-clause-any_moment g c =
    replaced g (goal.at.returns-in_err-replace-clause-any_moment g c).After-replace

pub returns-clause-any_moment : goal.returns-clause-any_moment
returns-clause-any_moment g c = replaced g (goal.at.returns-clause-any_moment g c).After-replace

pub returns-clause-signed : goal.returns-clause-signed
returns-clause-signed g c = λ faithful served old next has.
    sign_has _ _ served old next _ _ c.args.note.now
    (note_over g (goal.at.returns-clause-signed g c).After-replace old has.text)
    (c.in_ok-replace.ensures.replaced faithful) (c.in_ok-replace.ensures.durable faithful)
    (rw (← c.self.view_is) at has)

pub returns-clause-ready : goal.returns-clause-ready
returns-clause-ready g c = λ faithful was opened.
    let before = rw (← c.self.view_is) at was in
    rw (c.in_ok-replace.ensures.replaced faithful)
    (sign_staging c.args.note.now _ _ _ (c.in_ok-replace.ensures.durable faithful) (before opened))
