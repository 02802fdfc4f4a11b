-- What stands at each moment while a registry grows: files are read, staged and committed, one run after the other.
use Rattle.std.proofs.Common.{◌≡◌, ℕ, ◌≤◌, ap, ◌∙◌}
use Rattle.warg_folder.specs.Files.{Files}
use Rattle.warg_folder.specs.Moments.{IsRead, LeavesOnly}
use Rattle.warg_folder.specs.Commits.{IsBeside, IsStaging}
use Rattle.warg_folder.specs.declared.device.Folder.{Ghosts}
use Rattle.warg_folder.proofs.ForCallers.{read_is, read_then, read_leaves, leaves_then, leaves_weaker}
use Rattle.warg_store.specs.Growing.{LogIn}
use Rattle.warg_store.specs.Log.{LogOf, Keeps, IsOneOf, IsCommitting}
use Rattle.warg_store.proofs.ForCallers.{beside_committing, committing_then}
use Rattle.warg_registry.specs.Folder.{IsLogRead}

module _ {F : Type 0} (dev : Ghosts F) where
  abbrev pub Leaves : F → F → (Files → Type 0) → Type 0
  Leaves old new P = LeavesOnly dev.moment dev.left_since old new P

  -- what a run that stages leaves, and one that commits
  abbrev pub Stages : F → F → Type 0
  Stages old new = Leaves old new (IsBeside (dev.seen old))

  abbrev pub Commits : LogOf → LogOf → LogOf → F → F → Type 0
  Commits served old next first last = Leaves first last (IsCommitting served old next (dev.seen first))

  abbrev pub Reads : F → F → Type 0
  Reads old new = IsRead dev.seen dev.may_leave dev.moment dev.left_since old new

  abbrev pub Logs : LogIn F → LogIn F → Type 0
  Logs old new = IsLogRead dev.seen dev.may_leave dev.moment dev.left_since old new

  -- what may be left now is left since any earlier moment
  abbrev CountsNow : Type 0
  CountsNow = (folder : F) (t : ℕ) (c : Files) → t ≤ dev.moment folder → dev.may_leave folder c
      → dev.left_since folder t c

  -- a run that only reads, and another behind it
  pub reads_none : (first : F) → Reads first first
  reads_none first = read_is dev.seen dev.may_leave dev.moment dev.left_since first

  pub reads_then : CountsNow → {first mid last : F} → Reads first mid → Reads mid last → Reads first last
  reads_then counts {first} {mid} {last} one two =
      read_then dev.seen dev.may_leave dev.moment dev.left_since first mid last (counts first) one two

  -- a log that is only read goes on so
  pub log_read_then : CountsNow → {known mid new : LogIn F} → Logs known mid → new ≡ record mid { folder = new.folder }
      → Reads mid.folder new.folder → Logs known new
  log_read_then counts {new = new} read same then = record {
    same = same ∙ ap (λ (l : LogIn F). record l { folder = new.folder }) read.same;
    read = reads_then counts read.read then;
  }

  -- a run that stages, and nothing behind it
  pub staged_only : {served old next : LogOf} {first last : F} → Keeps served old (dev.seen first)
      → Stages first last → Commits served old next first last
  staged_only {served = S} {old = K} {next = N} {first = first} {last = last} keeps run =
      leaves_weaker dev.moment dev.left_since first last (IsBeside (dev.seen first))
      (IsCommitting S K N (dev.seen first)) run (λ c was. beside_committing S K N (dev.seen first) c keeps was)

  -- nothing is done before a run that stages
  pub stages_none : {first : F} → ((c : Files) → dev.left_since first (dev.moment first) c → dev.may_leave first c)
      → IsStaging (dev.seen first) (dev.may_leave first) → Stages first first
  stages_none {first} now staging = read_leaves dev.seen dev.may_leave dev.moment dev.left_since first first
      (IsBeside (dev.seen first)) now staging (reads_none first)

  -- a run that only reads
  module _ {served old next : LogOf} {first : F}
      (now : (c : Files) → dev.left_since first (dev.moment first) c → dev.may_leave first c)
      (keeps : Keeps served old (dev.seen first)) (staging : IsStaging (dev.seen first) (dev.may_leave first)) where
    pub read_only : {last : F} → Reads first last → Commits served old next first last
    read_only {last = last} read = read_leaves dev.seen dev.may_leave dev.moment dev.left_since first last
        (IsCommitting served old next (dev.seen first)) now
        (λ c left. beside_committing served old next (dev.seen first) c keeps (staging c left)) read

    pub nothing_done : Commits served old next first first
    nothing_done = read_only (reads_none first)

    -- what it leaves is one of both
    pub one_read : {last : F} → Reads first last → Leaves first last (IsOneOf served old next)
    one_read {last = last} read = leaves_weaker dev.moment dev.left_since first last
        (IsCommitting served old next (dev.seen first)) (IsOneOf served old next) (read_only read) (λ c was. was.one)

    -- and a commit behind it
    pub read_then_commit : {mid last : F} → Reads first mid → Commits served old next mid last
        → Commits served old next first last
    read_then_commit {mid = mid} {last = last} read commit =
        leaves_then dev.moment dev.left_since first mid last (IsCommitting served old next (dev.seen first))
        (IsCommitting served old next (dev.seen mid)) (IsCommitting served old next (dev.seen first))
        (read_only read) commit (λ c was. was)
        (λ c was. rw read.found at was)

  module _ (counts : CountsNow) (stays : (folder : F) → dev.may_leave folder (dev.seen folder)) {first mid : F}
      (run : Stages first mid) where
    -- what a run that stages leaves for a reader
    beside_now : IsBeside (dev.seen first) (dev.seen mid)
    beside_now = run.each (dev.seen mid) (counts mid (dev.moment first) (dev.seen mid) run.later (stays mid))

    -- a run that stages behind another
    pub beside_then : {last : F} → Stages mid last → Stages first last
    beside_then {last = last} more = leaves_then dev.moment dev.left_since first mid last (IsBeside (dev.seen first))
        (IsBeside (dev.seen mid)) (IsBeside (dev.seen first)) run more (λ c was. was) (λ c was. record {
          outside = λ n isnt. was.outside n isnt ∙ beside_now.outside n isnt;
          no_mark = was.no_mark;
        })

    -- a commit behind it
    pub commit_then : {served old next : LogOf} {last : F} → Keeps served old (dev.seen first)
        → Commits served old next mid last → Commits served old next first last
    commit_then {served = S} {old = K} {next = N} {last = last} keeps commit =
        leaves_then dev.moment dev.left_since first mid last (IsBeside (dev.seen first))
        (IsCommitting S K N (dev.seen mid)) (IsCommitting S K N (dev.seen first)) run commit
        (λ c was. beside_committing S K N (dev.seen first) c keeps was)
        (λ c was. committing_then S K N (dev.seen first) (dev.seen mid) c beside_now was)
