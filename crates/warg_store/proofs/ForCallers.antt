-- Lemmas for the proofs of the crates above, over public definitions alone.
use Rattle.std.proofs.Common.{◌≡◌, ◌⊎◌, ⊎_elim, ℕ, ◌+◌, ◌<◌, List, length, arith}
use Rattle.std.specs.List.{Contains}
use Rattle.warg_folder.specs.Files.{File, Files}
use Rattle.warg_folder.specs.Moments.{IsRead}
use Rattle.warg_store.specs.Log.{LogOf, Keeps, ArePagesStaged, IsCommitting}
use Rattle.warg_folder.specs.Commits.{IsBeside}
use Rattle.warg_store.specs.Growing.{LogIn, Has}
use Rattle.warg_store.specs.Pruned.{AreGone}
use Rattle.warg_store.proofs.FetchedLemmas as fetched
use Rattle.warg_store.proofs.GoneLemmas as gone
use Rattle.warg_store.proofs.GrowingLemmas as growing

-- files that are removed, and then others
pub gone_then : (m n : ℕ) (old mid new : Files) → AreGone m old mid → AreGone n mid new → AreGone (m + n) old new
gone_then = gone.gone_then

module _ {F : Type 0} (seen : F → Files) (may_leave : F → Files → Type 0) (moment : F → ℕ)
    (left_since : F → ℕ → Files → Type 0) where
  -- a log whose folder was only read has the same
  pub has_read : (served old next : LogOf) (l m : LogIn F) → m ≡ record l { folder = m.folder }
      → IsRead seen may_leave moment left_since l.folder m.folder → Has seen may_leave served old next l
      → Has seen may_leave served old next m
  has_read served old next l m same read has = rw same
      (fetched.has_read seen may_leave served old next l m.folder read.found read.crash has)

-- fewer pages to be kept, where each of the others is kept already
fewer_staged : (served old next fewer : List File) (files : Files)
    → ((f : File) → Contains fewer f → Contains next f)
    → ((f : File) → Contains next f → Contains old f ⊎ Contains fewer f)
    → ArePagesStaged served old next files → ArePagesStaged served old fewer files
fewer_staged served old next fewer files within rest are = record {
  page = λ f is. are.page f (within f is);
  nothing_else = λ path some. let new = are.nothing_else path some in (
    new.0,
    ⊎_elim (λ was. absurd (new.2 (new.0.1, was))) (λ is. is) (rest new.0 new.1),
    new.2,
    new.3,
  );
}

-- A log that grows can have other lines, and of its pages no more than it keeps and these.
pub has_with : {F : Type 0} (seen : F → Files) (may_leave : F → Files → Type 0) (served old next : LogOf) (l : LogIn F)
    (these : List (List ℕ)) (fewer : List File) → length old.entries < length next.entries
    → ((f : File) → Contains fewer f → Contains next.pages f)
    → ((f : File) → Contains next.pages f → Contains old.pages f ⊎ Contains fewer f)
    → Has seen may_leave served old next l
    → Has seen may_leave served old (record next { lines = these; pages = fewer }) l
has_with seen may_leave served old next l these fewer more within rest has = record {
  is_open = has.is_open;
  keeps = has.keeps;
  extends = record {
    origin = has.extends.origin;
    entries = has.extends.entries;
    still = λ even. absurd (omega (arith, even, more));
  };
  short = has.short;
  text = has.text;
  edge = has.edge;
  since = has.since;
  order = has.order;
  held = has.held;
  most = has.most;
  bundle = has.bundle;
  staged = record { tile = has.staged.tile; bundle = has.staged.bundle; nothing_else = has.staged.nothing_else };
  pages = fewer_staged served.pages old.pages next.pages fewer (seen l.folder) within rest has.pages;
  staging = has.staging;
}

-- What stands at each moment while files are staged, and then committed.
pub beside_committing : (served old next : LogOf) (s c : Files) → Keeps served old s → IsBeside s c
    → IsCommitting served old next s c
beside_committing = growing.beside_committing

pub committing_then : (served old next : LogOf) (s mid c : Files) → IsBeside s mid → IsCommitting served old next mid c
    → IsCommitting served old next s c
committing_then = growing.committing_then
