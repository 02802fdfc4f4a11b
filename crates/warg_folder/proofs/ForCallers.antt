-- Lemmas for the proofs of this crate and of those above, over public definitions alone.
use Rattle.std.proofs.Common.{◌≡◌, inl, inr, ℕ, ◌+◌, ◌≤◌, List, length, take, true, false, Option, Some, None, refl, sym, ap, ◌∙◌, arith, ◌≢◌, ◌⊎◌, ◌++◌, drop, nat_eq, codes, ⊎_elim}
use Rattle.std.proofs.lemmas.Bool.Decides.{not_from_Decides, Decides-eqb}
use Rattle.std.proofs.lemmas.Bool.{cases_Bool, false_from_ne_true}
use Rattle.std.proofs.lemmas.List.{append_cancel_left}
use Rattle.std.proofs.lemmas.Slice.Eq.{starts_is}
use Rattle.std.specs.Cmp.Lexicographic.{pointwise, bytes_decides}
use Rattle.std.specs.List.{starts_with}
use Rattle.std.specs.Option.{option_or}
use Rattle.std.specs.Prelude.{option_map}
use Rattle.warg_folder.specs.Files.{File, Files, put, without, moved, Either}
use Rattle.warg_folder.specs.Moments.{Within, Elapses, IsRead, LeavesOnly}
use Rattle.warg_folder.specs.Names.{checkpoint, state, mark, staged, is_staged, is_own, is_served, is_tile, page_name}
use Rattle.warg_folder.specs.Commits.{is_signed, without_staged, checkpoint_after, told, published, opened}

-- Names.

-- two names are one, or not
pub one_name : (a b : List ℕ) → ((pointwise nat_eq a b ≡ true) × (a ≡ b)) ⊎ ((pointwise nat_eq a b ≡ false) × (a ≢ b))
one_name a b = elim (cases_Bool (pointwise nat_eq a b)) [
  | inl t ↦ inl (t, (bytes_decides a b).0 t)
  | inr f ↦ inr (f, not_from_Decides _ (bytes_decides a b) f)
]

pub apart : true ≡ false → ⊥
apart e = cc

-- a name that begins with a text has it at its front
pub front_of : (n p : List ℕ) → starts_with nat_eq n p ≡ true → n ≡ p ++ drop (length p) n
front_of n p is = (starts_is Decides-eqb n p (starts_with nat_eq n p) refl).0 is

pub staged_once : (m n : List ℕ) → staged m ≡ staged n → m ≡ n
staged_once m n e = append_cancel_left (codes ".log/staged/") m n e

-- a staged name is the log's own
pub own_if_staged : (n : List ℕ) → is_staged n ≡ true → is_own n ≡ true
own_if_staged n is = ap is_own (front_of n (codes ".log/staged/") is)

pub not_staged : (n : List ℕ) → is_own n ≡ false → is_staged n ≡ false
not_staged n out = false_from_ne_true _ (λ is. apart (sym (own_if_staged n is) ∙ out))

-- a served name is none of the log's own
pub served_not_own : (n : List ℕ) → is_served n ≡ true → is_own n ≡ false
served_not_own n is = elim (cases_Bool (starts_with nat_eq n (codes "tile/"))) [
  | inl tile ↦ ap is_own (front_of n (codes "tile/") tile)
  | inr other ↦ ap is_own (front_of n (codes "map/") (rw other at is))
]

pub served_not_staged : (n : List ℕ) → is_served n ≡ true → is_staged n ≡ false
served_not_staged n is = not_staged n (served_not_own n is)

pub served_not_checkpoint : (n : List ℕ) → is_served n ≡ true → checkpoint ≢ n
served_not_checkpoint n is e = apart (sym is ∙ ap is_served (sym e))

pub served_not_state : (n : List ℕ) → is_served n ≡ true → state ≢ n
served_not_state n is e = apart (sym is ∙ ap is_served (sym e))

-- the text of a commit isn't one of its files
pub mark_not_staged_file : (n : List ℕ) → is_served n ≡ true → staged n ≢ mark
mark_not_staged_file n is e = apart
    (sym is ∙ ap is_served (append_cancel_left (codes ".log/staged/") n (codes "state") e))

-- a name that is served isn't a staged one
pub served_apart_staged : (m n : List ℕ) → is_served m ≡ true → m ≢ staged n
served_apart_staged m n is e = apart (sym is ∙ ap is_served e)

-- what a test of two names tells
pub same_name : (s a n : List ℕ) → a ≡ s → true ≡ pointwise nat_eq a n → s ≡ n
same_name s a n value test = sym value ∙ (bytes_decides a n).0 (sym test)

pub other_name : (s a n : List ℕ) → a ≡ s → false ≡ pointwise nat_eq a n → s ≡ n → ⊥
other_name s a n value test here = not_from_Decides _ (bytes_decides a n) (sym test) (value ∙ here)

-- a served name is that of a tile or bundle, or of a page
pub served_kind : (n : List ℕ) → is_served n ≡ true → (is_tile n ≡ true) ⊎ ((path : List ℕ) × (n ≡ page_name path))
served_kind n is = elim (cases_Bool (is_tile n)) [
  | inl tile ↦ inl tile
  | inr other ↦ inr (drop (length (codes "map/")) n, front_of n (codes "map/") (rw other at is))
]

-- pages of one name have one path
pub page_once : (m n : List ℕ) → page_name m ≡ page_name n → m ≡ n
page_once m n e = append_cancel_left (codes "map/") m n e

-- Files.

-- a file stands at its name, and at no other
pub put_here : (f : File) (s : Files) → put f s f.0 ≡ Some f.1
put_here f s = elim (one_name f.0 f.0) [ inl t ↦ rw t.0 refl | inr f' ↦ absurd (f'.1 refl) ]

pub put_apart : (f : File) (s : Files) (n : List ℕ) → f.0 ≢ n → put f s n ≡ s n
put_apart f s n differ = elim (one_name f.0 n) [ inl t ↦ absurd (differ t.1) | inr apart ↦ rw apart.0 refl ]

pub without_here : (name : List ℕ) (s : Files) → without name s name ≡ None
without_here name s = elim (one_name name name) [ inl t ↦ rw t.0 refl | inr f ↦ absurd (f.1 refl) ]

pub without_apart : (name : List ℕ) (s : Files) (n : List ℕ) → name ≢ n → without name s n ≡ s n
without_apart name s n differ = elim (one_name name n) [ inl t ↦ absurd (differ t.1) | inr apart ↦ rw apart.0 refl ]

-- a removed file isn't there, and the others are as they were
pub without_either : (name : List ℕ) (s : Files) (n : List ℕ) → (without name s n ≡ s n) ⊎ (without name s n ≡ None)
without_either name s n = elim (one_name name n) [ inl t ↦ inr (rw t.0 refl) | inr apart ↦ inl (rw apart.0 refl) ]

-- what stands where a file was moved to
pub moved_to : (from to : List ℕ) (s : Files) → moved from to s to ≡ option_or (s from) (s to)
moved_to from to s = elim (one_name to to) [ inl t ↦ rw t.0 refl | inr f ↦ absurd (f.1 refl) ]

-- where it was
pub moved_from : (from to : List ℕ) (s : Files) → to ≢ from → moved from to s from ≡ None
moved_from from to s differ =
    elim (one_name to from) [ inl t ↦ absurd (differ t.1) | inr apart ↦ rw apart.0 (without_here from s) ]

-- and elsewhere
pub moved_apart : (from to : List ℕ) (s : Files) (n : List ℕ) → to ≢ n → from ≢ n → moved from to s n ≡ s n
moved_apart from to s n other another =
    elim (one_name to n) [ inl t ↦ absurd (other t.1) | inr apart ↦ rw apart.0 (without_apart from s n another) ]

-- Commits.

-- a step that was done or wasn't
pub either : (P : Files → Type 0) (change : Files → Files) (d c : Files) → Either change d c → P d → P (change d) → P c
either P change d c (inl same) was is = rw same was
either P change d c (inr changed) was is = rw changed is

pub without_at : (s : Files) (n : List ℕ) → is_staged n ≡ false → without_staged s n ≡ s n
without_at s n isnt = rw isnt refl

-- what a text puts at each name
pub told_checkpoint : (text : List ℕ) (s : Files) → told text s checkpoint ≡ checkpoint_after text (s checkpoint)
told_checkpoint text s = refl

pub told_apart : (text : List ℕ) (s : Files) (n : List ℕ) → checkpoint ≢ n → state ≢ n → told text s n ≡ s n
told_apart text s n a b =
    elim (one_name checkpoint n) [ inl t ↦ absurd (a t.1) | inr f ↦ rw f.0 (put_apart (state, text) s n b) ]

-- what stands at a commit's name once it is opened
pub opened_served : (s : Files) (text n : List ℕ) → s mark ≡ Some text → is_served n ≡ true
    → opened s n ≡ option_or (s (staged n)) (s n)
opened_served s text n stands is =
    rw (stands, served_not_staged n is) (told_apart text (published s) n (served_not_checkpoint n is)
    (served_not_state n is) ∙ rw is refl)

pub unmarked : (s : Files) (text n : List ℕ) → is_own n ≡ false → put (mark, text) s n ≡ s n
unmarked s text n out = put_apart (mark, text) s n (λ e. apart (ap is_own e ∙ out))

pub idle_opened : (s : Files) → s mark ≡ None → opened s ≡ without_staged s
idle_opened s none = rw none

-- none that was read
pub read_none : (o : Option (List ℕ)) (most : ℕ) → None ≡ option_map (take (most + 1)) o → o ≡ None
read_none None most read = refl
read_none (Some t) most read = cc

pub unsigned_is : (o : Option (List ℕ)) → o ≡ None → false ≡ is_signed o
unfolding is_signed
unsigned_is o none = ap is_signed (sym none)

-- Moments.

module _ {D : Type 0} (moment : D → ℕ) (left_since : D → ℕ → Files → Type 0) (may_leave : D → Files → Type 0) where
  -- one call more
  pub goes_on : (old mid new : D) (P : Files → Type 0) → LeavesOnly moment left_since old mid P
      → Elapses moment left_since may_leave mid new
      → ((c : Files) → may_leave new c → P c) → LeavesOnly moment left_since old new P
  goes_on old mid new P so_far time here = record {
    later = omega (arith, so_far.later, time.later);
    each = λ c left. ⊎_elim (so_far.each c) (here c) (time.nothing_else (moment old) c so_far.later left);
    before = λ t c le left. ⊎_elim (so_far.before t c le) (λ now. inr (here c now))
        (time.nothing_else t c (omega (arith, le, so_far.later)) left);
  }

  -- the first call
  pub begins : (old new : D) (P : Files → Type 0) → ((c : Files) → left_since old (moment old) c → may_leave old c)
      → Elapses moment left_since may_leave old new
      → ((c : Files) → may_leave old c → P c) → ((c : Files) → may_leave new c → P c)
      → LeavesOnly moment left_since old new P
  begins old new P only time first here = record {
    later = time.later;
    each = λ c left. ⊎_elim (λ was. first c (only c was)) (here c)
        (time.nothing_else (moment old) c (omega arith) left);
    before = λ t c le left. ⊎_elim (λ was. inl was) (λ now. inr (here c now)) (time.nothing_else t c le left);
  }

  -- time goes on by no call
  pub elapses_none : (old : D) → Elapses moment left_since may_leave old old
  elapses_none old = record {
    later = omega arith;
    nothing_else = λ t c le left. inl left;
    keeps = λ t c le left. left;
  }

  -- two calls that only read
  pub read_twice : (old mid new : D) (P : Files → Type 0)
      → ((c : Files) → left_since old (moment old) c → may_leave old c) → Elapses moment left_since may_leave old mid
      → Elapses moment left_since may_leave mid new
      → Within (may_leave old) (may_leave mid) → Within (may_leave mid) (may_leave new)
      → ((c : Files) → may_leave old c → P c) → LeavesOnly moment left_since old new P
      × ((c : Files) → may_leave new c → P c)
  read_twice old mid new P only first second one two before =
      let after : (c : Files) → may_leave new c → P c = λ c left. before c (one c (two c left)) in
      (goes_on old mid new P (begins old mid P only first before (λ c left. before c (one c left))) second after, after)

module _ {D : Type 0} (moment : D → ℕ) (left_since : D → ℕ → Files → Type 0) where
  -- no call
  pub leaves_none : (old : D) (P : Files → Type 0) → ((c : Files) → left_since old (moment old) c → P c)
      → LeavesOnly moment left_since old old P
  leaves_none old P first = record { later = omega arith; each = first; before = λ t c le left. inl left }

  -- two runs, the second after the first
  pub leaves_then : (old mid new : D) (P Q R : Files → Type 0) → LeavesOnly moment left_since old mid P
      → LeavesOnly moment left_since mid new Q
      → ((c : Files) → P c → R c) → ((c : Files) → Q c → R c) → LeavesOnly moment left_since old new R
  leaves_then old mid new P Q R one two first second = record {
    later = omega (arith, one.later, two.later);
    each = λ c left. ⊎_elim (λ was. first c (one.each c was)) (second c) (two.before (moment old) c one.later left);
    before = λ t c le left. ⊎_elim (λ was. ⊎_elim (λ e. inl e) (λ p. inr (first c p)) (one.before t c le was))
        (λ q. inr (second c q)) (two.before t c (omega (arith, le, one.later)) left);
  }

  -- a weaker fact
  pub leaves_weaker : (old new : D) (P R : Files → Type 0) → LeavesOnly moment left_since old new P
      → ((c : Files) → P c → R c) → LeavesOnly moment left_since old new R
  leaves_weaker old new P R run weak = record {
    later = run.later;
    each = λ c left. weak c (run.each c left);
    before = λ t c le left. ⊎_elim (λ e. inl e) (λ p. inr (weak c p)) (run.before t c le left);
  }

module _ {D : Type 0} (moment : D → ℕ) (left_since : D → ℕ → Files → Type 0) (may_leave : D → Files → Type 0)
    (counts_now : (folder : D) (t : ℕ) (c : Files) → t ≤ moment folder → may_leave folder c → left_since folder t c)
  where
    -- what a crash leaves once a run is over
    pub in_end : (old new : D) (P : Files → Type 0) → LeavesOnly moment left_since old new P → (c : Files)
        → may_leave new c → P c
    in_end old new P run c left = run.each c (counts_now new (moment old) c run.later left)

    -- a run, and calls behind it that only read
    pub then_reads : (old mid new : D) (P : Files → Type 0) → LeavesOnly moment left_since old mid P
        → LeavesOnly moment left_since mid new (may_leave mid) → LeavesOnly moment left_since old new P
    then_reads old mid new P run reads = leaves_then moment left_since old mid new P (may_leave mid) P run reads
        (λ c was. was) (in_end old mid P run)

module _ {D : Type 0} (seen : D → Files) (may_leave : D → Files → Type 0) (moment : D → ℕ)
    (left_since : D → ℕ → Files → Type 0) where
  -- no call only reads
  pub read_is : (old : D) → IsRead seen may_leave moment left_since old old
  read_is old = record {
    found = refl;
    crash = λ c left. left;
    time = elapses_none moment left_since may_leave old;
  }

  -- nor do two calls that only read change anything
  pub read_then : (old mid new : D)
      → ((t : ℕ) (c : Files) → t ≤ moment old → may_leave old c → left_since old t c)
      → IsRead seen may_leave moment left_since old mid → IsRead seen may_leave moment left_since mid new
      → IsRead seen may_leave moment left_since old new
  read_then old mid new counts one two = record {
    found = two.found ∙ one.found;
    crash = λ c left. one.crash c (two.crash c left);
    time = record {
      later = omega (arith, one.time.later, two.time.later);
      nothing_else = λ t c le left. ⊎_elim
          (λ was. ⊎_elim (λ first. inl first) (λ now. inl (counts t c le (one.crash c now)))
          (one.time.nothing_else t c le was))
          (λ now. inr now) (two.time.nothing_else t c (omega (arith, le, one.time.later)) left);
      keeps = λ t c le left. two.time.keeps t c (omega (arith, le, one.time.later)) (one.time.keeps t c le left);
    };
  }

  -- a call that only reads, by its clauses
  pub read_by : (old new : D) → seen new ≡ seen old → Within (may_leave old) (may_leave new)
      → Elapses moment left_since may_leave old new → IsRead seen may_leave moment left_since old new
  read_by old new found crash time = record { found = found; crash = crash; time = time }

  -- what a crash leaves while a folder is only read
  pub read_leaves : (old new : D) (P : Files → Type 0) → ((c : Files) → left_since old (moment old) c → may_leave old c)
      → ((c : Files) → may_leave old c → P c) → IsRead seen may_leave moment left_since old new
      → LeavesOnly moment left_since old new P
  read_leaves old new P only first read = begins moment left_since may_leave old new P only read.time first
      (λ c left. first c (read.crash c left))
