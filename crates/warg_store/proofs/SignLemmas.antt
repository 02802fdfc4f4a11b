-- A signed checkpoint, over what a folder keeps.
use Rattle.std.proofs.Common.{◌≡◌, ◌≢◌, ℕ, ◌<◌, List, [], ◌∷◌, ◌++◌, length, take, drop, get_or, nat_eq, true, false, Some, inl, inr, ⊎_elim, refl, sym, ap, ◌∙◌, arith}
use Rattle.std.specs.Cmp.Lexicographic.{pointwise, bytes_decides}
use Rattle.std.proofs.lemmas.List.{take-append-drop, take_at, drop_at}
use Rattle.warg_tiles.specs.TilePaths.{tile_path, entries_path}
use Rattle.warg_folder.specs.Files.{Files, put, Either}
use Rattle.warg_folder.specs.Moments.{Follows, LeavesOnly}
use Rattle.warg_folder.specs.Names.{checkpoint, state, mark, staged, is_staged, is_own, page_name}
use Rattle.warg_folder.specs.Commits.{IsBeside, IsStaging}
use Rattle.warg_store.specs.Log.{said_of, LogOf, Keeps, IsOneOf, IsFileOf, IsNoteOf, checkpoint_of}
use Rattle.warg_store.specs.Growing.{LogIn, Has, AreFullStaged}
use Rattle.warg_folder.proofs.ForCallers.{one_name, apart, served_not_checkpoint, put_here, put_apart, leaves_none}
use Rattle.warg_store.proofs.LeadLemmas.{extends_self, file_served, same_files, pages_beside}
use Rattle.warg_store.proofs.GrowingLemmas.{beside_one_of, in_folder}
use Rattle.warg_store.proofs.OpenLemmas.{text_parts}

-- A note over a text.

pub note_from : (text note rest : List ℕ) → pointwise nat_eq (take (length text) note) text ≡ true
    → rest ≡ drop (length text) note → 1 < length rest → get_or rest 0 0 ≡ 10 → IsNoteOf text note
note_from text note rest begins is more newline = of rest more newline
    (sym (take-append-drop (length text) note)
    ∙ rw ((bytes_decides (take (length text) note) text).0 begins, is) refl)
  where
    of : (r : List ℕ) → 1 < length r → get_or r 0 0 ≡ 10 → note ≡ text ++ r → IsNoteOf text note
    of [] some first e = absurd (omega arith)
    of (a ∷ []) some first e = absurd (omega arith)
    of (a ∷ b ∷ bytes) some first e = (b, bytes, e ∙ ap (λ x. text ++ (x ∷ b ∷ bytes)) first)

pub note_back : (text note : List ℕ) → IsNoteOf text note → (pointwise nat_eq (take (length text) note) text ≡ true)
    × (1 < length (drop (length text) note)) × (get_or (drop (length text) note) 0 0 ≡ 10)
note_back text note (first, behind, is) =
    let front : take (length text) note ≡ text = ap (take (length text)) is ∙ take_at text (10 ∷ first ∷ behind)
    (length text) refl in
    let rest : drop (length text) note ≡ 10 ∷ first ∷ behind = ap (drop (length text)) is
    ∙ drop_at text (10 ∷ first ∷ behind) (length text) refl in (
      (bytes_decides (take (length text) note) text).1 front,
      omega (arith, ap (λ (l : List ℕ). length l) rest),
      ap (λ (l : List ℕ). get_or l 0 0) rest,
    )

-- what is staged, where the staged files are the same
pub full_staged_same : {older taken : ℕ} {log : LogOf} {s : Files} (t : Files)
    → ((n : List ℕ) → t (staged n) ≡ s (staged n)) → AreFullStaged older taken log s → AreFullStaged older taken log t
full_staged_same t same was = record {
  tile = λ u low is. same (tile_path u) ∙ was.tile u low is;
  bundle = λ u level is. same (entries_path u) ∙ was.bundle u level is;
  nothing_else = λ n served some. was.nothing_else n served (rw same at some);
}

module _ (note : List ℕ) (s : Files) where
  other : (n : List ℕ) → checkpoint ≢ n → put (checkpoint, note) s n ≡ s n
  other n differ = put_apart (checkpoint, note) s n differ

  not_own : (n : List ℕ) → is_own n ≡ true → checkpoint ≢ n
  not_own n is e = apart (sym is ∙ ap is_own (sym e))

  -- a folder that keeps a log serves it once its note is the checkpoint
  pub sign_keeps : (served old : LogOf) → IsNoteOf (checkpoint_of old) note → Keeps served old s
      → Keeps old old (put (checkpoint, note) s)
  sign_keeps served old is keeps =
      let same : (n : List ℕ) → IsFileOf old n → put (checkpoint, note) s n ≡ s n =
      λ n file. other n (served_not_checkpoint n (file_served old n file)) in
      record {
        can = keeps.can;
        state = other state (not_own state refl) ∙ keeps.state;
        holds = same_files (put (checkpoint, note) s) same keeps.holds;
        serves = record {
          can = keeps.can;
          checkpoint = (
            Some (is.0 ∷ is.1),
            put_here (checkpoint, note) s
                ∙ rw (is.2, text_parts (said_of old) (Some (is.0 ∷ is.1))) refl,
          );
          holds = same_files (put (checkpoint, note) s) same keeps.holds;
        };
        begins = extends_self old;
        newest = λ _. refl;
      }

  -- it stays ready
  beside_put : (d : Files) → IsBeside s d → IsBeside (put (checkpoint, note) s) (put (checkpoint, note) d)
  beside_put d was = record {
    outside = both;
    no_mark = put_apart (checkpoint, note) d mark (not_own mark refl) ∙ was.no_mark;
  }
    where
      both : (n : List ℕ) → is_staged n ≡ false → put (checkpoint, note) d n ≡ put (checkpoint, note) s n
      both n isnt = elim (one_name checkpoint n) [
        | inl here ↦ rw (here.0) refl
        | inr differ ↦ rw (differ.0) (was.outside n isnt)
      ]

  pub sign_staging : (may now : Files → Type 0) → Follows (λ d c. c ≡ put (checkpoint, note) d) may now
      → IsStaging s may → IsStaging (put (checkpoint, note) s) now
  sign_staging may now follows was c left =
      let from = follows c left in
      rw from.2 (beside_put from.0 (was from.0 from.1))

  -- at each moment the folder serves the log that it served, or the one that it keeps
  pub sign_moment : (served old : LogOf) (may now : Files → Type 0) → IsNoteOf (checkpoint_of old) note
      → Keeps served old s → Follows (Either (put (checkpoint, note))) may now → IsStaging s may
      → (c : Files) → now c → IsOneOf served old old c
  sign_moment served old may now is keeps follows was c left =
      let from = follows c left in
      elim (from.2) [
        | inl same ↦ beside_one_of served old old s c keeps (rw same (was from.0 from.1))
        | inr signed ↦ later (beside_one_of old old old (put (checkpoint, note) s) c (sign_keeps served old is keeps)
            (rw signed (beside_put from.0 (was from.0 from.1))))
      ]
    where
      later : IsOneOf old old old c → IsOneOf served old old c
      later one = record {
        read = elim (one.read) [ inl r ↦ inr r | inr r ↦ inr r ];
        state = one.state;
        opened = elim (one.opened)
            [ inl k ↦ inr (old, inr refl, k) | inr k ↦ inr (k.0, inr (⊎_elim (λ e. e) (λ e. e) k.1), k.2) ];
      }

-- where no call is made, it serves what it served
pub unsigned : {F : Type 0} (seen : F → Files) (may_leave : F → Files → Type 0) (moment : F → ℕ)
    (left_since : F → ℕ → Files → Type 0) (served old next : LogOf) (l : LogIn F)
    → ((c : Files) → left_since l.folder (moment l.folder) c → may_leave l.folder c)
    → Has seen may_leave served old next l → LeavesOnly moment left_since l.folder l.folder (IsOneOf served old old)
unsigned seen may_leave moment left_since served old next l now has = leaves_none moment left_since l.folder
    (IsOneOf served old old) (λ c left. beside_one_of served old old (seen l.folder) c has.keeps
    (has.staging c (now c left)))

-- a log whose note is served
pub sign_has : {F : Type 0} (seen : F → Files) (may_leave : F → Files → Type 0) (served old next : LogOf) (l : LogIn F)
    (folder : F) (note : List ℕ) → IsNoteOf (checkpoint_of old) note
    → seen folder ≡ put (checkpoint, note) (seen l.folder) → Follows (λ d c. c ≡ put (checkpoint, note) d)
    (may_leave l.folder) (may_leave folder) → Has seen may_leave served old next l
    → Has seen may_leave old old next (record l { folder = folder })
sign_has seen may_leave served old next l folder note is put_is follows has =
    let same : (n : List ℕ) → put (checkpoint, note) (seen l.folder) (staged n) ≡ seen l.folder (staged n) =
    λ n. put_apart (checkpoint, note) (seen l.folder) (staged n) (λ e. apart (ap is_own (sym e))) in
    in_folder folder has (rw put_is (sign_keeps note (seen l.folder) served old is has.keeps))
    (rw put_is (full_staged_same (put (checkpoint, note) (seen l.folder)) same has.staged))
    (pages_beside (λ path has. has)
    (λ path. rw put_is (same (page_name path))) has.pages)
    (rw put_is (sign_staging note (seen l.folder) (may_leave l.folder) (may_leave folder) follows has.staging))
