-- A folder whose spare files go.
use Rattle.std.proofs.Common.{◌≡◌, ◌⊎◌, inl, inr, ⊎_elim, ℕ, ◌<◌, List, [], ◌∷◌, length, map, get_or, take, codes, nat_eq, string_bytes, true, false, Option, Some, None, IsSome, refl, sym, ap, ◌∙◌, arith}
use Rattle.std.specs.Prelude.{option_map, Bool, IsTrue, Vec, ◌↔◌}
use Rattle.std.specs.Bool.{if◌then◌else◌}
use Rattle.std.specs.List.{All, Contains, starts_with}
use Rattle.std.specs.declared.string.String.{String}
use Rattle.std.specs.declared.alloc.Global.{Global}
use Rattle.std.proofs.lemmas.List.{get_or-map, length-map}
use Rattle.warg_tiles.specs.Tiles.{TileAt, IsTile}
use Rattle.warg_tiles.specs.TilePaths.{tile_path, entries_path}
use Rattle.warg_tiles.specs.Between.{IsTileOf}
use Rattle.warg_folder.specs.Files.{Files, without, Either}
use Rattle.warg_folder.specs.Moments.{Only, Within, Follows, Elapses, IsRead, LeavesOnly}
use Rattle.warg_folder.specs.Names.{checkpoint, state, mark, staged, is_staged, is_served, page_name}
use Rattle.warg_folder.specs.Commits.{IsBeside, IsStaging, opened}
use Rattle.warg_store.specs.Log.{LogOf, IsFileOf, Keeps, IsOneOf}
use Rattle.warg_store.specs.Growing.{LogIn, Has}
use Rattle.warg_store.specs.Pruned.{HasFull, full_of, IsSpare, IsPruned}
use Rattle.warg_store.specs.Private.Steps.{IsPruning, PrunesOn}
use Rattle.warg_folder.proofs.ForCallers.{one_name, apart, served_not_staged, without_here, without_apart, either, goes_on, begins, leaves_none, leaves_then}
use Rattle.warg_store.proofs.PathLemmas.{tile_path_once, one_tile, entries_path_once, no_tile_a_bundle, other_kind, no_page_a_tile, no_page_a_bundle}
use Rattle.warg_store.proofs.ServeLemmas.{opened_idle}
use Rattle.warg_store.proofs.LeadLemmas.{width_at_most, file_served, same_served, same_kept, either_served, keeps_beside, pages_stay}
use Rattle.warg_tiles.proofs.ForCallers.{low_level}
use Rattle.warg_store.proofs.GrowingLemmas.{none_some, in_folder}
use Rattle.warg_store.proofs.SignLemmas.{full_staged_same}

-- a spare name is a served one, and so is the full one's
spare_served : {kept served : ℕ} {s : Files} {n : List ℕ} (spare : IsSpare kept served s n)
    → (is_served n ≡ true) × (is_served spare.full ≡ true)
spare_served spare = ⊎_elim (λ is. (ap is_served (sym is.0), ap is_served (sym is.1)))
    (λ is. (ap is_served (sym is.1), ap is_served (sym is.2))) spare.paths

-- a file is there, or not
none_or_some : (o : Option (List ℕ)) → (o ≡ None) ⊎ IsSome o
none_or_some None = inl refl
none_or_some (Some bytes) = inr refl

-- an element of a list that has one
get_or_any : (names : List (String Global)) (i : ℕ) → i < length names → String Global
get_or_any [] i below = absurd (omega arith)
get_or_any (x ∷ xs) i below = x

-- two tiles of one name are one, with one full file in their place
pub one_full : (n : List ℕ) (t u : TileAt) (f g : List ℕ) → IsTile t → IsTile u → HasFull n t f → HasFull n u g
    → (t ≡ u) × (f ≡ g)
one_full n t u f g it iu (inl a) (inl b) =
    let same = one_tile t u it iu (a.0 ∙ sym b.0) in
    (same, sym a.1 ∙ rw same b.1)
one_full n t u f g it iu (inl a) (inr b) = absurd (other_kind t u it (a.0 ∙ sym b.1))
one_full n t u f g it iu (inr a) (inl b) = absurd (other_kind u t iu (b.0 ∙ sym a.1))
one_full n t u f g it iu (inr a) (inr b) =
    let same = entries_path_once t u a.0 b.0 it.most iu.most (a.1 ∙ sym b.1) in
    (same, sym a.2 ∙ rw same b.2)

-- a name that is spare in one folder is so in another that has the full file
spare_in : {kept served : ℕ} {a b : Files} (n : List ℕ) (spare : IsSpare kept served a n) → IsSome (b spare.full)
    → IsSpare kept served b n
spare_in n spare there = record {
  tile = spare.tile;
  full = spare.full;
  is = spare.is;
  paths = spare.paths;
  partial = spare.partial;
  exists = spare.exists;
  unserved = spare.unserved;
  there = there;
}

module _ (kept served : ℕ) (s : Files) where
  -- the full file in the place of a partial one isn't spare
  pub full_stays : (n full : List ℕ) (t : TileAt) → IsTile t → HasFull n t full → IsSpare kept served s full → ⊥
  full_stays n full t it paths spare =
      let is : IsTile (full_of t) =
      record { level = it.level; number = it.number; some = omega arith; most = omega arith } in
      let of_full : HasFull full (full_of t) full = ⊎_elim (λ a. inl (a.1, a.1)) (λ b. inr (b.0, b.2, b.2)) paths in
      let same = (one_full full (full_of t) spare.tile full spare.full is spare.is of_full spare.paths).0 in
      omega (arith, ap (λ (x : TileAt). x.width) same, spare.partial)

  -- what is spare at first is so while others go
  pub spare_still : (now : Files) (n : List ℕ) → IsPruning kept served s now → IsSpare kept served s n
      → IsSpare kept served now n
  spare_still now n was spare = spare_in n spare (⊎_elim (λ same. rw same spare.there)
      (λ gone. absurd (full_stays n spare.full spare.tile spare.is spare.paths gone.1))
      (was.outside spare.full (served_not_staged spare.full (spare_served spare).1)))

  -- a spare file goes where each name that has a file was looked at
  pub spare_gone : (now : Files) (n : List ℕ) (names : List (String Global)) → IsPruning kept served s now
      → IsSpare kept served s n
      → (IsSome (s n) → Contains (map (λ name. string_bytes name) names) n)
      → All (λ name. IsSpare kept served s (string_bytes name) → now (string_bytes name) ≡ None) names → now n ≡ None
  spare_gone now n names was spare listed each = ⊎_elim
      (λ same. elim (none_or_some (s n)) [
        | inl none ↦ same ∙ none
        | inr some ↦
            let at = listed some in
            let low : at.0 < length names = omega (
              arith,
              at.1,
              length-map names (λ (x : String Global). string_bytes x),
            ) in
            let d = get_or_any names at.0 low in
            let is : string_bytes (get_or names at.0 d) ≡ n =
            sym (get_or-map (λ (x : String Global). string_bytes x) names at.0 d n low) ∙ at.2 in
            rw (← is) (each at.0 d low (rw is spare))
      ])
      (λ gone. gone.0)
      (was.outside n (served_not_staged n (spare_served spare).0))

  -- before any file goes
  pub begun : (c : Files) → IsBeside s c → IsPruning kept served s c
  begun c beside = record { outside = λ n isnt. inl (beside.outside n isnt); no_mark = beside.no_mark }

  -- one file that goes
  pub pruned_one : (d : Files) (name : List ℕ) → IsSpare kept served s name → IsPruning kept served s d
      → IsPruning kept served s (without name d)
  pruned_one d name spare was = record {
    outside = λ n isnt. elim (one_name name n) [
      | inl here ↦ rw (← here.1) (inr (without_here name d, spare))
      | inr other ↦ elim (was.outside n isnt) [
        | inl same ↦ inl (without_apart name d n other.1 ∙ same)
        | inr gone ↦ inr (without_apart name d n other.1 ∙ gone.0, gone.1)
      ]
    ];
    no_mark = without_apart name d mark
        (λ e. apart (sym (spare_served spare).0 ∙ ap is_served e)) ∙ was.no_mark;
  }

  -- what is there now was there
  pub was_there : (now : Files) (full : List ℕ) → is_served full ≡ true → IsPruning kept served s now
      → IsSome (now full) → IsSome (s full)
  was_there now full is was some = elim (was.outside full (served_not_staged full is)) [
    | inl same ↦ rw same at some
    | inr gone ↦ absurd (none_some (now full) gone.0 some)
  ]

  -- what is spare later was so at first
  pub spare_first : (now : Files) (n : List ℕ) → IsPruning kept served s now → IsSpare kept served now n
      → IsSpare kept served s n
  spare_first now n was spare = spare_in n spare
      (was_there now spare.full (spare_served spare).1 was spare.there)

-- a spare name is its tile's, whose full one's file is there
pub spare_tile : {kept served : ℕ} {s : Files} (name : List ℕ) (tile : TileAt) (full : List ℕ) → IsTile tile
    → HasFull name tile full → IsSpare kept served s name
    → ((tile.width < 256) × IsTileOf kept (full_of tile) × (IsTileOf served tile → ⊥)) × IsSome (s full)
spare_tile {kept = kept} {served = served} {s = s} name tile full is paths spare =
    let same = one_full name spare.tile tile spare.full full spare.is is spare.paths paths in
    (rw (← same.0) (spare.partial, spare.exists, spare.unserved), rw (← same.1) spare.there)

module _ (kept served : ℕ) (old new : Files) (name : List ℕ) where
  -- a staged file stays where a spare one goes
  pub staged_stays : (is : Bool) (n : List ℕ) → new ≡ (if is then without name old else old)
      → (IsTrue is → IsSpare kept served old name) → is_staged n ≡ true → new n ≡ old n
  staged_stays true n gone spare is =
      let isnt = served_not_staged name (spare_served (spare refl)).0 in
      rw gone (without_apart name old n (λ e. apart (sym is ∙ ap is_staged (sym e) ∙ isnt)))
  staged_stays false n gone spare is = rw gone refl

  -- a spare file goes
  pub gone_if_spare : (is : Bool) → new ≡ (if is then without name old else old)
      → (IsSpare kept served old name → IsTrue is) → IsSpare kept served old name → new name ≡ None
  gone_if_spare true gone spare it = rw gone (without_here name old)
  gone_if_spare false gone spare it = absurd (let no : false ≡ true = spare it in cc)

module _ {D : Type 0} (moment : D → ℕ) (left_since : D → ℕ → Files → Type 0) (may_leave : D → Files → Type 0)
    (only : (folder : D) (c : Files) → left_since folder (moment folder) c → may_leave folder c) (kept served : ℕ) where
  -- no call
  pub prunes_none : (old : D) → PrunesOn moment left_since may_leave kept served old old
  prunes_none old = record {
    any_moment = λ s before. leaves_none moment left_since old (IsPruning kept served s)
        (λ c left. before c (only old c left));
    crash = λ s before c left. before c left;
  }

  -- a call that only reads
  pub prunes_read : (old new : D) → Within (may_leave old) (may_leave new) → Elapses moment left_since may_leave old new
      → PrunesOn moment left_since may_leave kept served old new
  prunes_read old new within time = record {
    any_moment = λ s before. begins moment left_since may_leave old new (IsPruning kept served s) (only old) time before
        (λ c left. before c (within c left));
    crash = λ s before c left. before c (within c left);
  }

  -- two runs, the second after the first
  pub prunes_then : (old mid new : D) → PrunesOn moment left_since may_leave kept served old mid
      → PrunesOn moment left_since may_leave kept served mid new
      → PrunesOn moment left_since may_leave kept served old new
  prunes_then old mid new one two = record {
    any_moment = λ s before.
        let P = IsPruning kept served s in
        leaves_then moment left_since old mid new P P P (one.any_moment s before)
        (two.any_moment s (one.crash s before)) (λ c p. p) (λ c p. p);
    crash = λ s before c left. two.crash s (one.crash s before) c left;
  }

  -- two calls that only read, and a run behind them
  pub prunes_behind : (old mid new last : D) → Within (may_leave old) (may_leave mid)
      → Elapses moment left_since may_leave old mid → Within (may_leave mid) (may_leave new)
      → Elapses moment left_since may_leave mid new → PrunesOn moment left_since may_leave kept served new last
      → PrunesOn moment left_since may_leave kept served old last
  prunes_behind old mid new last first time second later run = prunes_then old mid last (prunes_read old mid first time)
      (prunes_then mid new last (prunes_read mid new second later) run)

  -- a run over a folder in which no commit stands
  pub prunes_begun : (old new : D) (s : Files) → PrunesOn moment left_since may_leave kept served old new
      → IsStaging s (may_leave old) → LeavesOnly moment left_since old new (IsPruning kept served s)
  prunes_begun old new s run staging = run.any_moment s (λ c left. begun kept served s c (staging c left))

  -- a call that only reads, and the removal of a file that is spare
  pub prunes_gone : (seen : D → Files) (old mid new : D) (name : List ℕ) → may_leave old (seen old)
      → IsRead seen may_leave moment left_since old mid → IsSpare kept served (seen old) name
      → Follows (Either (without name)) (may_leave mid) (may_leave new)
      → Elapses moment left_since may_leave mid new → PrunesOn moment left_since may_leave kept served old new
  prunes_gone seen old mid new name stays read spare removed time =
      let after : (s : Files) → ((d : Files) → may_leave old d → IsPruning kept served s d)
      → (c : Files) → may_leave new c → IsPruning kept served s c = λ s before c left.
      let from = removed c left in
      let was = before from.0 (read.crash from.0 from.1) in
      either (IsPruning kept served s) (without name) from.0 c from.2 was
      (pruned_one kept served s from.0 name
      (spare_first kept served s (seen old) name (before (seen old) stays) spare) was) in
      record {
        any_moment = λ s before. goes_on moment left_since may_leave old mid new (IsPruning kept served s)
            ((prunes_read old mid read.crash read.time).any_moment s before) time (after s before);
        crash = after;
      }

-- A folder in which no commit stands keeps a log, and serves a beginning of it, while their files stay.
module _ {served old : LogOf} {s : Files} (keeps : Keeps served old s) (c : Files) (no_mark : c mark ≡ None)
    (stays_at : (n : List ℕ) → IsFileOf old n ⊎ IsFileOf served n → c n ≡ s n)
    (stays_checkpoint : c checkpoint ≡ s checkpoint) (stays_state : c state ≡ s state) where
  pub still_keeps : Keeps served old c
  still_keeps = same_kept c stays_at stays_checkpoint stays_state keeps

  same : (n : List ℕ) → is_staged n ≡ false → opened c n ≡ c n
  same n isnt = opened_idle c n no_mark isnt

  pub still_one_of : IsOneOf served old old c
  still_one_of = record {
    read = inl (record {
      serves = same_served c (λ n is. stays_at n (inr is)) stays_checkpoint keeps.serves;
      stay = λ n is. same n (served_not_staged n (file_served served n is));
    });
    state = inl (record { can = keeps.can; text = stays_state ∙ keeps.state });
    opened = inl (keeps_beside (opened c) same still_keeps);
  }

-- What a folder keeps, and what it serves, stays.
module _ (served old : LogOf) (s : Files) (keeps : Keeps served old s) where
  level_of : (t : TileAt) → IsTileOf (length old.entries) (full_of t) → t.level < 8
  level_of t is = low_level (length old.entries) (full_of t) keeps.can.most is

  -- a file of a log that has no spare tile isn't spare
  not_spare_of : (log : LogOf) (n : List ℕ) (spare : IsSpare (length old.entries) (length served.entries) s n)
      → (IsTileOf (length log.entries) spare.tile → ⊥) → IsFileOf log n → ⊥
  not_spare_of log n spare needed (inl (u, is, path)) = ⊎_elim
      (λ tile. needed (rw (tile_path_once spare.tile u (level_of spare.tile spare.exists) is.level
      (omega (arith, spare.partial)) (width_at_most _ u is.exists) (tile.0 ∙ sym path)) is.exists))
      (λ bundle. no_tile_a_bundle u spare.tile is.level (path ∙ sym bundle.1)) spare.paths
  not_spare_of log n spare needed (inr (inl (u, is, path))) = ⊎_elim
      (λ tile. no_tile_a_bundle spare.tile u (level_of spare.tile spare.exists) (tile.0 ∙ sym path))
      (λ bundle. needed (rw (entries_path_once spare.tile u bundle.0 is.level
      (omega (arith, spare.partial)) (width_at_most _ u is.exists) (bundle.1 ∙ sym path)) is.exists)) spare.paths
  not_spare_of log n spare needed (inr (inr (f, is, path))) = ⊎_elim
      (λ tile. no_page_a_tile spare.tile f.0 (tile.0 ∙ sym path))
      (λ bundle. no_page_a_bundle spare.tile f.0 (bundle.1 ∙ sym path)) spare.paths

  not_spare : (n : List ℕ) → IsFileOf old n ⊎ IsFileOf served n
      → IsSpare (length old.entries) (length served.entries) s n → ⊥
  not_spare n (inl own) spare = not_spare_of old n spare
      (λ is. omega (arith, is.width, spare.exists.width, spare.partial)) own
  not_spare n (inr own) spare = not_spare_of served n spare spare.unserved own

  module _ (c : Files) (was : IsPruning (length old.entries) (length served.entries) s c) where
    stays_at : (n : List ℕ) → IsFileOf old n ⊎ IsFileOf served n → c n ≡ s n
    stays_at n file = ⊎_elim (λ e. e) (λ gone. absurd (not_spare n file gone.1))
        (was.outside n (served_not_staged n (either_served old served n file)))

    stays_own : (n : List ℕ) → is_staged n ≡ false → is_served n ≡ false → c n ≡ s n
    stays_own n isnt unserved = ⊎_elim (λ e. e)
        (λ gone. absurd (apart (sym (spare_served gone.1).0 ∙ unserved)))
        (was.outside n isnt)

    pub pruned_keeps : Keeps served old c
    pruned_keeps = still_keeps keeps c was.no_mark stays_at (stays_own checkpoint refl refl)
        (stays_own state refl refl)

    pub pruned_moment : IsOneOf served old old c
    pruned_moment = still_one_of keeps c was.no_mark stays_at (stays_own checkpoint refl refl)
        (stays_own state refl refl)

-- of the names at which commits put files, those that were spare are gone
pub served_pruned : (kept served : ℕ) (s c : Files) → IsPruning kept served s c → IsPruned kept served s c
served_pruned kept served s c was n is = was.outside n (served_not_staged n is)

-- a log whose folder still keeps it, with what is staged
pub still_has : {F : Type 0} {seen : F → Files} {may_leave : F → Files → Type 0} {served old next : LogOf}
    {l : LogIn F} (folder : F) → Has seen may_leave served old next l → Keeps served old (seen folder)
    → seen folder mark ≡ None
    → ((n : List ℕ) → seen folder (staged n) ≡ seen l.folder (staged n)) → Only (seen folder) (may_leave folder)
    → Has seen may_leave served old next (record l { folder = folder })
still_has {seen = seen} folder has keeps no_mark same only =
    in_folder folder has keeps
    (full_staged_same (seen folder) same has.staged)
    (pages_stay (λ path. same (page_name path)) has.pages)
    (λ c left. rw (only c left) (record { outside = λ n isnt. refl; no_mark = no_mark }))

-- a log whose folder was pruned
pub prune_has : {F : Type 0} (seen : F → Files) (may_leave : F → Files → Type 0) (served old next : LogOf) (l : LogIn F)
    (folder : F) → Has seen may_leave served old next l
    → IsPruning (length old.entries) (length served.entries) (seen l.folder) (seen folder)
    → ((n : List ℕ) → is_staged n ≡ true → seen folder n ≡ seen l.folder n) → Only (seen folder) (may_leave folder)
    → Has seen may_leave served old next (record l { folder = folder })
prune_has seen may_leave served old next l folder has was same only =
    still_has folder has
    (pruned_keeps served old (seen l.folder) has.keeps (seen folder) was) was.no_mark (λ n. same (staged n) refl) only

-- a file of which something was read is there, and the reverse
pub there_if_read : (found : Option (Vec ℕ Global)) (o : Option (List ℕ)) (n : ℕ)
    → option_map (λ v. v.items) found ≡ option_map (take n) o → IsSome found ↔ IsSome o
there_if_read None None n read = ((λ some. some), (λ some. some))
there_if_read None (Some t) n read = cc
there_if_read (Some v) None n read = cc
there_if_read (Some v) (Some t) n read = ((λ some. refl), (λ some. refl))

-- a spare name begins as a tile's
pub spare_name : {kept served : ℕ} {s : Files} (n : List ℕ) (spare : IsSpare kept served s n)
    → ((m : List ℕ) × (starts_with nat_eq m (codes "tile/") ≡ true) × (m ≡ n))
spare_name n spare = ⊎_elim (λ a. (tile_path spare.tile, refl, a.0)) (λ b. (entries_path spare.tile, refl, b.1))
    spare.paths
