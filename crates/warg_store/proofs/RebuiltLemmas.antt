-- A log's tiles made again: what is staged, and what its commit makes.
use Rattle.std.proofs.Common.{◌≡◌, ◌≢◌, inl, inr, ⊎_elim, ℕ, ◌^◌, ◌≤◌, true, false, List, length, Option, Some, None, refl, sym, ap, ◌∙◌, arith}
use mathlib.Core.Path.{fun_ext}
use Rattle.std.proofs.lemmas.Bool.{cases_Bool}
use Rattle.warg_crypto.specs.Digests.{sha256}
use Rattle.warg_log.specs.Claims.{RootAndLength}
use Rattle.warg_log.specs.Tree.{root_of, leaves_of}
use Rattle.warg_tiles.specs.Tiles.{TileAt}
use Rattle.warg_tiles.specs.CheckpointText.{Said, text_of}
use Rattle.warg_tiles.specs.TileLog.{RightEdge, StandsFor}
use Rattle.warg_tiles.specs.TilePaths.{tile_path, entries_path}
use Rattle.warg_folder.specs.Files.{Files, put}
use Rattle.warg_folder.specs.Moments.{LeavesOnly}
use Rattle.warg_folder.specs.Names.{checkpoint, state, mark, staged, is_staged, is_served}
use Rattle.warg_folder.specs.Commits.{told, published, finished, opened, opened_by, committed, NothingStaged, IsBeside, IsStaging, IsBetween}
use Rattle.warg_folder.proofs.ForCallers.{apart, leaves_then, not_staged, served_not_staged, served_not_checkpoint, served_not_state, put_apart, told_apart, without_at, idle_opened}
use Rattle.warg_store.specs.Audited.{log_of, ShowsLog}
use Rattle.warg_store.specs.Log.{LogOf, HasState, IsTileIn, said_of}
use Rattle.warg_store.specs.Reading.{checkpoint_said}
use Rattle.warg_store.specs.Rebuilt.{IsStated, IsRebuilt}
use Rattle.warg_store.specs.Private.Used.{IsStagedIn, HasUsedAll, IsRemaking}
use Rattle.warg_store.specs.declared.auditing.Use.TheVariants.{Stage}
use Rattle.warg_store.proofs.PathLemmas.{no_tile_a_bundle}
use Rattle.warg_store.proofs.OptionLemmas.{one_value}
use Rattle.warg_store.proofs.ServeLemmas.{committed_served}
use Rattle.warg_store.proofs.UsedLemmas.{said_by}
use Rattle.warg_store.proofs.WholeLemmas.{same_said}

-- Files beside others where nothing is staged.

-- opened they are these
pub settled : (s c : Files) → NothingStaged s → IsBeside s c → opened c ≡ s
settled s c nothing beside = idle_opened c beside.no_mark
    ∙ fun_ext (λ n. elim (cases_Bool (is_staged n)) [
      | inl is ↦ rw is (sym (nothing n is))
      | inr isnt ↦ rw isnt (beside.outside n isnt)
    ])

itself : (s : Files) → NothingStaged s → IsBeside s s
itself s nothing = record { outside = λ n isnt. refl; no_mark = nothing mark refl }

-- so are files that stand for them
pub beside_settled : (old s c : Files) → NothingStaged s → IsBeside s c → IsBetween old s c
beside_settled old s c nothing beside = record {
  stands_for = inr (settled s c nothing beside);
  each = λ n out. inr (beside.outside n (not_staged n out));
  state = inr (beside.outside state refl);
  whole = inr (λ n out. beside.outside n (not_staged n out));
}

-- and between themselves and what a commit makes, where files were being staged
pub staging_between : (s next : Files) (may : Files → Type 0) → IsStaging s may → may s → (c : Files) → may c
    → IsBetween s next c
staging_between s next may staging stays c left =
    let was = staging c left in
    record {
      stands_for = inl (
        idle_opened c was.no_mark
            ∙ fun_ext (λ n. elim (cases_Bool (is_staged n)) [
              | inl is ↦ rw is refl
              | inr isnt ↦ rw isnt (was.outside n isnt)
            ])
            ∙ sym (idle_opened s (staging s stays).no_mark),
        λ n out. was.outside n (not_staged n out),
      );
      each = λ n out. inl (was.outside n (not_staged n out));
      state = inl (was.outside state refl);
      whole = inl (was.outside checkpoint refl);
    }

-- a commit over what is staged is one over them
pub between_settled : (s mid next c : Files) → NothingStaged s → IsBeside s mid → IsBetween mid next c
    → IsBetween s next c
between_settled s mid next c nothing beside was = record {
  stands_for = ⊎_elim
      (λ (e, same). inl (
        e ∙ settled s mid nothing beside ∙ sym (settled s s nothing (itself s nothing)),
        λ n out. same n out ∙ beside.outside n (not_staged n out),
      ))
      (λ e. inr e) was.stands_for;
  each = λ n out. ⊎_elim (λ e. inl (e ∙ beside.outside n (not_staged n out))) (λ e. inr e) (was.each n out);
  state = ⊎_elim (λ e. inl (e ∙ beside.outside state refl)) (λ e. inr e) was.state;
  whole = ⊎_elim (λ e. inl (e ∙ beside.outside checkpoint refl)) (λ e. inr e) was.whole;
}

-- a text is told at each name by what stands there, and by the checkpoint
told_same : (text : List ℕ) (s t : Files) (n : List ℕ) → s checkpoint ≡ t checkpoint → s n ≡ t n
    → told text s n ≡ told text t n
told_same text s t n first here = rw (first, here) refl

not_mark : (n : List ℕ) → is_staged n ≡ false → mark ≢ n
not_mark n isnt e = apart (ap is_staged e ∙ isnt)

not_told : (n : List ℕ) → is_staged n ≡ true → (checkpoint ≢ n) × (state ≢ n)
not_told n is = ((λ e. apart (sym is ∙ ap is_staged (sym e))), (λ e. apart (sym is ∙ ap is_staged (sym e))))

-- Once what is staged is committed, the tiles are made again.
module _ (first mid : Files) (edge : RightEdge) (said : Said) (nothing : NothingStaged first)
    (stated : IsStated said first) (has : HasUsedAll Stage first mid edge)
    (says : checkpoint_said said ≡ checkpoint_said (said_of (log_of has.entries))) where
  abbrev text : List ℕ
  text = text_of said

  abbrev log : LogOf
  log = log_of has.entries

  -- at a name at which commits put no files
  kept : (n : List ℕ) → is_staged n ≡ false → is_served n ≡ false → committed text mid n ≡ told text first n
  kept n isnt other = without_at (finished text (put (mark, text) mid)) n isnt
      ∙ told_same text (published (put (mark, text) mid)) first n (has.outside checkpoint refl)
      (rw other (put_apart (mark, text) mid n (not_mark n isnt) ∙ has.outside n isnt))

  -- and at one at which they do
  served : (n : List ℕ) → is_served n ≡ true → ((t : TileAt) → IsTileIn log t → tile_path t ≢ n)
      → committed text mid n ≡ told text first n
  served n is none = committed_served mid text n is
      ∙ rw (has.other n none, nothing (staged n) refl) (has.outside n (served_not_staged n is))
      ∙ sym (told_apart text first n (served_not_checkpoint n is) (served_not_state n is))

  gone : (n : List ℕ) → is_staged n ≡ true → committed text mid n ≡ told text first n
  gone n is =
      let none : committed text mid n ≡ None = rw is refl in
      let names = not_told n is in
      none ∙ sym (told_apart text first n names.0 names.1 ∙ nothing n is)

  pub rebuilt : IsRebuilt said first (committed text mid)
  rebuilt = record {
    stated = stated;
    log = log;
    says = says;
    short = has.short;
    bundle = has.bundle;
    tile = λ t is. committed_served mid text (tile_path t) refl
        ∙ rw (has.tile t is) refl;
    other = λ n none. elim (cases_Bool (is_staged n)) [
      | inl is ↦ gone n is
      | inr isnt ↦ elim (cases_Bool (is_served n)) [ inl is ↦ served n is none | inr other ↦ kept n isnt other ]
    ];
  }

-- The checkpoint that a state says is that of the entries, once it was found to be theirs.
pub state_says : (checkpoint found : RootAndLength) (said : Said) (entries : List (List ℕ)) (edge : RightEdge)
    → found ≡ checkpoint → checkpoint.root ≡ said.root → checkpoint.length ≡ said.length
    → ((ds : List (List ℕ)) → StandsFor sha256 edge ds → (found.length ≡ length ds) × (found.root ≡ root_of sha256 ds))
    → StandsFor sha256 edge (leaves_of sha256 entries)
    → checkpoint_said said ≡ checkpoint_said (said_of (log_of entries))
state_says checkpoint found said entries edge is root length same stands =
    sym (is ∙ same_said checkpoint said root length) ∙ said_by entries edge found same stands

-- What stands at each moment while tiles are staged and then committed.
module _ {D : Type 0} (seen : D → Files) (may_leave : D → Files → Type 0) (moment : D → ℕ)
    (left_since : D → ℕ → Files → Type 0) where
  pub remaking : (old mid new : D) (edge : RightEdge) (said : Said) → NothingStaged (seen old)
      → IsStated said (seen old) → (has : HasUsedAll Stage (seen old) (seen mid) edge)
      → checkpoint_said said ≡ checkpoint_said (said_of (log_of has.entries))
      → IsStagedIn seen may_leave moment left_since old mid → may_leave mid (seen mid)
      → LeavesOnly moment left_since mid new (IsBetween (seen mid) (committed (text_of said) (seen mid)))
      → LeavesOnly moment left_since old new (IsRemaking said (seen old))
  remaking old mid new edge said nothing stated has says used stays run =
      let beside : IsBeside (seen old) (seen mid) = record {
        outside = has.outside;
        no_mark = (used.staging (seen mid) stays).no_mark;
      } in
      leaves_then moment left_since old mid new _ _ _ used.run run (λ f was. inl was)
      (λ f was. inr (
        committed (text_of said) (seen mid),
        rebuilt (seen old) (seen mid) edge said nothing stated has says,
        between_settled (seen old) (seen mid) _ f nothing beside was,
      ))

-- what is rebuilt shows a log
pub rebuilt_shown : (said : Said) (old new : Files) → IsRebuilt said old new → ShowsLog new (checkpoint_said said)
rebuilt_shown said old new is = (
  log_of is.log.entries,
  is.says,
  is.short,
  record {
    tile = λ t at. is.tile t (record { level = at.level; exists = at.exists });
    bundle = λ t at. is.other (entries_path t) (λ u tile. no_tile_a_bundle u t tile.level)
        ∙ told_apart (text_of said) old (entries_path t) (served_not_checkpoint (entries_path t) refl)
        (served_not_state (entries_path t) refl)
        ∙ is.bundle t (record { level = at.level; exists = at.exists });
    page = λ f (k, low, at). absurd (omega arith);
  },
)

-- the text of a commit that stands is that of the state once the folder has been opened
pub mark_stated : (log : LogOf) (files : Files) (text : List ℕ) → files mark ≡ Some text → HasState log (opened files)
    → length text ≤ 2 ^ 20
mark_stated log files text stands has =
    let same = one_value (ap (λ (o : Option (List ℕ)). opened_by o files state) stands) has.text in
    omega (arith, ap length same, has.can.text)
