-- What is read of a log's own files is never at fault.
use Rattle.std.proofs.Common.{◌≡◌, ◌⊎◌, inl, inr, ⊎_elim, ℕ, ◌*◌, ◌^◌, ◌<◌, ◌≤◌, List, [], ◌∷◌, length, take, drop, map, ◌==◌, ◌&&◌, nat_eq, Bor, true, Option, Some, None, IsSome, Result, Ok, Err, refl, sym, ap, ◌∙◌, arith}
use Rattle.std.specs.Prelude.{option_map, option_copied, unwrap_or, IfErr, MatchResult}
use Rattle.std.specs.Result.{IsErrAnd}
use Rattle.std.specs.Cmp.Lexicographic.{pointwise, bytes_decides}
use Rattle.std.proofs.lemmas.Bool.{cases_lt, eq-eqb}
use Rattle.std.proofs.lemmas.List.{length-drop, length-take-le}
use Rattle.warg_log.specs.Claims.{RootAndLength}
use Rattle.warg_tiles.specs.Tiles.{TileAt}
use Rattle.warg_tiles.specs.TileLog.{tile_fault, tiles_fault}
use Rattle.warg_tiles.specs.EntryBundles.{bundle_of}
use Rattle.warg_tiles.specs.CheckpointText.{Said, CanBeSaid, text_before}
use Rattle.warg_tiles.specs.CheckpointFaults.{IsFirstFault}
use Rattle.warg_tiles.specs.declared.error.CheckpointTextError.{CheckpointTextError}
use Rattle.warg_tiles.specs.declared.error.CheckpointTextError.TheVariants as text
use Rattle.warg_tiles.specs.declared.error.OpenError.{OpenError}
use Rattle.warg_tiles.specs.declared.error.OpenError.TheVariants as open_error
use Rattle.warg_tiles.proofs.ForCallers.{bundle_same}
use Rattle.warg_store.specs.Refusals.{IsNoFault}
use Rattle.warg_store.specs.declared.error.LogError.{LogError}
use Rattle.warg_store.specs.declared.error.LogError.TheVariants as refused
use Rattle.warg_folder.specs.Files.{Files}
use Rattle.warg_folder.specs.Names.{state, mark}
use Rattle.warg_folder.specs.Commits.{opened, opened_by}
use Rattle.warg_store.specs.Log.{LogOf, Extends, Serves, Keeps, HasLog, HasState, IsOneOf, IsBundleIn, bundle_bytes, said_of}
use Rattle.warg_store.specs.Reading.{checkpoint_said}
use Rattle.warg_store.proofs.LeadLemmas.{extends_length, bundle_inside, keeps_beside}
use Rattle.warg_store.proofs.OptionLemmas.{one_value, no_value}
use Rattle.warg_store.proofs.ServeLemmas.{opened_idle}
use Rattle.warg_store.proofs.GrowingLemmas.{same_length}

-- what holds of an error holds of a result that is this error
pub err_same : {X E : Type 0} (P : E → Type 0) (e : E) (r : Result X E) → IsErrAnd r (λ f. f ≡ e) → P e → IfErr r P
err_same P e (Ok x) is holds = tt
err_same P e (Err f) is holds = rw is holds

pub err_and : {X E : Type 0} (P : E → Type 0) (e : E) (r : Result X E) → IsErrAnd r (λ f. f ≡ e) → P e → IsErrAnd r P
err_and P e (Ok x) is holds = absurd is
err_and P e (Err f) is holds = rw is holds

pub err_match : {X E : Type 0} (Q : X → Type 0) (P : E → Type 0) (e : E) (r : Result X E) → IsErrAnd r (λ f. f ≡ e) → P
    e → MatchResult r Q P
err_match Q P e (Ok x) is holds = absurd is
err_match Q P e (Err f) is holds = rw is holds

-- a refusal for no fault is one, whatever else may be refused
pub no_fault_more : (beyond : Type 0) (e : LogError) → IsNoFault ⊥ e → IsNoFault beyond e
no_fault_more beyond refused.NoLog none = none
no_fault_more beyond (refused.Damaged damage) none = none
no_fault_more beyond (refused.RolledBack found newest) none = none
no_fault_more beyond (refused.OutOfRange bound) none = absurd none
no_fault_more beyond (refused.Folder cause) none = none

pub err_no_fault : {T : Type 0} (beyond : Type 0) (e : LogError) (r : Result T LogError) → IsErrAnd r (λ f. f ≡ e)
    → IsNoFault ⊥ e → IfErr r (IsNoFault beyond)
err_no_fault beyond e r is none = err_same (IsNoFault beyond) e r is (no_fault_more beyond e none)

-- two checkpoints of one root and one length are equal
pub same_checkpoint : (r s : List ℕ) (m n : ℕ) → r ≡ s → m ≡ n → ((pointwise nat_eq r s && true) && (m == n)) ≡ true
same_checkpoint r s m n root length = rw ((bytes_decides r s).1 root, eq-eqb m n length) refl

-- what a slice has at a place within it
pub got : {X : Type 0} (r : Option (Bor X)) (x : X) → IsSome r → unwrap_or (option_map (λ (y : Bor X). y.now) r) x ≡ x
    → option_copied r ≡ Some x
got (Some y) x some is = ap (λ z. Some z) is
got None x some is = absurd (cc)

-- tiles that are the ones wanted have no fault
tile_none : (t : TileAt) → tile_fault t t ≡ None
tile_none t = rw (eq-eqb t.level t.level refl, eq-eqb t.number t.number refl, eq-eqb t.width t.width refl) refl

pub tiles_none : (wanted given : List TileAt) → given ≡ wanted → tiles_fault wanted given ≡ None
tiles_none wanted given is = rw is (same wanted)
  where
    same : (ts : List TileAt) → tiles_fault ts ts ≡ None
    same [] = refl
    same (t ∷ ts) = rw (tile_none t) (same ts)

pub places_of : {X : Type 0} (tile_of : X → TileAt) (digests_of : X → List (List ℕ)) (xs : List X)
    → map (λ (t : TileAt × List (List ℕ)). t.0) (map (λ x. (tile_of x, digests_of x)) xs) ≡ map tile_of xs
places_of tile_of digests_of [] = refl
places_of tile_of digests_of (x ∷ xs) = ap (λ (ts : List TileAt). tile_of x ∷ ts) (places_of tile_of digests_of xs)

-- an edge that isn't refused for its tiles is for memory
pub only_memory : {X : Type 0} (error : OpenError) → (◌≡◌ {A = Result X OpenError} (Err error) (Err open_error.Count)
    → ⊥) → (◌≡◌ {A = Result X OpenError} (Err error) (Err open_error.Place) → ⊥)
    → (◌≡◌ {A = Result X OpenError} (Err error) (Err open_error.Width) → ⊥) → error ≡ open_error.Memory
only_memory open_error.Count count place width = absurd (count refl)
only_memory open_error.Place count place width = absurd (place refl)
only_memory open_error.Width count place width = absurd (width refl)
only_memory open_error.Memory count place width = refl

-- a bundle of the log has as many entries as it is wide
pub bundle_count : (log : LogOf) (t : TileAt) (es : List (List ℕ)) → IsBundleIn log t
    → bundle_of es ≡ bundle_bytes log t → length es ≡ t.width
bundle_count log t es is same =
    let behind = drop (256 * t.number) log.entries in
    ap length (bundle_same es (take t.width behind) same) ∙ length-take-le t.width behind
    (omega (arith, length-drop (256 * t.number) log.entries, bundle_inside t is.level is.exists))

-- a text that says something has no fault, but that memory is refused
pub text_no_fault : (said : Said) (behind : Option (List ℕ)) (bytes : List ℕ) (error : CheckpointTextError)
    → CanBeSaid said → bytes ≡ text_before said behind → IsFirstFault bytes error → error ≡ text.Memory
text_no_fault said behind bytes text.Origin can is fault = absurd (fault (said.origin, _, can.origin, is))
text_no_fault said behind bytes text.Length can is fault =
    absurd (fault.1 (said.origin, said.length, _, can.origin, can.length, is))
text_no_fault said behind bytes text.Root can is fault =
    absurd (fault.1 (said.origin, said.length, said.root, _, can.origin, can.length, can.root, is))
text_no_fault said behind bytes text.Extension can is fault = absurd (fault.1 (said, behind, can, is))
text_no_fault said behind bytes text.Memory can is fault = refl

-- a log that continues another and has no more entries is that one
pub extends_same : (first log : LogOf) → Extends first log → length log.entries ≤ length first.entries → log ≡ first
extends_same first log extends short =
    sym (same_length first log extends (omega (arith, short, extends_length extends)))

-- the text of a commit that stands is that of the log once the folder has been opened
pub mark_fits : (served log : LogOf) (files : Files) (text : List ℕ) → files mark ≡ Some text
    → HasLog served log (opened files) → length text ≤ 2 ^ 20
mark_fits served log files text stands has = by_state has (ap (λ (o : Option (List ℕ)). opened_by o files state) stands)
  where
    by_state : HasLog served log (opened files) → opened files state ≡ Some text → length text ≤ 2 ^ 20
    by_state (inl keeps) is = omega (arith, ap length (one_value is keeps.state), keeps.can.text)
    by_state (inr (same, none, serves)) is = absurd (no_value none is)

-- who has a log serves one
pub has_serves : (served log : LogOf) (files : Files) → HasLog served log files → Serves served files
has_serves served log files (inl keeps) = keeps.serves
has_serves served log files (inr (same, none, serves)) = rw same serves

-- what is served is older than the log, or the log
pub served_is : (first log : LogOf) (files : Files) → Keeps first log files
    → (length first.entries < length log.entries) ⊎ (log ≡ first)
served_is first log files keeps = elim (cases_lt (length first.entries) (length log.entries)) [
  | inl older ↦ inl older
  | inr whole ↦ inr (extends_same first log keeps.begins whole)
]

-- a checkpoint is known by its root and its length
pub same_said : (c : RootAndLength) (said : Said) → c.root ≡ said.root → c.length ≡ said.length
    → c ≡ checkpoint_said said
same_said c said root length = λ i. record { root = root i; length = length i }

-- What stands at each moment of a commit: one of the logs is served, and the state is one's.
pub one_serves : (served old next : LogOf) (files : Files) → IsOneOf served old next files → (log : LogOf) × Serves log
    files
one_serves served old next files one = ⊎_elim (λ is. (served, is.serves)) (λ is. (next, is.serves)) one.read

pub one_state : (served old next : LogOf) (files : Files) → IsOneOf served old next files → (log : LogOf) × HasState
    log files
one_state served old next files one = ⊎_elim (λ is. (old, is)) (λ is. (next, is)) one.state

-- where no commit stands, the folder keeps one
one_kept : (served old next : LogOf) (files : Files) → IsOneOf served old next files → files mark ≡ None
    → (first log : LogOf) × Keeps first log files
one_kept served old next files one none = ⊎_elim (λ keeps. (served, old, kept served old keeps))
    (λ (first, which, keeps). (first, next, kept first next keeps)) one.opened
  where
    kept : (first log : LogOf) → Keeps first log (opened files) → Keeps first log files
    kept first log keeps = keeps_beside files (λ n isnt. sym (opened_idle files n none isnt)) keeps

-- so the state that was read is a log's, which the folder keeps where no commit stands
pub one_newest : (served old next : LogOf) (files now : Files) (said : Said) → now ≡ files → IsOneOf served old next
    files → ((log : LogOf) → HasState log files → said ≡ said_of log)
    → (first log : LogOf) × (now mark ≡ None → Keeps first log now) × (said ≡ said_of log)
one_newest served old next files now said same one says = by_mark (files mark) refl
  where
    by_mark : (o : Option (List ℕ)) → files mark ≡ o → (first log : LogOf) × (now mark ≡ None → Keeps first log now)
        × (said ≡ said_of log)
    by_mark None none =
        let kept = one_kept served old next files one none in (
          kept.0,
          kept.1,
          λ idle. rw same kept.2,
          says kept.1 (record { can = kept.2.can; text = kept.2.state }),
        )
    by_mark (Some text) stands =
        let is = one_state served old next files one in (
          is.0,
          is.0,
          λ idle. absurd (no_value idle (rw (← same) at stands)),
          says is.0 is.1,
        )
