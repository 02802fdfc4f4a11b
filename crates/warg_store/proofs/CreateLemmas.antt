-- A log of no entries, made in a folder that has none.
use Rattle.std.proofs.Common.{◌≡◌, ◌≢◌, ℕ, List, [], map, Option, Some, None, IsSome, true, false, if◌then◌else◌, refl, sym, ap, ◌∙◌, arith, string_bytes}
use Rattle.std.specs.List.{All, Contains}
use Rattle.std.proofs.lemmas.List.Elements.{All-contains, All-map}
use Rattle.std.specs.declared.string.String.{String}
use Rattle.std.specs.declared.alloc.Global.{Global}
use Rattle.warg_crypto.specs.Digests.{sha256}
use Rattle.warg_tiles.specs.TileLog.{RightEdge, StandsFor}
use Rattle.warg_tiles.specs.EntryBundles.{bundle_of}
use Rattle.warg_folder.specs.Files.{File, Files, put}
use Rattle.warg_folder.specs.Moments.{Only}
use Rattle.warg_folder.specs.Names.{checkpoint, state, mark, staged, is_staged, page_name}
use Rattle.warg_folder.specs.Commits.{is_signed, opened_by, committed, finished, published, told, IsStaging, NothingStaged}
use Rattle.warg_store.specs.Opening.{HasNoLogFile}
use Rattle.warg_store.specs.Log.{CanBeKept, said_of, checkpoint_of, Keeps, HasFiles, no_entries_with}
use Rattle.warg_store.specs.Growing.{Has}
use Rattle.warg_folder.proofs.ForCallers.{put_here, unsigned_is, without_at, told_checkpoint, unmarked}
use Rattle.warg_store.proofs.LeadLemmas.{no_tile, extends_self, own_pages}
use Rattle.warg_store.proofs.GrowingLemmas.{none_staged}

-- a folder without files of a log, once a crash leaves what is seen
pub settled : (before mid now : Files) (may : Files → Type 0) → HasNoLogFile before → mid ≡ before → now ≡ mid
    → Only mid may → IsStaging now may
settled before mid now may fresh same kept only c left = record {
  outside = λ n isnt. rw (only c left, kept) refl;
  no_mark = rw (only c left, same) (fresh mark refl);
}

-- a name that is listed nowhere has no file
pub absent : (s : Files) (names : List (String Global)) (n : List ℕ)
    → ((m : List ℕ) → IsSome (s m) → Contains (map (λ name. string_bytes name) names) m)
    → All (λ name. string_bytes name ≢ n) names → s n ≡ None
absent s names n listed others = at (s n) refl
  where
    at : (o : Option (List ℕ)) → s n ≡ o → s n ≡ None
    at None e = e
    at (Some bytes) e =
        absurd (All-contains (λ m. m ≢ n) (map (λ name. string_bytes name) names) n
        (All-map (λ m. m ≢ n) (λ name. string_bytes name) names others) (listed n (rw e refl)) refl)

-- it has no page
no_page : {P : Type 0} (origin : List ℕ) (lines : List (List ℕ)) (f : File)
    → Contains (no_entries_with origin lines).pages f → P
no_page origin lines f (k, low, is) = absurd (omega arith)

-- What a commit of its text makes of a folder without a checkpoint.
module _ (origin : List ℕ) (lines : List (List ℕ)) (named : CanBeKept (no_entries_with origin lines))
    (s : Files) (none : s checkpoint ≡ None) where
  abbrev text : List ℕ
  text = checkpoint_of (no_entries_with origin lines)

  abbrev marked : Files
  marked = put (mark, text) s

  at_own : (n : List ℕ) → is_staged n ≡ false → committed text s n ≡ told text (published marked) n
  at_own n isnt = ap (λ (o : Option (List ℕ)). opened_by o marked n) (put_here (mark, text) s)
      ∙ without_at (finished text marked) n isnt

  no_files : HasFiles (no_entries_with origin lines) (committed text s)
  no_files = record {
    tile = λ t is. absurd (no_tile t is.exists);
    bundle = λ t is. absurd (no_tile t is.exists);
    page = λ f is. no_page origin lines f is;
  }

  pub created : Keeps (no_entries_with origin lines) (no_entries_with origin lines)
      (committed (checkpoint_of (no_entries_with origin lines)) s)
  created = record {
    can = named;
    state = at_own state refl ∙ put_here (state, text) (published marked);
    holds = no_files;
    serves = record {
      can = named;
      checkpoint = (
        None,
        at_own checkpoint refl ∙ told_checkpoint text (published marked)
            ∙ ap (λ o. if is_signed o then o else Some text) (unmarked s text checkpoint refl ∙ none)
            ∙ ap (λ b. if b then None else Some text) (sym (unsigned_is None refl)),
      );
      holds = no_files;
    };
    begins = extends_self (no_entries_with origin lines);
    newest = λ _. refl;
  }

-- a new log has no entries
pub has_none : {F : Type 0} (seen : F → Files) (may_leave : F → Files → Type 0) (origin : List ℕ)
    (lines : List (List ℕ)) (folder : F) (edge : RightEdge)
    → edge ≡ record { len = 0; taken = 0; digests = []; full = [] } → StandsFor sha256 edge []
    → Keeps (no_entries_with origin lines) (no_entries_with origin lines) (seen folder) → NothingStaged (seen folder)
    → IsStaging (seen folder) (may_leave folder)
    → Has seen may_leave (no_entries_with origin lines) (no_entries_with origin lines) (no_entries_with origin lines)
    (record {
      folder = folder;
      text = said_of (no_entries_with origin lines);
      is_open = true;
      edge = edge;
      bundle = [];
      held = 0;
    })
unfolding bundle_of
has_none seen may_leave origin lines folder edge is stands keeps nothing staging =
    let len : edge.len ≡ 0 = ap (λ (e : RightEdge). e.len) is in
    let taken : edge.taken ≡ 0 = ap (λ (e : RightEdge). e.taken) is in
    record {
      is_open = refl;
      keeps = keeps;
      extends = extends_self (no_entries_with origin lines);
      short = tt;
      text = refl;
      edge = stands;
      since = omega arith;
      order = omega (arith, len, taken);
      held = omega (arith, len, taken);
      most = omega arith;
      bundle = rw taken refl;
      staged = none_staged (no_entries_with origin lines) (seen folder) taken nothing;
      pages = own_pages (λ path. nothing (staged (page_name path)) refl);
      staging = staging;
    }
