-- A page that is put beside what was pushed.
use Rattle.std.proofs.Common.{◌≡◌, ◌≢◌, inl, inr, ⊎_elim, ℕ, zero, List, ◌∷◌, true, refl, sym, ap, ◌∙◌, arith}
use Rattle.warg_tiles.specs.TilePaths.{tile_path, entries_path}
use Rattle.warg_folder.specs.Files.{File, Files, put}
use Rattle.warg_folder.specs.Names.{staged, is_tile, page_name}
use Rattle.warg_folder.specs.Commits.{IsStaging}
use Rattle.warg_store.specs.Log.{LogOf, HasPage, ArePagesStaged}
use Rattle.warg_store.specs.Growing.{LogIn, Has, AreFullStaged, IsFresh, with_page}
use Rattle.warg_folder.proofs.ForCallers.{one_name, apart, page_once, put_here}
use Rattle.warg_store.proofs.PathLemmas.{no_page_a_tile, no_page_a_bundle}
use Rattle.warg_store.proofs.ListLemmas.{in_front, behind}
use Rattle.warg_store.proofs.LeadLemmas.{keeps_beside}
use Rattle.warg_store.proofs.StagedLemmas.{put_beside, put_outside}

module _ (path bytes : List ℕ) (s : Files) where
  abbrev with_file : Files
  with_file = put (staged (page_name path), bytes) s

  -- at another staged name nothing changes
  other_staged : (n : List ℕ) → page_name path ≢ n → with_file (staged n) ≡ s (staged n)
  other_staged n differ = put_beside (page_name path, bytes) s n differ

  no_tile : (n : List ℕ) → is_tile n ≡ true → page_name path ≢ n
  no_tile n is e = apart (sym is ∙ ap is_tile (sym e))

  tiles_stay : (older taken : ℕ) (log : LogOf) → AreFullStaged older taken log s
      → AreFullStaged older taken (with_page log (path, bytes)) with_file
  tiles_stay older taken log was = record {
    tile = λ t low is. other_staged (tile_path t) (λ e. no_page_a_tile t path (sym e)) ∙ was.tile t low is;
    bundle = λ t level is. other_staged (entries_path t) (λ e. no_page_a_bundle t path (sym e)) ∙ was.bundle t level is;
    nothing_else = λ n is some. was.nothing_else n is (rw (other_staged n (no_tile n is)) at some);
  }

  pages_grow : (served old next : List File) → (HasPage served path → ⊥) → (HasPage old path → ⊥)
      → (HasPage next path → ⊥) → ArePagesStaged served old next s
      → ArePagesStaged served old ((path, bytes) ∷ next) with_file
  pages_grow served old next no_served no_old no_next are = record {
    page = λ g has. ⊎_elim
        (λ same. inr (rw (← same) (no_old, no_served, put_here (staged (page_name path), bytes) s)))
        (λ rest. ⊎_elim (λ was. inl was)
        (λ new. inr (
          new.0,
          new.1,
          other_staged (page_name g.0) (λ e. no_next (g.1, rw (page_once path g.0 e) rest)) ∙ new.2,
        ))
        (are.page g rest))
        (in_front (path, bytes) g next has);
    nothing_else = λ other some. elim (one_name path other) [
      | inl here ↦ rw (← here.1) ((path, bytes), (zero, omega arith, refl), no_old, refl)
      | inr differ ↦
          let was = are.nothing_else other (rw
          (other_staged (page_name other) (λ e. differ.1 (page_once path other e))) at some) in
          (was.0, behind (path, bytes) was.0 next was.1, was.2, was.3)
    ];
  }

-- the log with the page has all else as before
pub page_has : {F : Type 0} (seen : F → Files) (may_leave : F → Files → Type 0) (served old next : LogOf)
    (l m : LogIn F)
    (path bytes : List ℕ) → IsFresh served old next path → m ≡ record l { folder = m.folder }
    → seen m.folder ≡ put (staged (page_name path), bytes) (seen l.folder)
    → IsStaging (seen m.folder) (may_leave m.folder)
    → Has seen may_leave served old next l → Has seen may_leave served old (with_page next (path, bytes)) m
page_has {F = F} seen may_leave served old next l m path bytes fresh same is staging has =
    rw same (record {
      is_open = has.is_open;
      keeps = rw is (keeps_beside _ (put_outside (page_name path, bytes) (seen l.folder)) has.keeps);
      extends = record {
        origin = has.extends.origin;
        entries = has.extends.entries;
        still = λ even. absurd (omega (arith, even, fresh.more));
      };
      short = has.short;
      text = has.text;
      edge = has.edge;
      since = has.since;
      order = has.order;
      held = has.held;
      most = has.most;
      bundle = has.bundle;
      staged = rw is (tiles_stay path bytes (seen l.folder) l.text.length l.edge.taken next has.staged);
      pages = rw is (pages_grow path bytes (seen l.folder) served.pages old.pages next.pages fresh.not_served
          fresh.not_kept fresh.not_next has.pages);
      staging = staging;
    })
