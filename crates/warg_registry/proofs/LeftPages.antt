-- The pages that pruning leaves.
use Rattle.std.proofs.Common.{◌≡◌, ⊎_elim, ◌⊎◌, ℕ, Bool, true, false, ◌||◌, List, None, refl, sym, ap, subst, ◌∙◌, string_bytes}
use Rattle.std.specs.Prelude.{IsSome}
use Rattle.std.specs.List.{All, Contains}
use Rattle.std.specs.declared.alloc.Global.{Global}
use Rattle.std.specs.declared.string.String.{String}
use Rattle.warg_folder.specs.Files.{Files}
use Rattle.warg_folder.specs.Names.{is_tile, is_page}
use Rattle.warg_tiles.specs.TilePaths.{tile_path}
use Rattle.warg_store.specs.Pruned.{full_of, IsSpare, IsPruned, IsWithoutPages}
use Rattle.warg_registry.specs.Pruning.{bytes_of}
use Rattle.warg_registry.proofs.Listed.{of_mapped}

or_second : (a b : Bool) → b ≡ true → (a || b) ≡ true
or_second true b e = refl
or_second false b e = e

-- the pages among these names are gone
abbrev pub ArePagesGone : Files → List (String Global) → Type 0
ArePagesGone files names = All (λ name. is_page (string_bytes name) ≡ true → files (string_bytes name) ≡ None) names

-- a page that was removed is gone
gone : (new : Files) (names : List (String Global)) (n : List ℕ) → ArePagesGone new names → is_page n ≡ true
    → Contains (bytes_of names) n → new n ≡ None
gone new names n removed page there =
    let found = of_mapped (λ (k : String Global). string_bytes k) names n there in
    let at = rw found.1.2 at (removed found.1.0 found.0 found.1.1) in
    rw found.2 at (at (rw found.2 page))

-- a page that is there stays while files are pruned
pub page_stays : (old new : Files) (kept served : ℕ) → IsPruned kept served old new → (n : List ℕ) → is_page n ≡ true
    → IsSome (old n) → IsSome (new n)
page_stays old new kept served prunes n page there = ⊎_elim
    (λ same. rw same there)
    (λ away. absurd (⊎_elim (λ (tile : (tile_path away.1.tile ≡ n) × (tile_path (full_of away.1.tile) ≡ away.1.full)).
    other (ap is_page tile.0)) (λ bundle. other (ap is_page bundle.1)) away.1.paths))
    (prunes n (or_second (is_tile n) (is_page n) page))
  where
    other : false ≡ is_page n → ⊥
    other e = let no : false ≡ true = e ∙ page in cc

-- what is spare is so in files that are the same
pub spare_in : (k m a b : ℕ) (s t : Files) (n : List ℕ) → k ≡ m → a ≡ b → t ≡ s → IsSpare k a s n → IsSpare m b t n
spare_in k m a b s t n kept served same spare =
    subst (λ (was : ℕ × ℕ × Files). IsSpare was.0 was.1 was.2 n) (λ i. (kept i, served i, sym same i)) spare

-- of a folder in which files are pruned and pages are removed, each page that is left was there, and wasn't to go
pub left : (before mid pruned new : Files) (names : List (String Global)) (kept served : ℕ) (P : List ℕ → Type 0)
    → mid ≡ before → IsPruned kept served mid pruned → IsWithoutPages (bytes_of names) pruned new
    → ArePagesGone new names
    → ((n : List ℕ) → is_page n ≡ true → IsSome (before n) → Contains (bytes_of names) n ⊎ P n)
    → (n : List ℕ) → is_page n ≡ true → IsSome (new n) → P n
left before mid pruned new names kept served P same prunes without removed spare n page there =
    ⊎_elim (λ stays. ⊎_elim (λ unchanged. was_there (stays ∙ unchanged ∙ ap (λ (s : Files). s n) same))
    (λ away. absurd (none (stays ∙ away.0))) (prunes n (or_second (is_tile n) (is_page n) page)))
    (λ away. absurd (none away.0)) (without n)
  where
    none : new n ≡ None → ⊥
    none e = let is : true ≡ false = sym (rw e at there) in cc

    was_there : new n ≡ before n → P n
    was_there e = ⊎_elim (λ named. absurd (none (gone new names n removed page named))) (λ needed. needed)
        (spare n page (rw e at there))
