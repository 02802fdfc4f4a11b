-- Files that are staged one after the other.
use Rattle.std.proofs.Common.{◌≡◌, ◌≢◌, ◌⊎◌, inl, inr, ⊎_elim, ℕ, ◌+◌, ◌<◌, ◌≤◌, List, [], ◌∷◌, ◌++◌, length, take, map, get_or, nat_le, false, Some, IsSome, refl, sym, ap, ◌∙◌, subst, arith}
use Rattle.std.specs.List.{AllByRecursion, flat_map}
use Rattle.std.proofs.lemmas.Bool.{cases_Bool, le-leb, lt-leb}
use Rattle.warg_tiles.specs.Tiles.{TileAt, tile_end}
use Rattle.warg_tiles.specs.TilePaths.{tile_path}
use Rattle.warg_tiles.specs.TileData.{Tiles}
use Rattle.warg_folder.specs.Files.{File, Files, put, IsNameOf}
use Rattle.warg_folder.specs.Names.{staged, is_staged}
use Rattle.warg_folder.specs.Commits.{IsBeside}
use Rattle.warg_store.specs.Log.{LogOf, tile_bytes}
use Rattle.warg_store.specs.Staged.{staged_all, new_files}
use Rattle.warg_store.proofs.ListLemmas.{next_mapped}
use Rattle.warg_folder.proofs.ForCallers.{one_name, apart, staged_once, put_here, put_apart}

-- the tiles of these digests
abbrev pub tiles_of : Tiles → List TileAt
tiles_of tiles = map (λ (x : TileAt × List (List ℕ)). x.0) tiles

-- tiles with the bytes of a log's, of each of which R holds
abbrev pub AreFilesOf : LogOf → (TileAt → Type 0) → Tiles → Type 0
AreFilesOf log R tiles = AllByRecursion
    (λ (x : TileAt × List (List ℕ)). R x.0 × (flat_map (λ digest. digest) x.1 ≡ tile_bytes log x.0)) tiles

-- what a file that is staged changes at another staged name, and at one that isn't staged: nothing
pub put_beside : (f : File) (s : Files) (n : List ℕ) → f.0 ≢ n → put (staged f.0, f.1) s (staged n) ≡ s (staged n)
put_beside f s n differ = put_apart (staged f.0, f.1) s (staged n) (λ e. differ (staged_once f.0 n e))

pub put_outside : (f : File) (s : Files) (n : List ℕ) → is_staged n ≡ false → put (staged f.0, f.1) s n ≡ s n
put_outside f s n isnt = put_apart (staged f.0, f.1) s n (λ e. apart (ap is_staged e ∙ isnt))

pub staged_all-append : (fs gs : List File) (s : Files) → staged_all (fs ++ gs) s ≡ staged_all gs (staged_all fs s)
staged_all-append [] gs s = refl
staged_all-append (f ∷ fs) gs s = staged_all-append fs gs (put (staged f.0, f.1) s)

new_files-append : (older : ℕ) (xs ys : Tiles) → new_files older (xs ++ ys) ≡ new_files older xs ++ new_files older ys
new_files-append older [] ys = refl
new_files-append older (t ∷ ts) ys = elim (cases_Bool (nat_le (tile_end t.0) older)) [
  | inl old ↦ rw old (new_files-append older ts ys)
  | inr new ↦ rw new (ap (λ (fs : List File). (tile_path t.0, flat_map (λ digest. digest) t.1) ∷ fs)
      (new_files-append older ts ys))
]

-- one tile more
pub one_more : (X : Type 0) (tile : X → TileAt × List (List ℕ)) (older : ℕ) (xs : List X) (i : ℕ) (x : X)
    → i < length xs → x ≡ get_or xs i x → (s now new : Files)
    → now ≡ staged_all (new_files older (map tile (take i xs))) s → new ≡ staged_all (new_files older (tile x ∷ [])) now
    → new ≡ staged_all (new_files older (map tile (take (i + 1) xs))) s
one_more X tile older xs i x below is s now new so_far more =
    more ∙ ap (staged_all (new_files older (tile x ∷ []))) so_far
    ∙ sym (ap (λ (fs : List File). staged_all fs s)
    (ap (new_files older) (next_mapped tile xs i x below is)
    ∙ new_files-append older (map tile (take i xs)) (tile x ∷ []))
    ∙ staged_all-append (new_files older (map tile (take i xs))) (new_files older (tile x ∷ [])) s)

-- a tile that the older log has isn't staged, and one that it hasn't is
pub old_tile : (older : ℕ) (t : TileAt × List (List ℕ)) (s : Files) → tile_end t.0 ≤ older
    → s ≡ staged_all (new_files older (t ∷ [])) s
old_tile older t s old = rw (le-leb (tile_end t.0) older old) refl

pub new_tile : (older : ℕ) (t : TileAt × List (List ℕ)) (s : Files) → (tile_end t.0 ≤ older → ⊥)
    → put (staged (tile_path t.0), flat_map (λ digest. digest) t.1) s ≡ staged_all (new_files older (t ∷ [])) s
new_tile older t s new = rw (lt-leb (tile_end t.0) older (omega (arith, new))) refl

-- nothing but staged names changes
pub staged_outside : (fs : List File) (s : Files) (n : List ℕ) → is_staged n ≡ false → staged_all fs s n ≡ s n
staged_outside [] s n isnt = refl
staged_outside (f ∷ fs) s n isnt = staged_outside fs (put (staged f.0, f.1) s) n isnt ∙ put_outside f s n isnt

-- a file that is among them stands where it is staged
pub staged_there : (fs : List File) (s : Files) (n b : List ℕ) → AllByRecursion (λ f. f.0 ≡ n → f.1 ≡ b) fs
    → IsNameOf fs n ⊎ (s (staged n) ≡ Some b) → staged_all fs s (staged n) ≡ Some b
staged_there [] s n b same at = ⊎_elim (λ none. absurd none) (λ e. e) at
staged_there (f ∷ fs) s n b same at = staged_there fs (put (staged f.0, f.1) s) n b same.1 (elim (one_name f.0 n) [
  | inl here ↦ inr (subst (λ (m : List ℕ). put (staged f.0, f.1) s (staged m) ≡ Some b) here.1
      (put_here (staged f.0, f.1) s ∙ ap (λ (c : List ℕ). Some c) (same.0 here.1)))
  | inr other ↦ ⊎_elim (⊎_elim (λ e. absurd (other.1 e)) (λ rest. inl rest))
      (λ e. inr (put_beside f s n other.1 ∙ e)) at
])

-- what is staged is one of them, or was staged before
pub staged_from : (P : File → Type 0) (fs : List File) (s : Files) (n : List ℕ) → AllByRecursion P fs
    → IsSome (staged_all fs s (staged n)) → IsSome (s (staged n)) ⊎ ((f : File) × P f × (f.0 ≡ n))
staged_from P [] s n each some = inl some
staged_from P (f ∷ fs) s n each some = elim (staged_from P fs (put (staged f.0, f.1) s) n each.1 some) [
  | inl here ↦ elim (one_name f.0 n) [
    | inl same ↦ inr (f, each.0, same.1)
    | inr other ↦ inl (rw (put_beside f s n other.1) at here)
  ]
  | inr later ↦ inr later
]

pub beside_back : (s m e : Files) → ((n : List ℕ) → is_staged n ≡ false → m n ≡ s n) → IsBeside m e → IsBeside s e
beside_back s m e same was = record { outside = λ n isnt. was.outside n isnt ∙ same n isnt; no_mark = was.no_mark }
