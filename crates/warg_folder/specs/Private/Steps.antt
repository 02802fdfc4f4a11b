-- What a crash leaves within a commit.
use Rattle.std.specs.Prelude.{◌≡◌, ◌⊎◌, ℕ, List, true, false, None, IsSome}
use Rattle.warg_folder.specs.Files.{Files, put}
use Rattle.warg_folder.specs.Names.{state, mark, staged, is_staged, is_served}
use Rattle.warg_folder.specs.Commits.{told}

-- Some staged files are gone. While a commit's text is there, none of its files is staged any more.
pub record IsRemoving (s c : Files) : Type 0 where
  pub outside : (n : List ℕ) → is_staged n ≡ false → c n ≡ s n
  pub mark : (c mark ≡ None) ⊎ ((c mark ≡ s mark) × ((n : List ℕ) → is_served n ≡ true → c (staged n) ≡ None))

-- Each staged file of a commit is where it was or at its name.
pub record IsMoving (s c : Files) : Type 0 where
  pub outside : (n : List ℕ) → is_staged n ≡ false → is_served n ≡ false → c n ≡ s n
  pub mark : c mark ≡ s mark
  pub each : (n : List ℕ) → is_served n ≡ true → ((c n ≡ s n) × (c (staged n) ≡ s (staged n)))
      ⊎ ((c n ≡ s (staged n)) × (c (staged n) ≡ None) × IsSome (s (staged n)))

-- The text is put as the state, or as the state and the checkpoint, or not at all.
abbrev pub IsPut : List ℕ → Files → Files → Type 0
IsPut text s c = (c ≡ s) ⊎ (c ≡ put (state, text) s) ⊎ (c ≡ told text s)
