-- What is known of a disk: nothing. These stand where a device's clauses name what it has.
use Rattle.std.specs.Prelude.{◌≡◌, ◌≤◌, ℕ, None, refl}
use Rattle.warg_folder.specs.Files.{Files}

-- No file.
abbrev pub nothing : Files
nothing = λ n. None

-- No file, and nothing else.
abbrev pub OnlyNothing : Files → Type 0
OnlyNothing c = c ≡ nothing

-- The same since any moment.
abbrev pub NothingSince : ℕ → Files → Type 0
NothingSince t c = c ≡ nothing

-- what is found may stay
pub nothing_stays : OnlyNothing nothing
nothing_stays = refl

-- now is since any moment
pub nothing_counts : (t : ℕ) (c : Files) → t ≤ 0 → OnlyNothing c → NothingSince t c
nothing_counts t c le now = now

-- since now there is no other moment
pub nothing_now : (c : Files) → NothingSince 0 c → OnlyNothing c
nothing_now c left = left
