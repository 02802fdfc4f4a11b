-- The pages after insertions are those that changed, with the rest.
use Rattle.std.proofs.Common.{◌≡◌, ℕ, ◌≤◌, Bool, List, ◌++◌, length, Option, Some, None, refl, arith}
use Rattle.warg_map.specs.Last.{last_with}
use Rattle.warg_pages.specs.Prefixes.{is_below, version}
use Rattle.warg_pages.proofs.LastPassing.{place_some, last_place-later}

-- where the version is an old one, nothing new is below
pub nothing_new : (H : List ℕ → List ℕ) (old more : List (List ℕ × List ℕ)) (p : List Bool)
    → version H (old ++ more) p ≤ length old → last_with (is_below H p) more ≡ None
nothing_new H old more p le = by_last _ refl
  where
    by_last : (o : Option (List ℕ × List ℕ)) → last_with (is_below H p) more ≡ o → o ≡ None
    by_last None h = refl
    by_last (Some e) h = absurd (let later = last_place-later _ old more e h in
        let some = place_some _ more e h in omega arith)
