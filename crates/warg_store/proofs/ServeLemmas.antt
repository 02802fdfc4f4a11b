-- Files between two states.
use Rattle.std.proofs.Common.{◌≡◌, ℕ, List, true, false, Option, None, refl, sym, ap, ◌∙◌}
use Rattle.std.specs.Option.{option_or}
use Rattle.warg_folder.specs.Files.{Files, put}
use Rattle.warg_folder.specs.Names.{mark, staged, is_staged, is_own, is_served}
use Rattle.warg_folder.specs.Commits.{opened, committed, opened_by}
use Rattle.warg_folder.proofs.ForCallers.{not_staged, served_not_own, mark_not_staged_file, put_apart, without_at, opened_served, unmarked}

-- where no commit stands, files stand for themselves
pub opened_idle : (s : Files) (n : List ℕ) → s mark ≡ None → is_staged n ≡ false → opened s n ≡ s n
opened_idle s n none isnt = ap (λ (o : Option (List ℕ)). opened_by o s n) none ∙ without_at s n isnt

pub idle_same : (s : Files) (n : List ℕ) → s mark ≡ None → is_own n ≡ false → opened s n ≡ s n
idle_same s n none out = opened_idle s n none (not_staged n out)

-- what stands at a served name once a commit stands
pub committed_served : (s : Files) (text n : List ℕ) → is_served n ≡ true → committed text s n
    ≡ option_or (s (staged n)) (s n)
committed_served s text n is =
    opened_served (put (mark, text) s) text n refl is ∙ ap (λ (o : Option (List ℕ)). option_or o (put (mark, text) s n))
    (put_apart (mark, text) s (staged n) (λ here. mark_not_staged_file n is (sym here)))
    ∙ ap (λ (o : Option (List ℕ)). option_or (s (staged n)) o) (unmarked s text n (served_not_own n is))
