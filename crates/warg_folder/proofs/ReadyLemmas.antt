-- A folder that is ready for the next commit.
use Rattle.std.proofs.Common.{◌≡◌, ℕ, true, List, Option, Some, None, Result, refl}
use Rattle.std.specs.Prelude.{OnOk, Ok, Err}
use Rattle.warg_folder.specs.Files.{Files}
use Rattle.warg_folder.specs.Moments.{Only}
use Rattle.warg_folder.specs.Names.{mark, is_staged}
use Rattle.warg_folder.specs.Commits.{opened_by, opened, IsStaging, NothingStaged}

opened_mark : (s : Files) (o : Option (List ℕ)) → opened_by o s mark ≡ None
opened_mark s None = refl
opened_mark s (Some text) = refl

opened_staged : (s : Files) (o : Option (List ℕ)) (n : List ℕ) → is_staged n ≡ true → opened_by o s n ≡ None
opened_staged s None n is = rw is refl
opened_staged s (Some text) n is = rw is refl

pub ready : {T E : Type 0} (r : Result T E) (s t : Files) (may : Files → Type 0) → OnOk r (t ≡ opened s)
    → OnOk r (Only t may) → OnOk r (IsStaging t may)
ready (Ok v) s t may is only =
    λ c left. rw (only c left, is) (record { outside = λ n isnt. refl; no_mark = opened_mark s (s mark) })
ready (Err e) s t may is only = is

-- nothing is staged once a folder has been opened, or what was staged is dropped
pub opened_empty : {T E : Type 0} (r : Result T E) (s t : Files) → OnOk r (t ≡ opened s) → OnOk r (NothingStaged t)
opened_empty (Ok v) s t is = rw is (opened_staged s (s mark))
opened_empty (Err e) s t is = is
