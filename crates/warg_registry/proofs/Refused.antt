-- What a result says, and an error.
use Rattle.std.proofs.Common.{◌≡◌, ℕ, ◌<◌, List, length, map, get_or, Option, Some, Result, Ok, Err, IfOk, IfErr, refl, ap, arith}
use Rattle.std.proofs.lemmas.List.{get_or-map, length-map}
use Rattle.std.proofs.lemmas.List.Elements.{All-from_recursion}
use Rattle.std.specs.Prelude.{IsErrOf}
use Rattle.std.specs.Result.{IsErrAnd}
use Rattle.warg_folder.specs.Moments.{HasCauseOf}
use Rattle.warg_pages.specs.Refusals.{IsOfSourceUnless}
use Rattle.warg_pages.specs.declared.error.ProveError.{ProveError}
use Rattle.warg_pages.specs.declared.error.ProveError.TheVariants.{Pages, Way}
use Rattle.warg_pages.specs.declared.error.WayError.TheVariants.{BadPage, WrongDigest, WrongLoneKey, Memory}
use Rattle.warg_store.specs.Log.{AreShort}
use Rattle.warg_store.specs.Refusals.{IsNoFault}
use Rattle.warg_store.specs.declared.error.LogError.{LogError}
use Rattle.warg_store.specs.declared.error.LogError.TheVariants.{NoLog, Damaged, RolledBack, OutOfRange, Folder}
use Rattle.warg_store.specs.declared.log_folder.CommitError.{CommitError}
use Rattle.warg_store.specs.declared.log_folder.CommitError.TheVariants as commit
use Rattle.warg_store.specs.declared.log_folder.PushError.{PushError}
use Rattle.warg_store.specs.declared.log_folder.PushError.TheVariants as push
use Rattle.warg_registry.specs.Publishing.{IsRefusedFor, of_push, of_commit}
use Rattle.warg_registry.specs.Sources.{IsFailureTold}
use Rattle.warg_registry.specs.declared.error.PublishError.{PublishError}
use Rattle.warg_registry.specs.declared.error.PublishError.TheVariants as publish
use Rattle.warg_registry.specs.declared.error.ReadFault.{ReadFault}
use Rattle.warg_registry.specs.declared.error.ReadFault.TheVariants.{DeviceFailed}

-- a refusal that is told by an error
pub told_as : {T E : Type 0} (P : E → Type 0) (error : E) (r : Result T E) → IsErrAnd r (λ e. e ≡ error) → P error
    → IfErr r P
told_as P error (Ok x) is holds = tt
told_as P error (Err e) is holds = rw is holds

-- and that error, if it is this one
pub told_by : {T U E : Type 0} {told error : E} (r : Result T E) → IsErrAnd r (λ e. e ≡ error) → IsErrOf r told
    → IsErrOf {T = U} (Err error) told
told_by (Ok x) holds is = absurd holds
told_by (Err e) holds is = cc

-- what follows of the value, if there is one
pub ok_then : {T E : Type 0} (P Q : T → Type 0) (r : Result T E) → ((v : T) → P v → Q v) → IfOk r P → IfOk r Q
ok_then P Q (Ok v) follows holds = follows v holds
ok_then P Q (Err e) follows holds = tt

-- a refusal that is no fault, where what was asked for isn't beyond the log
pub not_beyond : (P : Type 0) (error : LogError) → (P → ⊥) → IsNoFault P error → IsNoFault ⊥ error
not_beyond P NoLog never h = h
not_beyond P (Damaged damage) never h = h
not_beyond P (RolledBack found newest) never h = h
not_beyond P (OutOfRange bound) never h = never h
not_beyond P (Folder cause) never h = h

-- a refusal of pages that would be a fault of them, where they have none
pub not_of_pages : {E : Type 0} (P : Type 0) (error : ProveError E) → (P → ⊥) → IsOfSourceUnless P error
    → IsOfSourceUnless ⊥ error
not_of_pages P (Pages e) never h = tt
not_of_pages P (Way Memory) never h = tt
not_of_pages P (Way BadPage) never h = never h
not_of_pages P (Way WrongDigest) never h = never h
not_of_pages P (Way WrongLoneKey) never h = never h

-- what pages led to follows from what is returned for it
pub ok_led : {T D E : Type 0} {P Q : T → Type 0} (r : Result T E) (led : Result T D) → IfOk r (λ v. led ≡ Ok v)
    → IfOk led P → ((v : T) → P v → Q v) → IfOk r Q
ok_led {P = P} (Ok v) led is holds follows = follows v (rw is at holds)
ok_led (Err e) led is holds follows = tt

-- and they are at fault for nothing, where they have none
pub none_led : {T E P : Type 0} (led : Result T (ProveError E)) → IfErr led (IsOfSourceUnless P) → (P → ⊥)
    → IfErr led (IsOfSourceUnless ⊥)
none_led (Ok v) h never = tt
none_led {P = P} (Err e) h never = not_of_pages P e never h

-- the cause of a refusal that is the pages' last fault, where they were read
pub cause_of_pages : {T E : Type 0} {told : E} {IsFaithful : Type 0} {before now : ℕ} {fault : Option ReadFault}
    {r : Result T E} → IsFailureTold IsFaithful before now fault → (IsErrOf r told → fault ≡ Some DeviceFailed)
    → HasCauseOf told IsFaithful before now r
cause_of_pages was tells = record {
  later = was.later;
  failed = λ faithful is. was.failed faithful (tells is);
}

-- a push that is refused, by what each refusal says
pub push_refused : (long full : Type 0) (error : PushError) → (error ≡ push.TooLong → long)
    → (error ≡ push.Full → full) → (error ≡ push.Closed → ⊥) → IsRefusedFor long full (of_push error)
push_refused long full push.TooLong is_long is_full is_closed = is_long refl
push_refused long full push.Full is_long is_full is_closed = is_full refl
push_refused long full push.Closed is_long is_full is_closed = is_closed refl
push_refused long full (push.Folder cause) is_long is_full is_closed = tt

-- a commit that is refused
pub commit_refused : (long full : Type 0) (error : CommitError) → (error ≡ commit.TooLong → full)
    → (error ≡ commit.Closed → ⊥) → IsRefusedFor long full (of_commit error)
commit_refused long full commit.Memory is_full is_closed = tt
commit_refused long full commit.TooLong is_full is_closed = is_full refl
commit_refused long full commit.Closed is_full is_closed = is_closed refl
commit_refused long full (commit.Folder cause) is_full is_closed = tt

-- what is refused for less is refused
pub refused_for : (long full more_long more_full : Type 0) (error : PublishError) → (long → more_long)
    → (full → more_full) → IsRefusedFor long full error → IsRefusedFor more_long more_full error
refused_for long full more_long more_full publish.TooLong longer fuller h = longer h
refused_for long full more_long more_full publish.Full longer fuller h = fuller h
refused_for long full more_long more_full publish.Closed longer fuller h = h
refused_for long full more_long more_full (publish.Log error) longer fuller h = h

-- of short entries none is long
pub none_long : {X : Type 0} (f : X → List ℕ) (xs : List X) (i : ℕ) (x : X) → i < length xs → x ≡ get_or xs i x
    → 65535 < length (f x) → AreShort (map f xs) → ⊥
none_long f xs i x lt at long short =
    let here = All-from_recursion (λ (e : List ℕ). length e < 65536) (map f xs) short i (f x)
    (omega (arith, length-map xs f, lt)) in
    omega (arith, here, ap length (get_or-map f xs i x (f x) lt), ap (λ y. length (f y)) at, long)
