-- Refusals that are passed on.
use Rattle.std.proofs.Common.{◌≡◌, Result, Ok, Err, IfOk, IfErr}
use Rattle.std.specs.Result.{IsErrAnd}
use Rattle.warg_pages.specs.declared.error.WayError.{WayError}
use Rattle.warg_pages.specs.declared.error.WayError.TheVariants.{BadPage, WrongDigest, WrongLoneKey, Memory}
use Rattle.warg_pages.specs.declared.error.ProveError.{ProveError}
use Rattle.warg_pages.specs.declared.error.ProveError.TheVariants.{Pages, Way}
use Rattle.warg_pages.specs.Refusals.{IsMemoryUnless, IsOfSourceUnless}

pub err_and : {X E : Type 0} (r : Result X E) (P Q : E → Type 0) → IsErrAnd r P → ((e : E) → P e → Q e) → IfErr r Q
err_and (Ok x) P Q h f = tt
err_and (Err e) P Q h f = f e h

pub if_ok : {X E : Type 0} (r : Result X E) (P Q : X → Type 0) → IfOk r P → ((x : X) → P x → Q x) → IfOk r Q
if_ok (Ok x) P Q h f = f x h
if_ok _ P Q h f = tt

pub if_ok_both : {X E : Type 0} (r : Result X E) (P Q R : X → Type 0) → IfOk r P → IfOk r Q
    → ((x : X) → P x → Q x → R x) → IfOk r R
if_ok_both (Ok x) P Q R h i f = f x h i
if_ok_both _ P Q R h i f = tt

pub if_err : {X E : Type 0} (r : Result X E) (P Q : E → Type 0) → IfErr r P → ((e : E) → P e → Q e) → IfErr r Q
if_err (Ok x) P Q h f = tt
if_err (Err e) P Q h f = f e h

pub of_memory : {P Q : Type 0} (w : WayError) → (P → Q) → IsMemoryUnless P w → IsMemoryUnless Q w
of_memory BadPage f h = f h
of_memory WrongDigest f h = f h
of_memory WrongLoneKey f h = f h
of_memory Memory f h = tt

pub of_source : {E P Q : Type 0} (e : ProveError E) → (P → Q) → IsOfSourceUnless P e → IsOfSourceUnless Q e
of_source (Pages e) f h = tt
of_source (Way w) f h = of_memory w f h

-- as a refusal of another type
pub way_refused : {X E P Q : Type 0} (r : Result X (ProveError E)) (w : WayError) → IsErrAnd r (λ e. e ≡ Way w)
    → (P → Q) → IsMemoryUnless P w → IfErr r (IsOfSourceUnless {E = E} Q)
way_refused {E = E} {Q = Q} r w is f h = err_and r _ _ is
    (λ e same. rw same (of_memory w f h))

pub source_refused : {X E P Q : Type 0} (r : Result X (ProveError E)) (given : ProveError E)
    → IsErrAnd r (λ e. e ≡ given) → (P → Q) → IsOfSourceUnless P given → IfErr r (IsOfSourceUnless {E = E} Q)
source_refused {E = E} {Q = Q} r given is f h = err_and r _ _ is
    (λ e same. rw same (of_source given f h))
