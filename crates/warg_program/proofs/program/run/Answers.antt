use Rattle.std.proofs.Common.{◌≡◌, ◌≢◌, ◌∙◌, ℕ, List, Option, Result, None, Some, Ok, Err, false, refl, sym, ap}
use Rattle.std.specs.Option.{IfSome}
use Rattle.std.specs.Result.{OnOk, IsErr, IsErrAnd, is_err}
use Rattle.std.specs.Io.KnownBytes.{Appends, Keeps}
use Rattle.warg_program.specs.Words.{lines_of}
use Rattle.warg_program.specs.Text.{text_of, all_good, MeetsFull, HasText}
use Rattle.warg_program.specs.declared.program.RunError.{RunError}
use Rattle.warg_program.specs.declared.program.RunError.TheVariants.{Read, Write, Memory, Full}
use Rattle.warg_program.proofs.program.run.Goals as goal

kept_after : (old mid new : Option (List ℕ)) (bs : List ℕ) → Appends old mid bs → Keeps mid new → Appends old new bs
kept_after None mid new bs grown kept = tt
kept_after (Some xs) None new bs grown kept = absurd grown
kept_after (Some xs) (Some ys) None bs grown kept = absurd kept
kept_after (Some xs) (Some ys) (Some zs) bs grown kept = kept ∙ grown

sent : {T E : Type 0} (f : List ℕ → List ℕ) (r : Result T E) (left old mid new : Option (List ℕ)) (input bs : List ℕ)
    → is_err r ≡ false → OnOk r (Appends old mid bs) → Keeps mid new
    → bs ≡ f input → IfSome left (λ i. input ≡ i) → IfSome left (λ i. Appends old new (f i))
sent f r None old mid new input bs good grown kept is same = tt
sent f (Err e) (Some i) old mid new input bs good grown kept is same = absurd (cc)
sent f (Ok t) (Some i) old mid new input bs good grown kept is same =
    rw (← same, ← is) (kept_after old mid new bs grown kept)

-- what holds of the input that was read
of_input : (P : List ℕ → Type 0) (left : Option (List ℕ)) (input : List ℕ) → P input → IfSome left (λ i. input ≡ i)
    → IfSome left P
of_input P None input says is = tt
of_input P (Some i) input says is = rw (← is) says

not_failed : {T E : Type 0} (x : T) (e : E) → Ok x ≡ Err e → ⊥
not_failed x e failed = absurd (cc)

same_error : {T E : Type 0} {e f : E} (result : Result T E) → result ≡ Err e → result ≡ Err f → e ≡ f
same_error result is other = cc

-- an error that `?` passed on
passed_on : {T E : Type 0} (result : Result T E) (Q : E → Type 0) (e : E) → IsErr result × IsErrAnd result Q
    → ((x : E) → Q x → x ≡ e) → result ≡ Err e
passed_on (Ok x) Q e failed is = absurd (cc (failed.0))
passed_on (Err x) Q e failed is = ap Err (is x failed.1)

-- an error before the text was formed
no_text : (e : RunError) → e ≢ Write → HasText (Err e) → ⊥
no_text Read other text = text
no_text Write other text = other refl
no_text Memory other text = text
no_text Full other text = text

pub returns-clause-text : goal.returns-clause-text
returns-clause-text g c =
    sent text_of c.write_all.result (g.R.Read.remaining c.args.reader.now) _ _ _ c.in_ok-input.input.items
    c.as_bytes.result.now
    (sym c.is_err.ensures.value ∙ c.if-is_err.false) c.write_all.ensures.bytes c.flush.ensures.bytes
    (c.as_bytes.ensures.value ∙ rw c.as_slice.ensures.value at c.in_ok-text.ensures.text) c.in_ok-input.ensures.bytes

pub returns-clause-good : goal.returns-clause-good
returns-clause-good g c =
    of_input (λ i. c.in_ok-text.good ≡ all_good (lines_of i)) (g.R.Read.remaining c.args.reader.now)
    c.in_ok-input.input.items (rw c.as_slice.ensures.value at c.in_ok-text.ensures.good) c.in_ok-input.ensures.bytes

pub returns-clause-full : goal.returns-clause-full
returns-clause-full g c = λ failed. absurd (not_failed _ _ failed)

pub returns-clause-room : goal.returns-clause-room
returns-clause-room g c = λ _. of_input (λ i. ¬ MeetsFull i) (g.R.Read.remaining c.args.reader.now)
    c.in_ok-input.input.items (rw c.as_slice.ensures.value at c.in_ok-text.ensures.room) c.in_ok-input.ensures.bytes

pub returns-in_err-input : goal.returns-in_err-input
returns-in_err-input g c =
    let other = c.in_err-input.ensures.errors in
    rw (passed_on _ _ _ c.from_residual.ensures (λ e is. is)) (record {
      text = tt;
      good = tt;
      unwritten = λ _. refl;
      full = λ failed. absurd (other.1 (same_error _ refl failed));
      room = λ text. absurd (no_text _ other.0 text);
    })

pub returns-in_err-text : goal.returns-in_err-text
returns-in_err-text g c =
    let refused = c.in_err-text.ensures.errors in
    rw (passed_on _ _ _ c.from_residual-in_err-text.ensures (λ e is. is)) (record {
      text = tt;
      good = tt;
      unwritten = λ _. refl;
      full = λ failed. of_input MeetsFull (g.R.Read.remaining c.args.reader.now) c.in_ok-input.input.items
          (rw (c.as_slice.ensures.value, same_error _ refl failed) at refused) c.in_ok-input.ensures.bytes;
      room = λ text. absurd (no_text _ (λ write. rw write at refused) text);
    })
