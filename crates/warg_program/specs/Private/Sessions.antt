-- What a session does with a line, by the states that its log and its map stand for.
use Rattle.std.specs.Prelude.{◌≡◌, ℕ, true, List, ◌++◌, string_bytes, Result, Ok, Err}
use Rattle.warg_program.specs.Orders.{Line, empty, bad, good}
use Rattle.warg_program.specs.States.{State, log_at, map_at, after_line, FindsFull}
use Rattle.warg_program.specs.Text.{said, is_not_bad}
use Rattle.warg_program.specs.declared.line_error.LineError.{LineError}
use Rattle.warg_program.specs.declared.line_error.LineError.TheVariants.{BadLine, Memory, Full}
use Rattle.warg_program.specs.declared.session.Session.{Session}

-- The session's log and map are those of a state.
pub record IsInState {A : Type 0} (session : Session A) (s : State) : Type 0 where
  pub log_is : session.log ≡ log_at s
  pub map_is : session.map ≡ map_at s

-- A line's order finds no room.
abbrev pub LineFindsFull : State → Line → Type 0
LineFindsFull s empty = ⊥
LineFindsFull s bad = ⊥
LineFindsFull s (good order) = FindsFull s order

-- At a state the session answered a line that isn't bad, whatever its number.
pub record Answers {A : Type 0} (old new : Session A) (s : State) (line : Line) : Type 0 where
  pub is_good : is_not_bad line ≡ true
  pub room : ¬ LineFindsFull s line
  pub log_is : new.log ≡ log_at (after_line s line)
  pub map_is : new.map ≡ map_at (after_line s line)
  pub text_is : (number : ℕ) → string_bytes new.text ≡ string_bytes old.text ++ said number s line

-- What became of a line, at whatever state the session stood: it was answered; or it is bad, and the session as
-- it was; or memory was refused; or its order found no room.
abbrev pub Takes : {A : Type 0} → Session A → Session A → Line → Result (Unit {0}) LineError → Type 0
Takes old new line (Ok _) = (s : State) → IsInState old s → Answers old new s line
Takes old new line (Err BadLine) = (line ≡ bad) × (new ≡ old)
Takes old new line (Err Memory) = Unit {0}
Takes old new line (Err Full) = (s : State) → IsInState old s → LineFindsFull s line

-- The session only added text.
abbrev pub AddsText : {A : Type 0} → Session A → Session A → List ℕ → Type 0
AddsText old new added = (new.log ≡ old.log) × (new.map ≡ old.map) × (string_bytes new.text ≡ string_bytes old.text ++ added)

-- The session only added text, unless memory was refused.
abbrev pub Says : {A : Type 0} → Session A → Session A → List ℕ → Result (Unit {0}) LineError → Type 0
Says old new added (Ok _) = AddsText old new added
Says old new added (Err BadLine) = ⊥
Says old new added (Err Memory) = Unit {0}
Says old new added (Err Full) = ⊥
