-- Reading from left to right, up to the first fault.
use Rattle.std.specs.Prelude.{◌≡◌, ℕ, zero, suc, List, [], ◌∷◌, length, ◌⊎◌, Result, Ok, Err}
use Rattle.warg_protobuf.specs.declared.error.WireError.{WireError}
use Rattle.warg_protobuf.specs.declared.error.WireError.TheVariants.{Memory}

-- `r >>= f` goes on with the value of `r`, or keeps its fault.
infixl 10 ◌>>=◌
abbrev pub ◌>>=◌ : {A B E : Type 0} → Result A E → (A → Result B E) → Result B E
(Ok x) >>= f = f x
(Err e) >>= f = Err e

-- What a call answered is the value, or the fault that stands in its place, or that memory was refused.
abbrev pub Answers : {X E : Type 0} → E → Result X E → Result X E → Type 0
Answers refusal (Ok x) value = value ≡ Ok x
Answers refusal (Err e) value = (e ≡ refusal) ⊎ (value ≡ Err e)

-- Memory ran out, or reading meets this fault.
abbrev pub Fails : {Y : Type 0} → WireError → Result Y WireError → Type 0
Fails e read = (e ≡ Memory) ⊎ (read ≡ Err e)

-- What a function returned, seen by `view`, is what reading gives, unless memory ran out.
abbrev pub Gives : {X Y : Type 0} → (X → Y) → Result X WireError → Result Y WireError → Type 0
Gives view (Ok x) read = read ≡ Ok (view x)
Gives view (Err e) read = Fails e read

-- Whether reading went well, without what was read.
abbrev pub outcome : {A : Type 0} → Result A WireError → Result (Unit {0}) WireError
outcome (Ok x) = Ok tt
outcome (Err e) = Err e

-- The values that were read, none where there is a fault.
abbrev pub values_read : {A : Type 0} → Result (List A) WireError → List A
values_read (Ok xs) = xs
values_read (Err e) = []

-- One value that was read, as a list.
abbrev pub as_list : {A : Type 0} → Result A WireError → Result (List A) WireError
as_list (Ok x) = Ok (x ∷ [])
as_list (Err e) = Err e

-- What stands at the front of bytes, and the bytes after it, or the first fault in it.
abbrev pub Reader : Type 0 → Type 0
Reader X = List ℕ → Result (X × List ℕ) WireError

-- Whether what was read is good, or the first fault in it.
abbrev pub Check : Type 0 → Type 0
Check X = X → Result (Unit {0}) WireError

-- While bytes are left, and at most `more` times, one thing is split off the front and checked.
unfoldable pub all_in : {X : Type 0} → Reader X → Check X → ℕ → List ℕ → Result (List X) WireError
all_in split check zero bytes = Ok []
all_in split check (suc more) [] = Ok []
all_in split check (suc more) (b ∷ bytes) = do
  x ← split (b ∷ bytes)
  checked ← check x.0
  others ← all_in split check more x.1
  Ok (x.0 ∷ others)

-- While bytes are left, one thing is split off the front and checked; each takes a byte at least.
unfoldable pub all_of : {X : Type 0} → Reader X → Check X → List ℕ → Result (List X) WireError
all_of split check bytes = all_in split check (length bytes) bytes
