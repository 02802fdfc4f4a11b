-- Things one after the other, up to the first fault: what reading gives stands there, and what stands there is read.
use Rattle.std.proofs.Common.{◌≡◌, ℕ, zero, suc, ◌+◌, ◌<◌, ◌≤◌, List, [], ◌∷◌, ◌++◌, length, Result, Ok, Err, refl, append_assoc, arith, inl, inr, ◌⊎◌}
use Rattle.std.proofs.lemmas.List.{length-append, nil_from_length}
use Rattle.warg_protobuf.specs.declared.error.WireError.{WireError}
use Rattle.warg_protobuf.specs.Reading.{◌>>=◌, all_in, all_of, Reader, Check}
use Rattle.warg_protobuf.specs.Field.{SpellsAll}
use Rattle.warg_protobuf.specs.Faults.{BeginsWith}
use Rattle.warg_protobuf.specs.Spelled.{AllCheck}
use Rattle.warg_protobuf.proofs.Readers.{IsReader, two_steps, behind, begins, shorter, parts_joined}

-- These things are spelled in the bytes, and they check.
abbrev pub AreThere : {X : Type 0} → (List ℕ → X → Type 0) → Check X → List ℕ → List X → Type 0
AreThere Spells check bytes xs = SpellsAll Spells bytes xs × AllCheck check xs

-- At the front stands a fault, or a thing that doesn't check.
abbrev pub FaultHere : {X : Type 0} → (List ℕ → X → Type 0) → (List ℕ → WireError → Type 0) → Check X → List ℕ
    → WireError → Type 0
FaultHere {X} Spells Fault check bytes e =
    Fault bytes e ⊎ ((x : X) × (rest : List ℕ) × BeginsWith Spells bytes x rest × (check x ≡ Err e))

-- A front of the bytes is things that check, and the rest, which isn't empty, begins with the fault.
pub record FirstFault {X : Type 0} (Spells : List ℕ → X → Type 0) (Fault : List ℕ → WireError → Type 0)
    (check : Check X) (bytes : List ℕ) (e : WireError) : Type 0 where
  pub taken : List X
  pub front : List ℕ
  pub rest : List ℕ
  pub parts : bytes ≡ front ++ rest
  pub there : AreThere Spells check front taken
  pub left : 0 < length rest
  pub why : FaultHere Spells Fault check rest e

-- The bytes are the things that were read, or the fault that was met is the first in them.
abbrev pub AllStand : {X : Type 0} → (List ℕ → X → Type 0) → (List ℕ → WireError → Type 0) → Check X → List ℕ
    → Result (List X) WireError → Type 0
AllStand Spells Fault check bytes (Ok xs) = AreThere Spells check bytes xs
AllStand Spells Fault check bytes (Err e) = FirstFault Spells Fault check bytes e

module _ {X : Type 0} {split : Reader X} {Spells : List ℕ → X → Type 0} {Fault : List ℕ → WireError → Type 0}
    (check : Check X) (reader : IsReader split Spells Fault) where
  -- ---- what reading gives

  one_more : (bytes : List ℕ) (x : X) (rest : List ℕ) → BeginsWith Spells bytes x rest → check x ≡ Ok tt
      → (r : Result (List X) WireError) → AllStand Spells Fault check rest r
      → AllStand Spells Fault check bytes (r >>= λ xs. Ok (x ∷ xs))
  one_more bytes x rest b good (Ok xs) there = ((b.front, rest, b.spelled, there.0, b.parts), (good, there.1))
  one_more bytes x rest b good (Err e) f = record {
    taken = x ∷ f.taken;
    front = b.front ++ f.front;
    rest = f.rest;
    parts = parts_joined bytes b.front f.front rest f.rest b.parts f.parts;
    there = ((b.front, f.front, b.spelled, f.there.0, refl), (good, f.there.1));
    left = f.left;
    why = f.why;
  }

  fault_here : (b : ℕ) (bytes : List ℕ) (e : WireError) → FaultHere Spells Fault check (b ∷ bytes) e
      → FirstFault Spells Fault check (b ∷ bytes) e
  fault_here b bytes e why = grind arith

  all_stand_in : (more : ℕ) (bytes : List ℕ) → length bytes ≤ more
      → AllStand Spells Fault check bytes (all_in split check more bytes)
  unfolding all_in
  all_stand_in zero bytes le = (nil_from_length bytes (omega arith), tt)
  all_stand_in (suc more) [] le = (refl, tt)
  all_stand_in (suc more) (b ∷ bytes) le =
      let Here : Result (List X) WireError → Type 0 = AllStand Spells Fault check (b ∷ bytes) in
      behind reader Here (b ∷ bytes) (λ x. check x.0 >>= λ _. all_in split check more x.1 >>= λ xs. Ok (x.0 ∷ xs))
      (λ x rest s. two_steps Here (check x) (λ _. all_in split check more rest >>= λ xs. Ok (x ∷ xs))
      (λ _ good. let lt = shorter reader (b ∷ bytes) x rest s in
      one_more (b ∷ bytes) x rest s good (all_in split check more rest) (all_stand_in more rest (omega arith)))
      (λ e bad. fault_here b bytes e (inr (x, rest, s, bad))))
      (λ e cut. fault_here b bytes e (inl cut))

  -- what reading gives stands in the bytes
  pub all_stand : (bytes : List ℕ) → AllStand Spells Fault check bytes (all_of split check bytes)
  unfolding all_of
  all_stand bytes = all_stand_in (length bytes) bytes (omega arith)

  -- ---- what stands there

  in_more : (more : ℕ) (bytes : List ℕ) → 0 < length bytes
      → all_in split check (suc more) bytes
      ≡ (split bytes >>= λ x. check x.0 >>= λ _. all_in split check more x.1 >>= λ xs. Ok (x.0 ∷ xs))
  unfolding all_in
  in_more more bytes long = grind arith

  one_read : (more : ℕ) (first rest : List ℕ) (x : X) → Spells first x → check x ≡ Ok tt
      → all_in split check (suc more) (first ++ rest) ≡ (all_in split check more rest >>= λ xs. Ok (x ∷ xs))
  one_read more first rest x s good = grind (
    arith,
    length-append first rest,
    reader.not_empty first x s,
    in_more more (first ++ rest),
    reader.again first x rest s,
  )

  all_read_in : (more : ℕ) (bytes : List ℕ) (xs : List X) → SpellsAll Spells bytes xs → AllCheck check xs
      → length bytes ≤ more
      → all_in split check more bytes ≡ Ok xs
  unfolding all_in
  all_read_in zero bytes [] s good le = refl
  all_read_in (suc more) bytes [] s good le = rw s refl
  all_read_in zero bytes (x ∷ xs) s good le = grind (arith, length-append s.0 s.1, reader.not_empty s.0 x s.2)
  all_read_in (suc more) bytes (x ∷ xs) s good le =
      grind (
        arith,
        length-append s.0 s.1,
        reader.not_empty s.0 x s.2,
        one_read more s.0 s.1 x s.2 good.0,
        all_read_in more s.1 xs s.3 good.1,
      )

  fault_met_in : (more : ℕ) (xs : List X) (front rest : List ℕ) (e : WireError) → SpellsAll Spells front xs
      → AllCheck check xs
      → 0 < length rest → FaultHere Spells Fault check rest e → length front + length rest ≤ more
      → all_in split check more (front ++ rest) ≡ Err e
  fault_met_in zero xs front rest e s good left why le = absurd (omega arith)
  fault_met_in (suc more) [] front rest e s good left why le =
      grind (arith, in_more more rest left, reader.fails rest e, begins reader rest)
  fault_met_in (suc more) (x ∷ xs) front rest e s good left why le =
      grind (
        arith,
        append_assoc s.0 s.1 rest,
        length-append s.0 s.1,
        reader.not_empty s.0 x s.2,
        one_read more s.0 (s.1 ++ rest) x s.2 good.0,
        fault_met_in more xs s.1 rest e s.3 good.1 left why,
      )

  -- reading gives what stands in the bytes
  pub all_met : (bytes : List ℕ) (r : Result (List X) WireError) → AllStand Spells Fault check bytes r
      → all_of split check bytes ≡ r
  unfolding all_of
  all_met bytes (Ok xs) there = all_read_in (length bytes) bytes xs there.0 there.1 (omega arith)
  all_met bytes (Err e) f =
      let met = fault_met_in (length bytes) f.taken f.front f.rest e f.there.0 f.there.1 f.left f.why in
      grind (arith, f.parts, length-append f.front f.rest, met)
