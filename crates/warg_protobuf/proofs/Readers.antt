-- Readers: what stands at the front of bytes, by what reading gives.
use Rattle.std.proofs.Common.{◌≡◌, ℕ, ◌<◌, List, ◌++◌, length, Result, Ok, Err, refl, sym, ap, subst, ◌∙◌, append_assoc, arith, inl, inr}
use Rattle.std.proofs.lemmas.List.{length-append, append_cancel_right}
use Rattle.warg_protobuf.specs.declared.error.WireError.{WireError}
use Rattle.warg_protobuf.specs.Reading.{◌>>=◌, Fails, Reader, outcome}
use Rattle.warg_protobuf.specs.Faults.{BeginsWith}

-- At the front stands the spelling of the thing that was read, or the fault that was met.
abbrev pub Stands : {X : Type 0} → (List ℕ → X → Type 0) → (List ℕ → WireError → Type 0) → List ℕ
    → Result (X × List ℕ) WireError → Type 0
Stands Spells Fault bytes (Ok x) = BeginsWith Spells bytes x.0 x.1
Stands Spells Fault bytes (Err e) = Fault bytes e

-- A reader gives what stands at the front, and whatever stands there is what it gives.
pub record IsReader {X : Type 0} (split : Reader X) (Spells : List ℕ → X → Type 0) (Fault : List ℕ → WireError
    → Type 0) : Type 0 where
  pub reads : (bytes : List ℕ) → Stands Spells Fault bytes (split bytes)
  pub again : (text : List ℕ) (x : X) (rest : List ℕ) → Spells text x → split (text ++ rest) ≡ Ok (x, rest)
  pub fails : (bytes : List ℕ) (e : WireError) → Fault bytes e → split bytes ≡ Err e
  pub not_empty : (text : List ℕ) (x : X) → Spells text x → 0 < length text

-- what holds of two steps, by what the first gives
pub two_steps : {A B : Type 0} (P : Result B WireError → Type 0) (r : Result A WireError) (f : A → Result B WireError)
    → ((x : A) → r ≡ Ok x → P (f x)) → ((e : WireError) → r ≡ Err e → P (Err e)) → P (r >>= f)
two_steps P (Ok x) f ok err = ok x refl
two_steps P (Err e) f ok err = err e refl

-- the same, by what stands at the front
pub read_on : {X Y : Type 0} (Spells : List ℕ → X → Type 0) (Fault : List ℕ → WireError → Type 0) (bytes : List ℕ)
    (P : Result Y WireError → Type 0) (r : Result (X × List ℕ) WireError) (f : X × List ℕ → Result Y WireError)
    → Stands Spells Fault bytes r
    → ((x : X) (rest : List ℕ) → BeginsWith Spells bytes x rest → P (f (x, rest)))
    → ((e : WireError) → Fault bytes e → P (Err e)) → P (r >>= f)
read_on Spells Fault bytes P (Ok x) f stands ok err = ok x.0 x.1 stands
read_on Spells Fault bytes P (Err e) f stands ok err = err e stands

-- two spellings, one after the other
pub parts_joined : (bytes a b rest after : List ℕ) → bytes ≡ a ++ rest → rest ≡ b ++ after → bytes ≡ (a ++ b) ++ after
parts_joined bytes a b rest after e f = e ∙ ap (λ (l : List ℕ). a ++ l) f ∙ sym (append_assoc a b after)

module _ {X : Type 0} {split : Reader X} {Spells : List ℕ → X → Type 0} {Fault : List ℕ → WireError → Type 0}
    (reader : IsReader split Spells Fault) where
  -- what is read stands at the front, and what stands there is read
  pub found : (bytes : List ℕ) (x : X) (rest : List ℕ) → split bytes ≡ Ok (x, rest) → BeginsWith Spells bytes x rest
  found bytes x rest e = subst (Stands Spells Fault bytes) e (reader.reads bytes)

  pub begins : (bytes : List ℕ) (x : X) (rest : List ℕ) → BeginsWith Spells bytes x rest → split bytes ≡ Ok (x, rest)
  begins bytes x rest b = ap split b.parts ∙ reader.again b.front x rest b.spelled

  pub fault_found : (bytes : List ℕ) (e : WireError) → split bytes ≡ Err e → Fault bytes e
  fault_found bytes e h = subst (Stands Spells Fault bytes) h (reader.reads bytes)

  -- what holds of reading on, by what stands at the front
  pub behind : {Y : Type 0} (P : Result Y WireError → Type 0) (bytes : List ℕ) (f : X × List ℕ → Result Y WireError)
      → ((x : X) (rest : List ℕ) → BeginsWith Spells bytes x rest → P (f (x, rest)))
      → ((e : WireError) → Fault bytes e → P (Err e)) → P (split bytes >>= f)
  behind P bytes f ok err = read_on Spells Fault bytes P (split bytes) f (reader.reads bytes) ok err

  -- what follows is shorter than the whole
  pub shorter : (bytes : List ℕ) (x : X) (rest : List ℕ) → BeginsWith Spells bytes x rest → length rest < length bytes
  shorter bytes x rest b = omega (
    arith,
    ap length b.parts,
    length-append b.front rest,
    reader.not_empty b.front x b.spelled,
  )

  -- what is read again, whatever follows, begins no other spelling
  pub one_form : (a b s t : List ℕ) (x y : X) → Spells a x → Spells b y → a ++ s ≡ b ++ t → (a ≡ b) × (x ≡ y)
  one_form a b s t x y p q e =
      let first = reader.again a x s p in
      let second = ap split e ∙ reader.again b y t q in
      let pair : ◌≡◌ {A = X × List ℕ} (x, s) (y, t) = cc in
      let rests : s ≡ t = ap (λ (z : X × List ℕ). z.1) pair in
      (append_cancel_right a b s (e ∙ ap (λ (z : List ℕ). b ++ z) (sym rests)), ap (λ (z : X × List ℕ). z.0) pair)

-- a fault of the first step is the fault of both
pub Fails-then : {A B : Type 0} (e : WireError) (r : Result A WireError) (f : A → Result B WireError) → Fails e r
    → Fails e (r >>= f)
Fails-then e r f h = elim h [ inl memory ↦ inl memory | inr fault ↦ inr (rw fault refl) ]

-- a fault stays without the value
pub Fails-outcome : {A : Type 0} (e : WireError) (r : Result A WireError) → Fails e r → Fails e (outcome r)
Fails-outcome e r h = elim h [ inl memory ↦ inl memory | inr fault ↦ inr (rw fault refl) ]
