-- One call more of a folder in memory.
use Rattle.std.proofs.Common.{◌≡◌, ◌⊎◌, inl, inr, ℕ, zero, suc, ◌+◌, ◌<◌, ◌≤◌, List, [], ◌∷◌, ◌++◌, length, take, get_or, Some, IsSome, refl, sym, ◌∙◌, ap, arith, length-append, string_bytes}
use Rattle.std.proofs.lemmas.Bool.{cases_lt}
use Rattle.std.proofs.lemmas.List.{take_all, take-append-le}
use Rattle.warg_folder.specs.declared.memory.Call.{Call}
use Rattle.warg_folder.specs.declared.memory.Call.TheVariants.{Written, Renamed, Removed, Synced, Replaced}
use Rattle.warg_folder.specs.declared.memory.MemoryFolder.{MemoryFolder}
use Rattle.warg_folder.specs.Files.{File, Files, put, without}
use Rattle.warg_folder.specs.Moments.{Elapses}
use Rattle.warg_folder.specs.Memory.{after, may_after, seen_from, may_from, empty, seen_after, MayLeave, LeftSince, name_put}
use Rattle.warg_folder.proofs.ForCallers.{one_name, apart}

seen_from-push : (s : Files) (xs : List Call) (x : Call) → seen_from s (xs ++ x ∷ []) ≡ after x (seen_from s xs)
seen_from-push s [] x = refl
seen_from-push s (y ∷ xs) x = seen_from-push (after y s) xs x

may_from-push : (s : Files) (may : Files → Type 0) (xs : List Call) (x : Call) → may_from s may (xs ++ x ∷ [])
    ≡ may_after x (seen_from s xs) (may_from s may xs)
may_from-push s may [] x = refl
may_from-push s may (y ∷ xs) x = may_from-push (after y s) (may_after y s may) xs x

-- what is seen after one call more
pub seen_more : (xs new : List Call) (x : Call) → new ≡ xs ++ x ∷ [] → seen_after new ≡ after x (seen_after xs)
seen_more xs new x is = rw is (seen_from-push empty xs x)

-- what a crash may leave after one call more
pub may_more : (xs new : List Call) (x : Call) → new ≡ xs ++ x ∷ [] → (c : Files) → MayLeave new c
    → may_after x (seen_after xs) (MayLeave xs) c
may_more xs new x is c left = rw (may_from-push empty (λ d. d ≡ empty) xs x) at (rw is at left)

-- time goes on
abbrev pub GoesOn : MemoryFolder → MemoryFolder → Type 0
GoesOn = Elapses (λ m. length m.calls.items) (λ m. LeftSince m.calls.items) (λ m. MayLeave m.calls.items)

-- by one call
pub elapses : {old new : MemoryFolder} (x : Call) → new.calls.items ≡ old.calls.items ++ x ∷ [] → GoesOn old new
elapses {old} {new} x is = record {
  later = omega (arith, longer);
  nothing_else = λ t c le left. elim (cases_lt (length old.calls.items) left.0) [
    | inl all ↦ inr (rw (take_all left.0 new.calls.items (omega (arith, longer))) at left.3)
    | inr some ↦ inl (left.0, left.1, some, rw (first left.0 some) at left.3)
  ];
  keeps = λ t c le left. (left.0, left.1, omega (arith, left.2, longer), rw (first left.0 left.2) left.3);
}
  where
    longer : length new.calls.items ≡ length old.calls.items + 1
    longer = ap length is ∙ length-append old.calls.items (x ∷ [])

    first : (k : ℕ) → k ≤ length old.calls.items → take k new.calls.items ≡ take k old.calls.items
    first k le = rw is (take-append-le k old.calls.items (x ∷ []) le)

-- what stands at a name after a file was put was there, or was put
put_or_was : (f : File) (s : Files) (n : List ℕ) → IsSome (put f s n) → IsSome (s n) ⊎ (Some f.0 ≡ Some n)
put_or_was f s n some = elim (one_name f.0 n) [
  | inl here ↦ inr (ap (λ (m : List ℕ). Some m) here.1)
  | inr other ↦ inl (rw other.0 at some)
]

-- one that stands there without a file was there
was_with : (name : List ℕ) (s : Files) (n : List ℕ) → IsSome (without name s n) → IsSome (s n)
was_with name s n some = elim (one_name name n) [
  | inl here ↦ absurd (apart (sym (rw here.0 at some)))
  | inr other ↦ rw other.0 at some
]

-- and likewise after a call
by_call : (x : Call) (s : Files) (n : List ℕ) → IsSome (after x s n) → IsSome (s n) ⊎ (name_put x ≡ Some n)
by_call (Written name bytes) s n some = put_or_was (string_bytes name, bytes.items) s n some
by_call (Renamed from to) s n some = elim (one_name (string_bytes to) n) [
  | inl here ↦ inr (ap (λ (m : List ℕ). Some m) here.1)
  | inr other ↦ inl (was_with (string_bytes from) s n (rw other.0 at some))
]
by_call (Removed name) s n some = inl (was_with (string_bytes name) s n some)
by_call Synced s n some = inl some
by_call (Replaced name bytes) s n some = put_or_was (string_bytes name, bytes.items) s n some

-- a file that is seen was put by a call
put_by : (xs : List Call) (s : Files) (n : List ℕ) (d : Call) → IsSome (seen_from s xs n) → IsSome (s n)
    ⊎ ((k : ℕ) × (k < length xs) × (name_put (get_or xs k d) ≡ Some n))
put_by [] s n d some = inl some
put_by (x ∷ xs) s n d some = elim (put_by xs (after x s) n d some) [
  | inl here ↦ elim (by_call x s n here) [ inl was ↦ inl was | inr by ↦ inr (zero, omega arith, by) ]
  | inr later ↦ inr (suc later.0, omega (arith, later.1), later.2)
]

pub was_put : (xs : List Call) (n : List ℕ) (d : Call) → IsSome (seen_after xs n) → (k : ℕ) × (k < length xs)
    × (name_put (get_or xs k d) ≡ Some n)
was_put xs n d some = elim (put_by xs empty n d some) [ inl none ↦ absurd (apart (sym none)) | inr by ↦ by ]
