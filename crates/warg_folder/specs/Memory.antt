-- What the calls of a folder in memory have made, and what a crash after them may leave.
use Rattle.std.specs.Prelude.{◌≡◌, ◌≤◌, ℕ, List, [], ◌∷◌, length, take, Option, Some, None, string_bytes}
use Rattle.std.proofs.Common.{refl, subst, sym, arith, inr}
use Rattle.std.specs.Cmp.Lexicographic.{bytes_decides}
use Rattle.std.proofs.lemmas.Bool.{false_from_ne_true}
use Rattle.std.proofs.lemmas.List.{take_all}
use Rattle.warg_folder.specs.declared.memory.Call.{Call}
use Rattle.warg_folder.specs.declared.memory.Call.TheVariants.{Written, Renamed, Removed, Synced, Replaced}
use Rattle.warg_folder.specs.Files.{Files, put, without, moved, SameBut, Either}

-- What a reader finds after a call, from what was found before.
abbrev pub after : Call → Files → Files
after (Written name bytes) s = put (string_bytes name, bytes.items) s
after (Renamed from to) s = moved (string_bytes from) (string_bytes to) s
after (Removed name) s = without (string_bytes name) s
after Synced s = s
after (Replaced name bytes) s = put (string_bytes name, bytes.items) s

-- What a crash after a call may leave, from what was found before it and from what a crash might have left.
abbrev pub may_after : Call → Files → (Files → Type 0) → Files → Type 0
may_after (Written name bytes) s may c = (d : Files) × may d × SameBut (string_bytes name) d c
may_after (Renamed from to) s may c = (d : Files) × may d × Either (moved (string_bytes from) (string_bytes to)) d c
may_after (Removed name) s may c = (d : Files) × may d × Either (without (string_bytes name)) d c
may_after Synced s may c = c ≡ s
may_after (Replaced name bytes) s may c = (d : Files) × may d × (c ≡ put (string_bytes name, bytes.items) d)

-- What a reader finds after calls, from what was found before.
abbrev pub seen_from : Files → List Call → Files
seen_from s [] = s
seen_from s (x ∷ xs) = seen_from (after x s) xs

-- What a crash after calls may leave, from what was found before and from what a crash might have left.
abbrev pub may_from : Files → (Files → Type 0) → List Call → Files → Type 0
may_from s may [] = may
may_from s may (x ∷ xs) = may_from (after x s) (may_after x s may) xs

-- No file.
abbrev pub empty : Files
empty = λ n. None

-- What a reader finds after these calls.
abbrev pub seen_after : List Call → Files
seen_after xs = seen_from empty xs

-- What a crash after these calls may leave.
abbrev pub MayLeave : List Call → Files → Type 0
MayLeave xs = may_from empty (λ c. c ≡ empty) xs

-- What a crash after the first t calls, or after more of them, may leave.
abbrev pub LeftSince : List Call → ℕ → Files → Type 0
LeftSince xs t c = (k : ℕ) × (t ≤ k) × (k ≤ length xs) × MayLeave (take k xs) c

-- The name at which a call puts a file.
abbrev pub name_put : Call → Option (List ℕ)
name_put (Written name bytes) = Some (string_bytes name)
name_put (Renamed from to) = Some (string_bytes to)
name_put (Removed name) = None
name_put Synced = None
name_put (Replaced name bytes) = Some (string_bytes name)

stays_after : (x : Call) (s : Files) (may : Files → Type 0) → may s → may_after x s may (after x s)
stays_after (Written name bytes) s may was = (s, was, λ n other. rw (false_from_ne_true _ (λ t. other ((bytes_decides (string_bytes name) n).0 t))) refl)
stays_after (Renamed from to) s may was = (s, was, inr refl)
stays_after (Removed name) s may was = (s, was, inr refl)
stays_after Synced s may was = refl
stays_after (Replaced name bytes) s may was = (s, was, refl)

stays_from : (xs : List Call) (s : Files) (may : Files → Type 0) → may s → may_from s may xs (seen_from s xs)
stays_from [] s may was = was
stays_from (x ∷ xs) s may was = stays_from xs (after x s) (may_after x s may) (stays_after x s may was)

-- What a reader finds is among what a crash may leave.
pub stays : (xs : List Call) → MayLeave xs (seen_after xs)
stays xs = stays_from xs empty (λ c. c ≡ empty) refl

-- This moment is one of those since an earlier one.
pub counts : (xs : List Call) (t : ℕ) (c : Files) → t ≤ length xs → MayLeave xs c → LeftSince xs t c
counts xs t c le now = (length xs, le, omega arith, subst (λ (l : List Call). MayLeave l c) (sym (take_all (length xs) xs (omega arith))) now)

-- Since this moment there is no other.
pub is_only : (xs : List Call) (c : Files) → LeftSince xs (length xs) c → MayLeave xs c
is_only xs c left = subst (λ (l : List Call). MayLeave l c) (take_all left.0 xs left.1) left.3
