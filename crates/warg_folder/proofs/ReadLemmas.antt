-- A text that was read up to a length.
use Rattle.std.proofs.Common.{◌≡◌, inl, inr, ℕ, ◌+◌, ◌^◌, ◌<◌, ◌≤◌, List, length, take, true, Option, Some, None, refl, sym, ap, ◌∙◌, arith}
use Rattle.std.specs.Prelude.{option_map}
use Rattle.std.proofs.lemmas.Bool.{cases_lt, lt-ltb}
use Rattle.std.proofs.lemmas.List.{take_all, length-take-le}
use Rattle.warg_folder.specs.Commits.{is_signed}

-- one that is longer than that
pub read_long : (o : Option (List ℕ)) (text : List ℕ) (most : ℕ) → Some text ≡ option_map (take (most + 1)) o
    → most < length text → (t : List ℕ) × (o ≡ Some t) × (most < length t)
read_long None text most read long = cc
read_long (Some t) text most read long = let is : text ≡ take (most + 1) t = cc in elim (cases_lt most (length t)) [
  | inl more ↦ (t, refl, more)
  | inr whole ↦ absurd (omega (arith, ap length (is ∙ take_all (most + 1) t (omega arith))))
]

-- and one that is whole
pub read_whole : (o : Option (List ℕ)) (text : List ℕ) (most : ℕ) → Some text ≡ option_map (take (most + 1)) o
    → length text ≤ most → o ≡ Some text
read_whole None text most read short = cc
read_whole (Some t) text most read short = let is : text ≡ take (most + 1) t = cc in elim (cases_lt most (length t)) [
  | inl more ↦ absurd (omega (arith, ap length is, length-take-le (most + 1) t (omega arith)))
  | inr whole ↦ ap (λ (l : List ℕ). Some l) (sym (is ∙ take_all (most + 1) t (omega arith)))
]

long_signed : (bytes : List ℕ) → 2 ^ 20 < length bytes → is_signed (Some bytes) ≡ true
unfolding is_signed
long_signed bytes long = rw (lt-ltb (2 ^ 20) (length bytes) long) refl

-- whether a checkpoint is signed is told by its bytes up to a length
pub signed_read : (o : Option (List ℕ)) (bytes : List ℕ) (most : ℕ) → most ≡ 2 ^ 20
    → Some bytes ≡ option_map (take (most + 1)) o → is_signed (Some bytes) ≡ is_signed o
signed_read o bytes most is read = elim (cases_lt most (length bytes)) [
  | inl long ↦
      let whole = read_long o bytes most read long in
      long_signed bytes (omega (arith, is)) ∙ sym (long_signed whole.0 (omega (arith, is, whole.2)))
      ∙ ap is_signed (sym whole.1)
  | inr short ↦ ap is_signed (sym (read_whole o bytes most read (omega arith)))
]
