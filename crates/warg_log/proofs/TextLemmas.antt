-- Checkpoints as text.
use Rattle.std.proofs.Common.{◌≡◌, ◌≢◌, ℕ, ◌^◌, ◌<◌, List, length, Option, Some, None, Ok, Err, Bor, arith}
use Rattle.std.specs.Prelude.{MatchOption}
use Rattle.std.specs.Fmt.{decimal}
use Rattle.std.specs.List.{AllPass}
use Rattle.std.proofs.lemmas.Str.Pattern.{IsSplitOnceResult, split_after, split_parts}
use Rattle.hex.specs.Hex.{is_hex_digit}
use Rattle.warg_crypto.specs.Text.{SpellsHash}
use Rattle.warg_log.specs.Claims.{RootAndLength}
use Rattle.warg_log.specs.Text.{length_and_digits, SpellsCheckpoint}
use Rattle.warg_log.proofs.DecimalLemmas.{decimal_without}

-- a text parts at its first space
parts_at_space : (text : List ℕ) (n : ℕ) (digits : List ℕ) (r : Option (Bor (List ℕ) × Bor (List ℕ)))
    → IsSplitOnceResult 32 text r → n < 2 ^ 64 → text ≡ length_and_digits n digits
    → MatchOption r ⊥ (λ x. (x.0.now ≡ decimal n) × (x.1.now ≡ digits))
parts_at_space text n digits r cut small is = split_after 32 text (decimal n) digits r cut (omega arith) is
    (grind (arith, decimal_without))

-- a text that is no length and digits is refused
refused : {E : Type 0} (e : E) (text : List ℕ)
    → ((n : ℕ) (digits : List ℕ) → n < 2 ^ 64 → text ≡ length_and_digits n digits → length digits ≡ 64
    → AllPass is_hex_digit digits → ⊥)
    → SpellsCheckpoint text (Err e)
refused e text none = grind arith

pub without_space : {E : Type 0} (e : E) (text : List ℕ) (r : Option (Bor (List ℕ) × Bor (List ℕ)))
    → IsSplitOnceResult 32 text r → r ≡ None → SpellsCheckpoint text (Err e)
without_space e text r cut is =
    refused e text (λ n digits small same size all. rw is at (parts_at_space text n digits r cut small same))

pub without_length : {E : Type 0} (e : E) (text : List ℕ) (before behind : Bor (List ℕ))
    → IsSplitOnceResult 32 text (Some (before, behind))
    → ((n : ℕ) → n < 2 ^ 64 → before.now ≢ decimal n) → SpellsCheckpoint text (Err e)
without_length e text before behind cut none =
    refused e text (λ n digits small same size all. none n small
    (parts_at_space text n digits (Some (before, behind)) cut small same).0)

pub without_root : {E F : Type 0} (e : E) (f : F) (text : List ℕ) (before behind : Bor (List ℕ))
    → IsSplitOnceResult 32 text (Some (before, behind))
    → SpellsHash {E = F} behind.now (Err f) → SpellsCheckpoint text (Err e)
without_root e f text before behind cut spells = refused e text
    (λ n digits small same size all. grind (
      arith,
      parts_at_space text n digits (Some (before, behind)) cut small
          same,
    ))

pub with_both : {E F : Type 0} (text : List ℕ) (before behind : Bor (List ℕ)) (n : ℕ) (root : List ℕ)
    (c : RootAndLength) → IsSplitOnceResult 32 text (Some (before, behind))
    → n < 2 ^ 64 → before.now ≡ decimal n → SpellsHash {E = F} behind.now (Ok root) → c.root ≡ root → c.length ≡ n
    → SpellsCheckpoint {E = E} text (Ok c)
with_both text before behind n root c cut small is spells root_is length_is = grind
    (arith, split_parts 32 text (Some (before, behind)) cut)
