-- What 64 digits spell, and what no 64 digits don't.
use Rattle.std.proofs.Common.{◌≡◌, true, false, ℕ, List, refl, sym, ◌∙◌, subst, arith}
use Rattle.std.specs.Prelude.{Ok, Err, IsOk}
use Rattle.hex.specs.declared.error.FromHexError.{FromHexError}
use Rattle.hex.specs.Hex.{decode_of, decode_sized}
use Rattle.hex.proofs.HexLemmas.{IsOk-decode_sized}
use Rattle.warg_crypto.specs.declared.text.HashDigits.{HashDigits}
use Rattle.warg_crypto.specs.Text.{SpellsHash}
use Rattle.warg_crypto.proofs.text.HashFromStr.from_str.Goals as goal

not_true : false ≡ true → ⊥
not_true e = cc

spelled : (text h : List ℕ) → Ok h ≡ decode_sized text 32 → SpellsHash {E = HashDigits} text (Ok h)
spelled text h e =
    let digits = IsOk-decode_sized text 32 in
    let is = digits.0 (subst IsOk e refl) in
    let has_64 = is.0 in
    let whole : decode_of text ≡ decode_sized text 32 = grind (arith, has_64) in
    record { value = whole ∙ sym e; exactly = (λ _. is, λ _. refl) }

refused : (text : List ℕ) (e : FromHexError) → Err e ≡ decode_sized text 32
    → SpellsHash {E = HashDigits} text (Err (record {}))
refused text e is =
    let digits = IsOk-decode_sized text 32 in
    record {
      value = tt;
      exactly = (
        λ ok. absurd (not_true ok),
        λ all. absurd (not_true (subst IsOk (sym is) (digits.1 all))),
      );
    }

pub returns-in-Ok : goal.returns-in-Ok
returns-in-Ok g c = rw c.from_array.ensures
    (spelled c.args.text.now c.in-Ok.bytes (sym c.in-Ok.is ∙ c.from_hex.ensures))

pub returns-in-Err : goal.returns-in-Err
returns-in-Err g c = refused c.args.text.now c.in-Err.field-0 (sym c.in-Err.is ∙ c.from_hex.ensures)
