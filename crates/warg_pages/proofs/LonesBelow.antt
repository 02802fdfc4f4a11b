-- A lone key below a slot of a page.
use Rattle.std.proofs.Common.{◌≡◌, ℕ, ◌+◌, ◌-◌, ◌*◌, ◌<◌, Bool, cond, List, [], ◌∷◌, ◌++◌, length, take, Option, Some, None, sym, ap, ◌∙◌, arith}
use Rattle.std.proofs.lemmas.Bool.{false_from_ne_true}
use Rattle.std.proofs.lemmas.List.{append_cancel_left}
use Rattle.std.specs.Prelude.{unwrap_or}
use Rattle.std.specs.Option.{option_map}
use Rattle.warg_crypto.specs.Digests.{IsDigest}
use Rattle.warg_crypto.specs.EmptyTrees.{empty_root}
use Rattle.warg_map.specs.Bits.{last_bits}
use Rattle.warg_map.specs.Sparse.{root_of_levels}
use Rattle.warg_map.proofs.ForCallers.{same_bits-true, same_bits-itself}
use Rattle.warg_pages.specs.Prefixes.{bits_of_bytes}
use Rattle.warg_pages.specs.Pages.{slot_height}
use Rattle.warg_pages.specs.Visits.{held_by}
use Rattle.warg_pages.specs.Private.Descents.{value_above, lone_root}
use Rattle.warg_pages.proofs.BitParts.{key_at}
use Rattle.warg_pages.proofs.KeyPrefixes.{length-bits_from}
use Rattle.warg_pages.proofs.OwnDescent.{bits_of_taken}
use Rattle.warg_pages.proofs.ValuesAbove.{alone_root}

pub lone_alone : (H : List ℕ → List ℕ) (lone : List ℕ × List ℕ) (prefix : List ℕ) (s : ℕ) → IsDigest lone.0
    → length prefix < 32 → take (length prefix + 1) lone.0 ≡ prefix ++ s ∷ []
    → root_of_levels H (slot_height (length prefix))
    (λ bits. held_by (lone ∷ []) (bits_of_bytes (prefix ++ s ∷ []) ++ bits))
    ≡ lone_root H lone.0 lone.1 (slot_height (length prefix))
lone_alone H lone prefix s is lt begins =
    ap (λ k. root_of_levels H k held) (sym size) ∙ alone_root H held rest others
    ∙ ap (λ o. value_above H 0 [] (unwrap_or o (empty_root H 0)) rest) here
  where
    depth : ℕ
    depth = length prefix

    p : List Bool
    p = bits_of_bytes (prefix ++ s ∷ [])

    rest : List Bool
    rest = last_bits lone.0 (slot_height depth)

    held : List Bool → Option (List ℕ)
    held q = held_by (lone ∷ []) (p ++ q)

    size : length rest ≡ slot_height depth
    size = length-bits_from lone.0 _ _

    whole : p ++ rest ≡ last_bits lone.0 256
    whole =
        let left : 256 - 8 * (depth + 1) ≡ slot_height depth = omega arith in
        (λ i. (ap bits_of_bytes (sym begins) ∙ bits_of_taken lone.0 (depth + 1) (omega arith)) i
        ++ last_bits lone.0 (sym left i)) ∙ sym (key_at lone.0 _ (omega arith))

    here : held rest ≡ Some lone.1
    here = ap (λ bits. held_by (lone ∷ []) bits) whole
        ∙ ap (λ b. option_map (λ (l : List ℕ × List ℕ). l.1) (cond b (Some lone) None))
        (same_bits-itself (last_bits lone.0 256))

    others : (q : List Bool) → ¬ (q ≡ rest) → held q ≡ None
    others q apart = ap (λ b. option_map (λ (l : List ℕ × List ℕ). l.1) (cond b (Some lone) None)) (false_from_ne_true _
        (λ same. apart (append_cancel_left p q rest (same_bits-true _ _ same ∙ sym whole))))
