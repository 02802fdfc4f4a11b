-- Slots with the same digests at the same bytes.
use Rattle.std.proofs.Common.{◌≡◌, ℕ, ◌+◌, ◌<◌, cond, eqb, List, [], ◌∷◌, length, map, take, get_or, refl, sym, ap, ◌∙◌}
use Rattle.std.proofs.lemmas.List.{take_more, map-append}
use Rattle.warg_crypto.specs.EmptyTrees.{empty_root}
use Rattle.warg_pages.specs.Slots.{SlotAt}
use Rattle.warg_pages.specs.Pages.{digest_at}

abbrev pub byte_and_digest : SlotAt → ℕ × List ℕ
byte_and_digest x = (x.byte, x.digest)

digest_among : (List ℕ → List ℕ) → ℕ → List (ℕ × List ℕ) → ℕ → List ℕ
digest_among H height [] s = empty_root H height
digest_among H height (x ∷ xs) s = cond (eqb x.0 s) x.1 (digest_among H height xs s)

digests_are : (H : List ℕ → List ℕ) (height s : ℕ) (xs : List SlotAt) → digest_at H height xs s ≡ digest_among H height
    (map byte_and_digest xs) s
unfolding digest_at digest_among
digests_are H height s [] = refl
digests_are H height s (x ∷ xs) = rw (digests_are H height s xs) refl

pub same_digests : (xs ys : List SlotAt) → map byte_and_digest xs ≡ map byte_and_digest ys
    → (H : List ℕ → List ℕ) (height s : ℕ) → digest_at H height xs s ≡ digest_at H height ys s
same_digests xs ys e H height s = digests_are H height s xs ∙ ap (λ l. digest_among H height l s) e
    ∙ sym (digests_are H height s ys)

pub one_more_same : (xs ys : List SlotAt) (i : ℕ) (x y : SlotAt) → i < length xs → i < length ys → x ≡ get_or xs i x
    → y ≡ get_or ys i y → x.byte ≡ y.byte → x.digest ≡ y.digest
    → map byte_and_digest (take i xs) ≡ map byte_and_digest (take i ys) → map byte_and_digest (take (i + 1) xs)
    ≡ map byte_and_digest (take (i + 1) ys)
one_more_same xs ys i x y lt within is are byte digest e =
    rw (take_more xs i x lt, take_more ys i y within, ← is, ← are, map-append, map-append, e, byte, digest) refl
