-- The first 32 bytes, where there are no more, are the list itself.
use Rattle.std.proofs.Common.{◌≡◌, ℕ, Bool, true, false, nat_eq, nat_lt, List, [], ◌∷◌, length, take, refl, sym, ◌∙◌, ap, arith, subst}
use Rattle.std.specs.List.{All, list_all}
use Rattle.std.proofs.lemmas.Bool.{eq-eqb, lt-ltb, ltb-true, ltb-false, and_from}
use Rattle.std.proofs.lemmas.List.Elements.{All-head, All-tail}
use Rattle.std.proofs.Math.Seq.{take-length}
use Rattle.warg_crypto.specs.Digests.{IsByte}
use Rattle.warg_crypto.specs.WeakDigests.{same_or_sha256, Keeps}
use Rattle.warg_crypto.proofs.weak.Own32SupportedDigest.finish.Goals as goal

list_all-bytes : (m : List ℕ) → All IsByte m → list_all (λ b. nat_lt b 256) m ≡ true
list_all-bytes [] are = refl
list_all-bytes (b ∷ m) are = and_from (nat_lt b 256) (list_all (λ b. nat_lt b 256) m)
    (lt-ltb b 256 (All-head IsByte b m are)) (list_all-bytes m (All-tail IsByte b m are))

are_kept : (m : List ℕ) → length m ≡ 32 → All IsByte m → m ≡ same_or_sha256 m
are_kept m has_32 are = rw (and_from (nat_eq (length m) 32) (list_all (λ b. nat_lt b 256) m)
    (eq-eqb (length m) 32 has_32) (list_all-bytes m are)) refl

first_is : (first m : List ℕ) → length first ≡ 32 → Keeps first 32 m → first ≡ m
first_is first m has_32 keeps = by_test (nat_lt 32 (length m)) refl
  where
    by_test : (b : Bool) → nat_lt 32 (length m) ≡ b → first ≡ m
    by_test true more = let e : 32 ≡ 33 = keeps.long (ltb-true 32 (length m) more) in absurd (omega (arith, e))
    by_test false few =
        let kept = keeps.short (ltb-false 32 (length m) few) in
        sym (take-length first) ∙ ap (λ n. take n first) has_32 ∙ kept.1

pub returns-then-self-eq32 : goal.returns-then-self-eq32
returns-then-self-eq32 c m (_, keeps) =
    let is : c.args.self.first ≡ m = first_is _ m c.is_digest.ensures.has_32
    (subst (λ n. Keeps c.args.self.first n m) c.if-self-eq32.true keeps) in
    is ∙ are_kept m (ap length (sym is) ∙ c.is_digest.ensures.has_32)
    (subst (All IsByte) is c.is_digest.ensures.are_bytes)
