-- Claims that are untrue with no collision, and two byte strings that collide somewhere.
use Rattle.std.proofs.Common.{◌≡◌, ℕ, zero, suc, ◌+◌, ◌*◌, ◌^◌, ◌<◌, ◌≤◌, ◌==◌, ◌⊎◌, inl, inr, true, List, [], ◌∷◌, length, Ok, refl, sym, ap, ◌∙◌, arith, pow-suc}
use Rattle.std.specs.Prelude.{replicate, if◌then◌else◌}
use Rattle.std.specs.List.{AllByRecursion}
use Rattle.std.specs.Cmp.Lexicographic.{bytes_decides}
use Rattle.std.proofs.lemmas.Bool.{cases_lt, cases_Bool, eqb-true, eqb-false}
use Rattle.std.proofs.lemmas.List.{length-replicate}
use Rattle.std.proofs.lemmas.Bool.Decides.{nat_tests}
use Rattle.std.proofs.lemmas.List.Elements.{recursion_from_All}
use Rattle.warg_crypto.proofs.ForCallers.{zeros}
use Rattle.warg_crypto.specs.Digests.{IsByte}
use Rattle.warg_paths.specs.Pieces.{pieces}
use Rattle.warg_paths.specs.Paths.{root_down}
use Rattle.warg_crypto.specs.Collisions.{GivesHashes, Collides, SomeCollision}
use Rattle.warg_log.specs.Claims.{RootAndLength}
use Rattle.warg_log.specs.Tree.{root_within, front_of, front_within}
use Rattle.warg_witness.specs.Inputs.{plain_input}
use Rattle.warg_paths.specs.Ways.{IsOnWay}
use Rattle.warg_paths.specs.Ways.IsOnWay.{whole, front, rest}
use Rattle.warg_witness.specs.PathPlaced.{IsRecordPlaced}
use Rattle.warg_check.specs.Claims.{Claim, Evidence, verdict}
use Rattle.warg_claims.specs.Worlds.{World, HasRoots, IsTrueOf}
use Rattle.warg_check.specs.Claims.Claim.{entry_at}
use Rattle.warg_check.specs.Claims.Evidence.{by_path}
use Rattle.warg_claims.specs.Placed.{IsPlaced}

-- without digests there is one range on the way
alone : {m a n k b j : ℕ} {digests : List (List ℕ)} → IsOnWay m a n [] k b j digests → (digests ≡ []) × (b ≡ a)
    × (j ≡ n)
alone whole = (refl, refl, refl)
alone (front k b j top below way more lt) = let none = (alone way).0 in absurd cc
alone (rest k b j top below way more le) = let none = (alone way).0 in absurd cc

-- of no entry, or one without bytes, the empty path shows no collision at the value without bytes
none_placed : (H : List ℕ → List ℕ) (entries : List (List ℕ))
    → ((n : ℕ) → n ≡ length entries → plain_input H entries 0 n ≡ 0 ∷ [])
    → ¬ SomeCollision H (IsRecordPlaced H 0 [] [] entries)
none_placed H entries plain c =
    let at = alone c.placed.on_way in
    let first : c.first ≡ 0 ∷ [] = let is = rw at.0 at c.placed.evaluation in cc in
    let second : c.second ≡ 0 ∷ [] = rw at.1 at c.placed.plain ∙ plain _ at.2 in c.collide.differ (first ∙ sym second)

-- The log of one entry without bytes, and the log of none.
abbrev one : (List ℕ → List ℕ) → RootAndLength
one H = record { root = H (0 ∷ []); length = 1 }

abbrev none : (List ℕ → List ℕ) → RootAndLength
none H = record { root = H []; length = 0 }

shown : (H : List ℕ → List ℕ) → verdict H (entry_at 0 [] (one H)) (by_path []) ≡ Ok true
unfolding pieces root_down
shown H = ap Ok ((bytes_decides (H (0 ∷ [])) (H (0 ∷ []))).1 refl)

pub verdict_is_needed : (H : List ℕ → List ℕ) → ¬ ((claim : Claim) (evidence : Evidence) (world : World claim)
    → HasRoots H claim world → ¬ IsTrueOf claim world → SomeCollision H (IsPlaced H claim evidence world))
unfolding pieces
verdict_is_needed H law = none_placed H [] (λ n is. rw is refl)
    (law (entry_at 0 [] (none H)) (by_path []) [] (record { root = refl; length = refl }) (λ is. absurd cc))

pub roots_are_needed : (H : List ℕ → List ℕ) → ¬ ((claim : Claim) (evidence : Evidence) (world : World claim)
    → verdict H claim evidence ≡ Ok true → ¬ IsTrueOf claim world → SomeCollision H (IsPlaced H claim evidence world))
unfolding pieces
roots_are_needed H law = none_placed H [] (λ n is. rw is refl)
    (law (entry_at 0 [] (one H)) (by_path []) [] (shown H) (λ is. absurd cc))

pub untruth_is_needed : (H : List ℕ → List ℕ) → ¬ ((claim : Claim) (evidence : Evidence) (world : World claim)
    → verdict H claim evidence ≡ Ok true → HasRoots H claim world → SomeCollision H (IsPlaced H claim evidence world))
unfolding pieces root_within
untruth_is_needed H law = none_placed H ([] ∷ []) (λ n is. rw is refl)
    (law (entry_at 0 [] (one H)) (by_path []) ([] ∷ []) (shown H) (record { root = refl; length = refl }))

-- Two entries, of no bytes and of 32, and their log where each byte string is its own digest: its root is also that
-- over
-- the entry of one byte and the 32.
abbrev own : RootAndLength
own = record { root = 1 ∷ 0 ∷ 0 ∷ zeros; length = 2 }

pub hashes_are_needed : ¬ ((H : List ℕ → List ℕ) (claim : Claim) (evidence : Evidence) (world : World claim)
    → verdict H claim evidence ≡ Ok true → HasRoots H claim world → ¬ IsTrueOf claim world
    → SomeCollision H (IsPlaced H claim evidence world))
unfolding pieces root_down root_within front_of front_within
hashes_are_needed law =
    let c = law (λ m. m) (entry_at 0 (0 ∷ []) own) (by_path zeros) ([] ∷ zeros ∷ []) refl
    (record { root = refl; length = refl }) (λ is. absurd cc) in
    c.collide.differ c.collide.same

-- more numbers than there are below a bound aren't all different
looked_for : (k : ℕ) (f : ℕ → ℕ) (v : ℕ) → ((i : ℕ) × (i < k) × (f i ≡ v)) ⊎ ((i : ℕ) → i < k → f i ≡ v → ⊥)
looked_for zero f v = inr (λ i lt is. absurd (omega arith))
looked_for (suc k) f v = elim (looked_for k f v) [
  | inl found ↦ inl (found.0, omega (arith, found.1), found.2)
  | inr none ↦ elim (cases_Bool (f k == v)) [
    | inl here ↦ inl (k, omega arith, eqb-true (f k) v here)
    | inr other ↦ inr (λ i lt is. elim (cases_lt i k) [
      | inl below ↦ none i below is
      | inr last ↦ let same : i
          ≡ k = omega arith in eqb-false (f k) v other (rw same at is)
    ])
  ]
]

moved_below : (n x v : ℕ) → x < suc n → v < suc n → (x ≡ v → ⊥) → (if x == n then v else x) < n
moved_below n x v low below other = grind (arith, nat_tests)

moved_same : (n x y v : ℕ) → (x ≡ v → ⊥) → (y ≡ v → ⊥) → (if x == n then v else x) ≡ (if y == n then v else y) → x ≡ y
moved_same n x y v first second same = grind (arith, nat_tests)

two_same : (n : ℕ) (f : ℕ → ℕ) → ((i : ℕ) → i ≤ n → f i < n) → (i : ℕ) × (j : ℕ) × (i < j) × (f i ≡ f j) × (j ≤ n)
two_same zero f below = absurd (let low = below 0 (omega arith) in omega arith)
two_same (suc n) f below = elim (looked_for (suc n) f (f (suc n))) [
  | inl found ↦ (found.0, suc n, found.1, found.2, omega arith)
  | inr none ↦
      let two = two_same n (λ i. if f i == n then f (suc n) else f i)
      (λ i le. moved_below n (f i) (f (suc n)) (below i (omega arith)) (below (suc n) (omega arith))
      (none i (omega arith))) in (
        two.0,
        two.1,
        two.2,
        moved_same n (f two.0) (f two.1) (f (suc n)) (none two.0 (omega (arith, two.2, two.4)))
            (none two.1 (omega (arith, two.4))) two.3,
        omega (arith, two.4),
      )
]

-- the number that bytes are, the least first
number : List ℕ → ℕ
number [] = 0
number (b ∷ bytes) = b + 256 * number bytes

number_below : (bytes : List ℕ) → AllByRecursion IsByte bytes → number bytes < 256 ^ length bytes
unfolding number
number_below [] all = omega arith
number_below (b ∷ bytes) all = let low = number_below bytes all.1 in omega (arith, pow-suc, all.0)

number_same : (xs ys : List ℕ) → length xs ≡ length ys → AllByRecursion IsByte xs → AllByRecursion IsByte ys
    → number xs ≡ number ys → xs ≡ ys
unfolding number
number_same [] [] len all all' same = refl
number_same [] (y ∷ ys) len all all' same = absurd (omega arith)
number_same (x ∷ xs) [] len all all' same = absurd (omega arith)
number_same (x ∷ xs) (y ∷ ys) len all all' same =
    let head : x ≡ y = omega (arith, all.0, all'.0) in
    let tail : xs ≡ ys = number_same xs ys (omega arith) all.1 all'.1 (omega (arith, all.0, all'.0)) in cc

pub some_collide : (H : List ℕ → List ℕ) → GivesHashes H → (pair : List ℕ × List ℕ) × Collides H pair
some_collide H gives =
    let bytes : (m : List ℕ) → AllByRecursion IsByte (H m) = λ m. recursion_from_All IsByte (H m) (gives m).are_bytes in
    let two = two_same (256 ^ 32) (λ i. number (H (replicate i 0)))
    (λ i le. rw (gives _).has_32 at (number_below _ (bytes (replicate i 0)))) in (
      (replicate two.0 0, replicate two.1 0),
      record {
        differ = λ equal. let len : two.0 ≡ two.1 = sym (length-replicate two.0 0) ∙ ap length equal
            ∙ length-replicate two.1 0 in omega (arith, two.2);
        same = number_same _ _ ((gives _).has_32 ∙ sym (gives _).has_32) (bytes _) (bytes _) two.3;
      },
    )
