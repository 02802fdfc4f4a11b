-- The bundle of one inclusion proof, and how it is shown.
use Rattle.std.proofs.Common.{◌≡◌, ◌≢◌, ℕ, ◌^◌, ◌<◌, true, false, nat_lt, List, [], ◌∷◌, ◌++◌, map, codes, Result, Err, ◌⊎◌, refl, sym, ap, ◌∙◌, ⊎_elim}
use Rattle.std.specs.List.{AllByRecursion, list_all}
use Rattle.std.proofs.lemmas.Bool.{ltb-true, lt-ltb, and_from, and_parts, cases_Bool}
use Rattle.hex.specs.Hex.{encode_lower}
use Rattle.warg_protobuf.specs.HashEntry.{Entry}
use Rattle.warg_protobuf.specs.LogProofBundle.{log_bytes}
use Rattle.warg_log.specs.declared.node.Node.{Node}
use Rattle.warg_bundle.specs.declared.log.error.BundleError.{BundleError}
use Rattle.warg_bundle.specs.declared.log.error.BundleError.TheVariants.{Memory}
use Rattle.warg_log.specs.Claims.{InclusionClaim}
use Rattle.warg_bundle.specs.LogBundles.{Bundle, bundle_message, entry_of, NodesFit}
use Rattle.warg_program.specs.Text.{bytes_or_refusal, numbers_fit}

-- ---- numbers that fit

fit_all : {X Y : Type 0} (f : Y → ℕ) (g : X → Y) (xs : List X) → AllByRecursion (λ x. f (g x) < 2 ^ 32) xs
    → list_all (λ y. nat_lt (f y) (2 ^ 32)) (map g xs) ≡ true
fit_all f g [] all = refl
fit_all f g (x ∷ xs) all = and_from _ _ (lt-ltb (f (g x)) (2 ^ 32) all.0) (fit_all f g xs all.1)

all_fit : {X Y : Type 0} (f : Y → ℕ) (g : X → Y) (xs : List X) → list_all (λ y. nat_lt (f y) (2 ^ 32)) (map g xs) ≡ true
    → AllByRecursion (λ x. f (g x) < 2 ^ 32) xs
all_fit f g [] fits = tt
all_fit f g (x ∷ xs) fits = let parts = and_parts _ _ fits in
    (ltb-true (f (g x)) (2 ^ 32) parts.0, all_fit f g xs parts.1)

numbers_fit-bundle_message : (b : Bundle) → NodesFit b → numbers_fit (bundle_message b) ≡ true
numbers_fit-bundle_message b fits = and_from _ _ (fit_all (λ x. x) (λ (node : Node). node.0) b.included_nodes fits.0)
    (fit_all (λ (e : Entry). e.index) entry_of b.hashes fits.1)

nodes_fit : (b : Bundle) → numbers_fit (bundle_message b) ≡ true → NodesFit b
nodes_fit b fits = let parts = and_parts _ _ fits in (
  all_fit (λ x. x) (λ (node : Node). node.0) b.included_nodes parts.0,
  all_fit (λ (e : Entry). e.index) entry_of b.hashes parts.1,
)

-- the written form is shown, or that it doesn't fit
pub bytes_shown : (b : Bundle) (bytes shown : List ℕ) → NodesFit b → bytes ≡ log_bytes (bundle_message b)
    → shown ≡ bytes → bytes_or_refusal (bundle_message b) ≡ codes "bundle " ++ encode_lower shown
bytes_shown b bytes shown fits written same = rw (numbers_fit-bundle_message b fits)
    (ap (λ l. codes "bundle " ++ encode_lower l) (sym (same ∙ written)))

pub too_large_shown : (b : Bundle) → ¬ NodesFit b → bytes_or_refusal (bundle_message b) ≡ codes "refused too large"
too_large_shown b too_large = ⊎_elim
    (λ (t : numbers_fit (bundle_message b) ≡ true). absurd (too_large (nodes_fit b t)))
    (λ (t : numbers_fit (bundle_message b) ≡ false). rw t refl)
    (cases_Bool (numbers_fit (bundle_message b)))

-- ---- the bundle of one proof

-- the one proof
pub claim_is : (p : InclusionClaim) (node : Node) (n : ℕ) → p.leaf ≡ node → p.log_length ≡ n
    → p ≡ record { leaf = node; log_length = n }
claim_is p node n e f = λ i. record { leaf = e i; log_length = f i }

-- a fault that isn't a lack of memory is the definition's
pub fault_told : (e : BundleError) (made : Result Bundle BundleError) → (e ≡ Memory) ⊎ (made ≡ Err e) → e ≢ Memory
    → made ≡ Err e
fault_told e made why named = ⊎_elim (λ m. absurd (named m)) (λ is. is) why
