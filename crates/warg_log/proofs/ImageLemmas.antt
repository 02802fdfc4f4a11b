-- Messages of logs: their digests, and stacks of balanced roots.
use Rattle.std.proofs.Common.{◌≡◌, ℕ, ◌+◌, ◌-◌, ◌^◌, ◌<◌, ◌≤◌, List, [], ◌∷◌, length, map, nat_eq, true, false, Ok, Err, None, refl, sym, ap, ◌∙◌, arith}
use Rattle.std.specs.List.{AllByRecursion, zip}
use Rattle.std.specs.Cmp.Lexicographic.{pointwise, bytes_decides}
use Rattle.std.proofs.lemmas.Simd.{map-map}
use Rattle.std.proofs.lemmas.Slice.Zip.{firsts-zip, seconds-zip}
use Rattle.std.proofs.lemmas.Nat.{pow_pos}
use Rattle.std.proofs.lemmas.Bool.{eq-eqb}
use Rattle.warg_protobuf.specs.HashEntry.{Entry}
use Rattle.warg_protobuf.specs.StackLog.{StackImage}
use Rattle.warg_protobuf.specs.declared.value_error.DecodeError.TheVariants.{NotAStack}
use Rattle.warg_log.specs.Nodes.{end_of, balanced_roots}
use Rattle.warg_log.specs.Blocks.{Blocks}
use Rattle.warg_protobuf.specs.Decoding.{first_fault, digest_fault}
use Rattle.warg_log.specs.Images.{root_entry, stack_message, stack_in}
use Rattle.warg_protobuf.proofs.ForCallers.{all_weaken}
use Rattle.warg_log.proofs.NodeLemmas.{last_leaf}
use Rattle.warg_log.proofs.BalancedLemmas.{balanced_first, has_first_over}
use Rattle.warg_log.proofs.OrderLemmas.{roots_end}

pub all_good : (ds : List (List ℕ)) → AllByRecursion (λ d. length d ≡ 32) ds → first_fault digest_fault ds ≡ None
all_good [] lens = refl
all_good (d ∷ ds) lens = rw (eq-eqb (length d) 32 lens.0, all_good ds lens.1) refl

-- a message and the log that it holds
pub numbers_zip : (ts : List ℕ) (ds : List (List ℕ)) → length ds ≡ length ts
    → map (λ (e : Entry). e.index) (map root_entry (zip ts ds)) ≡ ts
numbers_zip ts ds len = search (map-map, firsts-zip)

pub zip_entries : (es : List Entry)
    → map root_entry (zip (map (λ (e : Entry). e.index) es) (map (λ (e : Entry). e.hash) es)) ≡ es
zip_entries [] = refl
zip_entries (e ∷ es) = ap (λ l. e ∷ l) (zip_entries es)

pub entries_again : (n : ℕ) (es : List Entry) → pointwise nat_eq (map (λ (e : Entry). e.index) es) (balanced_roots n)
    ≡ true → map root_entry (zip (balanced_roots n) (map (λ (e : Entry). e.hash) es)) ≡ es
entries_again n es same = rw (← (bytes_decides (map (λ (e : Entry). e.index) es) (balanced_roots n)).0 same)
    (zip_entries es)

pub stack_again : (n : ℕ) (ds : List (List ℕ)) → length ds ≡ length (balanced_roots n)
    → AllByRecursion (λ d. length d ≡ 32) ds
    → stack_in (record { length = n; stack = map root_entry (zip (balanced_roots n) ds) })
    ≡ Ok (record { len = n; digests = ds })
stack_again n ds count lens =
    let roots = balanced_roots n in
    rw (
      map-map,
      seconds-zip roots ds count,
      all_good ds lens,
      numbers_zip roots ds count,
      (bytes_decides roots roots).1 refl,
    ) refl

-- a message that is a log's, and one that is none's
module _ (n : ℕ) (es : List Entry) (good : first_fault digest_fault (map (λ (e : Entry). e.hash) es) ≡ None) where
  pub no_stack : pointwise nat_eq (map (λ (e : Entry). e.index) es) (balanced_roots n) ≡ false
      → stack_in (record { length = n; stack = es }) ≡ Err NotAStack
  no_stack other = rw (good, other) refl

pub none_stack : (n : ℕ) (es : List Entry) → pointwise nat_eq (map (λ (e : Entry). e.index) es) (balanced_roots n)
    ≡ false
    → (b : Blocks) → length b.digests ≡ length (balanced_roots b.len)
    → stack_message b ≡ record { length = n; stack = es } → ⊥
none_stack n es other b count is =
    let numbers = ap (λ (m : StackImage). map (λ (e : Entry). e.index) m.stack) (sym is)
    ∙ numbers_zip (balanced_roots b.len) b.digests count
    ∙ ap (λ (m : StackImage). balanced_roots m.length) is in
    cc (other, (bytes_decides (map (λ (e : Entry). e.index) es) (balanced_roots n)).1 numbers)

-- the lengths whose balanced roots fit in 32 bits
pub roots_fit : (n : ℕ) → n ≤ 2 ^ 31 → (n < 2 ^ 32) × AllByRecursion (λ t. t < 2 ^ 32) (balanced_roots n)
roots_fit n le = (
  omega arith,
  all_weaken (λ t. end_of t ≤ n) _ (λ t ends. omega (arith, last_leaf t, le)) _
      (roots_end n n (omega arith)),
)

pub roots_too_large : (n : ℕ) → 2 ^ 31 < n → (n < 2 ^ 32) × AllByRecursion (λ t. t < 2 ^ 32) (balanced_roots n) → ⊥
roots_too_large n above fits = grind (arith, has_first_over (0 + 2 ^ 31) (n - 2 ^ 31), balanced_first 31 0 n, pow_pos)
