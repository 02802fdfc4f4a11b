-- The bits of digests, in parts.
use Rattle.std.proofs.Common.{◌≡◌, ℕ, suc, ◌+◌, ◌-◌, ◌*◌, ◌<◌, ◌≤◌, Bool, not, List, [], ◌∷◌, ◌++◌, length, get_or, drop, Option, refl, sym, ap, ◌∙◌, arith, unwrap_or}
use Rattle.std.proofs.Math.Seq.{drop-cons}
use Rattle.warg_crypto.specs.EmptyTrees.{empty_root}
use Rattle.warg_crypto.specs.Tree.{input_beside}
use Rattle.warg_map.specs.Bits.{bit_at, bits_from, last_bits}
use Rattle.warg_map.proofs.ForCallers.{last_bits-more, last_bits-none, length-last_bits}
use Rattle.warg_pages.specs.Private.Descents.{value_above, lone_root}
use Rattle.warg_pages.proofs.KeyPrefixes.{length-bits_from, bits_from-append}
use Rattle.warg_pages.proofs.PageFormat.{same_parts}

pub bits_from-one : (k : List ℕ) (i : ℕ) → bits_from k i 1 ≡ bit_at k i ∷ []
unfolding bits_from
bits_from-one k i = refl

pub bits_from-cons : (k : List ℕ) (i n : ℕ) → bits_from k i (n + 1) ≡ bit_at k i ∷ bits_from k (i + 1) n
bits_from-cons k i n = let all : n + 1 ≡ 1 + n = omega arith in
    rw (all, bits_from-append k i 1 n, bits_from-one k i) refl

pub one_bit_more : (a b : List ℕ) (n : ℕ) → bits_from a 0 n ≡ bits_from b 0 n → bit_at a n ≡ bit_at b n
    → bits_from a 0 (n + 1) ≡ bits_from b 0 (n + 1)
one_bit_more a b n e same =
    let at : 0 + n ≡ n = omega arith in
    rw (bits_from-append a 0 n 1, bits_from-append b 0 n 1, at, bits_from-one a n, bits_from-one b n, e, same) refl

-- the first bits of a digest, and the others
pub key_at : (k : List ℕ) (n : ℕ) → n ≤ 256 → last_bits k 256 ≡ bits_from k 0 n ++ last_bits k (256 - n)
key_at k n le =
    let all : 256 ≡ n + (256 - n) = omega arith in
    let at : 0 + n ≡ 256 - (256 - n) = omega arith in
    ap (bits_from k 0) all ∙ rw (bits_from-append k 0 n (256 - n), at) refl

-- the bits from one on, around another
pub last_at : (k : List ℕ) (i s : ℕ) → i ≤ s → s < 256 → last_bits k (256 - i) ≡ bits_from k i (s - i) ++ bit_at k s
    ∷ last_bits k (255 - s)
last_at k i s le lt =
    let from : 256 - (256 - i) ≡ i = omega arith in
    let all : 256 - i ≡ s - i + (255 - s + 1) = omega arith in
    let at : i + (s - i) ≡ s = omega arith in
    let next : s + 1 ≡ 256 - (255 - s) = omega arith in
    rw (from, all, bits_from-append k i (s - i) (255 - s + 1), at, bits_from-cons k s (255 - s), next) refl

-- bits that are shared
pub shared_from : (a b : List ℕ) (i n : ℕ) → i ≤ n → bits_from a 0 n ≡ bits_from b 0 n
    → (bits_from a 0 i ≡ bits_from b 0 i) × (bits_from a i (n - i) ≡ bits_from b i (n - i))
shared_from a b i n le e =
    let all : n ≡ i + (n - i) = omega arith in
    let at : 0 + i ≡ i = omega arith in
    let split : (k : List ℕ) → bits_from k 0 n ≡ bits_from k 0 i ++ bits_from k i (n - i) =
    λ k. ap (bits_from k 0) all ∙ rw (bits_from-append k 0 i (n - i), at) refl in
    same_parts _ _ _ _ (length-bits_from a 0 i ∙ sym (length-bits_from b 0 i)) (sym (split a) ∙ e ∙ split b)

pub shared_bit : (a b : List ℕ) (n s : ℕ) → s < n → bits_from a 0 n ≡ bits_from b 0 n → bit_at a s ≡ bit_at b s
shared_bit a b n s lt e =
    let all : n - s ≡ n - s - 1 + 1 = omega arith in
    let up = (shared_from a b s n (omega arith) e).1 in
    let cons = rw (all, bits_from-cons a s (n - s - 1), bits_from-cons b s (n - s - 1)) at up in
    cc

pub other_bit_is : (b c : Bool) → ¬ (b ≡ c) → c ≡ not b
other_bit_is b c n = grind arith

-- one level more
pub lone_root-none : (H : List ℕ → List ℕ) (k leaf : List ℕ) → leaf ≡ lone_root H k leaf 0
unfolding value_above
lone_root-none H k leaf = ap (value_above H 0 [] leaf) (sym (last_bits-none k))

pub lone_root-more : (H : List ℕ → List ℕ) (k leaf : List ℕ) (n : ℕ) → n < 256
    → H (input_beside (bit_at k (255 - n)) (empty_root H n) (lone_root H k leaf n)) ≡ lone_root H k leaf (n + 1)
unfolding value_above
lone_root-more H k leaf n lt =
    let height : length (last_bits k n) + 0 ≡ n = rw (length-last_bits k n) (omega arith) in
    rw (last_bits-more k n lt, height) refl

pub page_value-more : (H : List ℕ → List ℕ) (height : ℕ) (peers : List (Option (List ℕ))) (o : Option (List ℕ))
    (foot key : List ℕ) (depth passed : ℕ) → length peers ≡ 8 → passed < 8 → o ≡ get_or peers (7 - passed) o
    → H (input_beside (bit_at key (8 * depth + (7 - passed))) (unwrap_or o (empty_root H (height + passed)))
    (value_above H height (drop (8 - passed) peers) foot (bits_from key (8 * depth + (8 - passed)) passed)))
    ≡ value_above H height (drop (8 - (passed + 1)) peers) foot
    (bits_from key (8 * depth + (8 - (passed + 1))) (passed + 1))
unfolding value_above
page_value-more H height peers o foot key depth passed eight lt is =
    let first : 8 - (passed + 1) ≡ 7 - passed = omega arith in
    let next : suc (7 - passed) ≡ 8 - passed = omega arith in
    let bit : 8 * depth + (7 - passed) + 1 ≡ 8 * depth + (8 - passed) = omega arith in
    let levels : length (bits_from key (8 * depth + (8 - passed)) passed) + height ≡ height + passed =
    rw (length-bits_from key _ passed) (omega arith) in
    rw (
      first,
      drop-cons peers (7 - passed) o (omega arith),
      ← is,
      next,
      bits_from-cons key _ passed,
      bit,
      levels,
    ) refl
