-- The table of empty trees, row by row, by computing SHA-256.
use Rattle.std.proofs.Common.{◌≡◌, ℕ, zero, suc, Bool, true, false, ◌&&◌, nat_eq, ◌+◌, ◌≤◌, List, [], ◌∷◌, ◌++◌, length, take, drop, get_or, refl, sym, ◌∙◌, ap, arith, add-one, lit≤}
use Rattle.std.proofs.lemmas.Bool.{eqb-true, and_parts}
use Rattle.sha2.specs.Sha256.{sha256, digest_bytes, first_words}
use Rattle.warg_crypto.specs.EmptyTrees.{empty_root}
use Rattle.warg_crypto.specs.declared.empty.TheConstants.{EMPTY_TREES}
use Rattle.warg_crypto.proofs.QuickSha256.{quick_sha256, quick_is_sha256}

-- a branch over two empty trees, in the pieces in which it is hashed
pub above : (H : List ℕ → List ℕ) (k : ℕ) (empty : List ℕ) → empty ≡ empty_root H k → H (1 ∷ (empty ++ empty))
    ≡ empty_root H (k + 1)
unfolding empty_root
above H k empty is = rw (is, add-one) refl

-- each row is the digest of the branch over the row before it twice, from `row` on
Follow : List ℕ → List (List ℕ) → Type 0
Follow row [] = Unit {0}
Follow row (next ∷ rows) = (sha256 (1 ∷ (row ++ row)) ≡ next) × Follow next rows

-- the same by a test, which computes each digest once
are_same : List ℕ → List ℕ → Bool
are_same [] [] = true
are_same [] (y ∷ ys) = false
are_same (x ∷ xs) [] = false
are_same (x ∷ xs) (y ∷ ys) = nat_eq x y && are_same xs ys

same : (xs ys : List ℕ) → are_same xs ys ≡ true → xs ≡ ys
unfolding are_same
same [] [] is = refl
same [] (y ∷ ys) is = absurd (cc)
same (x ∷ xs) [] is = absurd (cc)
same (x ∷ xs) (y ∷ ys) is =
    let parts = and_parts (nat_eq x y) (are_same xs ys) is in
    ap (λ z. z ∷ xs) (eqb-true x y parts.0) ∙ ap (λ zs. y ∷ zs) (same xs ys parts.1)

do_follow : List ℕ → List (List ℕ) → Bool
do_follow row [] = true
do_follow row (next ∷ rows) = are_same (quick_sha256 (1 ∷ (row ++ row))) next && do_follow next rows

follow_by : (row : List ℕ) (rows : List (List ℕ)) → do_follow row rows ≡ true → Follow row rows
unfolding Follow do_follow
follow_by row [] is = tt
follow_by row (next ∷ rows) is =
    let branch = 1 ∷ (row ++ row) in
    let parts = and_parts (are_same (quick_sha256 branch) next) (do_follow next rows) is in
    (sym (quick_is_sha256 branch) ∙ same (quick_sha256 branch) next parts.0, follow_by next rows parts.1)

-- rows that follow, and then others that follow the last of them
follow_on : (n : ℕ) (row : List ℕ) (rows : List (List ℕ)) → n ≤ length rows → Follow row (take n rows)
    → Follow (get_or (row ∷ rows) n []) (drop n rows) → Follow row rows
unfolding Follow
follow_on zero row rows within front others = others
follow_on (suc n) row [] within front others = tt
follow_on (suc n) row (next ∷ rows) within front others = (front.0, follow_on n next rows (omega arith) front.1 others)

-- rows that follow the empty tree of a height are the empty trees above it
row_is : (k i : ℕ) (row : List ℕ) (rows : List (List ℕ)) → Follow row rows → row ≡ empty_root sha256 k
    → i ≤ length rows → get_or (row ∷ rows) i [] ≡ empty_root sha256 (k + i)
unfolding Follow
row_is k zero row rows follow is within = is ∙ ap (empty_root sha256) (omega arith)
row_is k (suc i) row [] follow is within = absurd (omega arith)
row_is k (suc i) row (next ∷ rows) follow is within =
    row_is (k + 1) i next rows follow.1 (sym follow.0 ∙ above sha256 k row is) (omega arith)
    ∙ ap (empty_root sha256) (omega arith)

first : sha256 (0 ∷ []) ≡ get_or EMPTY_TREES 0 []
unfolding quick_sha256 digest_bytes first_words
first = sym (quick_is_sha256 (0 ∷ []))

part_0 : Follow (get_or EMPTY_TREES 0 []) (take 32 (drop 1 EMPTY_TREES))
unfolding do_follow are_same quick_sha256 digest_bytes first_words
part_0 = follow_by (get_or EMPTY_TREES 0 []) (take 32 (drop 1 EMPTY_TREES)) refl

part_1 : Follow (get_or EMPTY_TREES 32 []) (take 32 (drop 33 EMPTY_TREES))
unfolding do_follow are_same quick_sha256 digest_bytes first_words
part_1 = follow_by (get_or EMPTY_TREES 32 []) (take 32 (drop 33 EMPTY_TREES)) refl

part_2 : Follow (get_or EMPTY_TREES 64 []) (take 32 (drop 65 EMPTY_TREES))
unfolding do_follow are_same quick_sha256 digest_bytes first_words
part_2 = follow_by (get_or EMPTY_TREES 64 []) (take 32 (drop 65 EMPTY_TREES)) refl

part_3 : Follow (get_or EMPTY_TREES 96 []) (take 32 (drop 97 EMPTY_TREES))
unfolding do_follow are_same quick_sha256 digest_bytes first_words
part_3 = follow_by (get_or EMPTY_TREES 96 []) (take 32 (drop 97 EMPTY_TREES)) refl

part_4 : Follow (get_or EMPTY_TREES 128 []) (take 32 (drop 129 EMPTY_TREES))
unfolding do_follow are_same quick_sha256 digest_bytes first_words
part_4 = follow_by (get_or EMPTY_TREES 128 []) (take 32 (drop 129 EMPTY_TREES)) refl

part_5 : Follow (get_or EMPTY_TREES 160 []) (take 32 (drop 161 EMPTY_TREES))
unfolding do_follow are_same quick_sha256 digest_bytes first_words
part_5 = follow_by (get_or EMPTY_TREES 160 []) (take 32 (drop 161 EMPTY_TREES)) refl

part_6 : Follow (get_or EMPTY_TREES 192 []) (take 32 (drop 193 EMPTY_TREES))
unfolding do_follow are_same quick_sha256 digest_bytes first_words
part_6 = follow_by (get_or EMPTY_TREES 192 []) (take 32 (drop 193 EMPTY_TREES)) refl

part_7 : Follow (get_or EMPTY_TREES 224 []) (take 32 (drop 225 EMPTY_TREES))
unfolding do_follow are_same quick_sha256 digest_bytes first_words
part_7 = follow_by (get_or EMPTY_TREES 224 []) (take 32 (drop 225 EMPTY_TREES)) refl

nothing : Follow (get_or EMPTY_TREES 256 []) (drop 257 EMPTY_TREES)
unfolding Follow
nothing = tt

from_7 : Follow (get_or EMPTY_TREES 224 []) (drop 225 EMPTY_TREES)
from_7 = follow_on 32 (get_or EMPTY_TREES 224 []) (drop 225 EMPTY_TREES) (lit≤ tt) part_7 nothing

from_6 : Follow (get_or EMPTY_TREES 192 []) (drop 193 EMPTY_TREES)
from_6 = follow_on 32 (get_or EMPTY_TREES 192 []) (drop 193 EMPTY_TREES) (lit≤ tt) part_6 from_7

from_5 : Follow (get_or EMPTY_TREES 160 []) (drop 161 EMPTY_TREES)
from_5 = follow_on 32 (get_or EMPTY_TREES 160 []) (drop 161 EMPTY_TREES) (lit≤ tt) part_5 from_6

from_4 : Follow (get_or EMPTY_TREES 128 []) (drop 129 EMPTY_TREES)
from_4 = follow_on 32 (get_or EMPTY_TREES 128 []) (drop 129 EMPTY_TREES) (lit≤ tt) part_4 from_5

from_3 : Follow (get_or EMPTY_TREES 96 []) (drop 97 EMPTY_TREES)
from_3 = follow_on 32 (get_or EMPTY_TREES 96 []) (drop 97 EMPTY_TREES) (lit≤ tt) part_3 from_4

from_2 : Follow (get_or EMPTY_TREES 64 []) (drop 65 EMPTY_TREES)
from_2 = follow_on 32 (get_or EMPTY_TREES 64 []) (drop 65 EMPTY_TREES) (lit≤ tt) part_2 from_3

from_1 : Follow (get_or EMPTY_TREES 32 []) (drop 33 EMPTY_TREES)
from_1 = follow_on 32 (get_or EMPTY_TREES 32 []) (drop 33 EMPTY_TREES) (lit≤ tt) part_1 from_2

from_0 : Follow (get_or EMPTY_TREES 0 []) (drop 1 EMPTY_TREES)
from_0 = follow_on 32 (get_or EMPTY_TREES 0 []) (drop 1 EMPTY_TREES) (lit≤ tt) part_0 from_1

-- each row of the table is the empty tree of its place
pub row_of_table : (height : ℕ) → height ≤ 256 → get_or EMPTY_TREES height [] ≡ empty_root sha256 height
unfolding empty_root
row_of_table height within =
    row_is 0 height (get_or EMPTY_TREES 0 []) (drop 1 EMPTY_TREES) from_0 (sym first) within
    ∙ ap (empty_root sha256) (omega arith)
