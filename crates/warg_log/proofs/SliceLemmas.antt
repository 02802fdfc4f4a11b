-- A log's digests by node.
use Rattle.std.proofs.Common.{◌≡◌, ℕ, zero, suc, ◌+◌, ◌-◌, ◌*◌, ◌/◌, ◌%◌, ◌^◌, ◌<◌, ◌≤◌, List, [], ◌∷◌, length, set, Option, Some, None, unwrap_or, refl, ◌∙◌, arith, w64}
use Rattle.std.specs.Int.{trailing_zeros}
use Rattle.std.specs.Prelude.{MatchOption}
use Rattle.std.proofs.Math.Seq.{take-length}
use Rattle.std.proofs.lemmas.List.{get_or_default, get_or-set_same, get_or-set_other, length-set}
use Rattle.std.proofs.Math.Nat.{pow-suc, pow-le-pow_right}
use Rattle.std.proofs.lemmas.Nat.{pow_pos}
use Rattle.std.proofs.lemmas.Grind.{pow_more}
use Rattle.std.proofs.lemmas.List.FromFn.{fill_by_all, length-map-range_with_len, get_or-map-range_with_len}
use Rattle.std.proofs.Math.ListN.{get_or}
use Rattle.warg_log.specs.Ranges.{IsAligned}
use Rattle.warg_log.specs.Nodes.{end_of, number_of}
use Rattle.warg_crypto.specs.Tree.{branch}
use Rattle.warg_log.specs.Tree.{root_of, root_over, leaves_in, digest_or_spacer, slice_of, own_digest}
use Rattle.warg_log.specs.Private.Slices.{IsSliceUpTo}
use Rattle.warg_log.proofs.NodeLemmas.{node_is, over_at, halves, last_root, smaller_root, divides_most}
use Rattle.warg_log.proofs.RootLemmas.{root_over_one}
use Rattle.warg_log.proofs.CutLemmas.{root_over_split}

-- a node that exists stands inside the slice
pub inside_slice : (x n m : ℕ) → end_of x ≤ n → m ≡ 2 * n - 1 → x < m
inside_slice x n m exists is = omega (arith, pow_pos, node_is x)

-- a write at an odd place keeps the leaves
leaves_in-set : (t : List (List ℕ)) (i : ℕ) (v : List ℕ) → leaves_in (set t (suc (2 * i)) v) ≡ leaves_in t
leaves_in-set [] i v = refl
leaves_in-set (d ∷ []) i v = refl
leaves_in-set (d ∷ e ∷ t) zero v = refl
leaves_in-set (d ∷ e ∷ t) (suc i) v = grind (arith, leaves_in-set t i v)

module _ (H : List ℕ → List ℕ) (ds : List (List ℕ)) where
  -- a slice place by place
  pub record IsSlice (tree : List (List ℕ)) : Type 0 where
    pub len : length tree ≡ 2 * length ds - 1
    pub holds : (x : ℕ) → x < length tree → get_or tree x [] ≡ digest_or_spacer H ds x

  slice_is : (tree : List (List ℕ)) → IsSlice tree → tree ≡ slice_of H ds
  slice_is tree s = fill_by_all (digest_or_spacer H ds) tree (2 * length ds - 1) [] s.len
      (λ k lt. s.holds k (rw s.len lt))

  pub slice_of-is : (tree : List (List ℕ)) → tree ≡ slice_of H ds → IsSlice tree
  slice_of-is tree e = grind (arith, length-map-range_with_len, get_or-map-range_with_len)

  pub slice_size : (tree : List (List ℕ)) → tree ≡ slice_of H ds → length tree ≡ 2 * length ds - 1
  slice_size tree is = (slice_of-is tree is).len

  -- a log holds what stands at the place of a node that exists
  pub own_digest_held : (tree : List (List ℕ)) (x : ℕ) (d : List ℕ) → tree ≡ slice_of H ds → end_of x ≤ length ds
      → d ≡ get_or tree x d → Some d ≡ own_digest H ds x
  own_digest_held tree x d is exists read = grind (arith, slice_of-is, inside_slice, get_or_default)

  -- the root below a branch
  root_below : (k j : ℕ) → (j + 1) * 2 ^ suc k ≤ length ds → root_over H ds (j * 2 ^ suc k) (2 ^ suc k)
      ≡ branch H (root_over H ds (2 * j * 2 ^ k) (2 ^ k)) (root_over H ds ((2 * j + 1) * 2 ^ k) (2 ^ k))
  root_below k j ends = grind (arith, halves, root_over_split, pow_pos)

  -- what stands at a node's place, by its height and its place among those
  pub own_there : (k j : ℕ) → (j + 1) * 2 ^ k ≤ length ds → digest_or_spacer H ds (number_of k j)
      ≡ root_over H ds (j * 2 ^ k) (2 ^ k)
  own_there k j ends = grind (arith, over_at)

  pub own_leaf : (i : ℕ) → i < length ds → digest_or_spacer H ds (number_of 0 i) ≡ get_or ds i []
  own_leaf i lt = grind (arith, own_there 0 i, root_over_one)

  own_branch : (k j : ℕ) → (j + 1) * 2 ^ suc k ≤ length ds → digest_or_spacer H ds (number_of (suc k) j)
      ≡ branch H (digest_or_spacer H ds (number_of k (2 * j))) (digest_or_spacer H ds (number_of k (2 * j + 1)))
  own_branch k j ends = grind (arith, own_there, root_below)

  -- what is read at a node that is not too high
  pub read_low : (tree : List (List ℕ)) (h k j x : ℕ) (d : List ℕ) → IsSliceUpTo H ds tree h → x ≡ number_of k j
      → k ≤ h → x < length tree → d ≡ get_or tree x d → d ≡ digest_or_spacer H ds x
  read_low tree h k j x d slice is low inside read = grind (arith, get_or_default, over_at)

  -- on the way up from the last of n leaves: the node x of height h that ends there has its digest, and so has each
  -- lower
  -- one
  pub record IsUpTo (tree : List (List ℕ)) (n h x : ℕ) (digest : List ℕ) : Type 0 where
    pub last : x + 2 ^ h + 1 ≡ 2 * n
    pub slice : IsSliceUpTo H ds tree h
    pub is : digest ≡ digest_or_spacer H ds x
    pub leaves : leaves_in tree ≡ ds

  module _ (n : ℕ) (some : 0 < n) (fits : n < 2 ^ 64) (count : length ds ≡ n) where
    -- from the second of two nodes to the branch over them
    pub joined_up : (tree : List (List ℕ)) (h w x : ℕ) (digest sibling : List ℕ) → h < trailing_zeros w64 n
        → w ≡ 1 * 2 ^ h % 2 ^ 64 → IsUpTo tree n h x digest → sibling ≡ get_or tree (x - 2 * w) sibling
        → IsUpTo (set tree (x - w) (branch H sibling digest)) n (h + 1) (x - w) (branch H sibling digest)
    joined_up tree h w x digest sibling low is up read =
        let at = smaller_root n h some fits low in
        let j = at.0 in
        let p = x - w in
        let v = branch H sibling digest in
        let two = pow-suc 2 h in
        let wide = rw two at at.1 in
        let pos = pow_pos h in
        let len = up.slice.len in
        let ys : x - 2 * w ≡ number_of h (2 * j) = omega arith in
        let ps : p ≡ number_of (suc h) j = rw two (omega arith) in
        let left = read_low tree h h (2 * j) (x - 2 * w) sibling up.slice ys (omega arith) (omega arith) read in
        let root : v ≡ digest_or_spacer H ds p = grind (arith, own_branch) in
        let odd : p ≡ suc (2 * (p / 2)) = omega arith in
        record {
          last = omega (arith, pow_more 2 h);
          slice = record {
            len = length-set tree p v ∙ len;
            holds = λ z z_in lower. grind
                (arith, length-set tree p v, get_or-set_same tree p v [], get_or-set_other, node_is z);
          };
          is = root;
          leaves
              = grind (arith, leaves_in-set);
        }

    -- no node that ends at the last leaf is above the last balanced root
    pub all_up : (tree : List (List ℕ)) (h : ℕ) → trailing_zeros w64 n ≤ h → IsSliceUpTo H ds tree h
        → tree ≡ slice_of H ds
    all_up tree h top slice = grind (arith, slice_is, divides_most)

  -- the root so far, of the leaves from e on, if there are any: they are at most as many as a power of two that
  -- divides e
  pub record IsRootFrom (e : ℕ) (root : Option (List ℕ)) : Type 0 where
    pub within : e ≤ length ds
    pub aligned : IsAligned e (length ds - e)
    pub joined : MatchOption root (e ≡ length ds) (λ r. (e < length ds) × (r ≡ root_over H ds e (length ds - e)))

  pub no_root : (e : ℕ) → e ≡ length ds → IsRootFrom e None
  no_root e all = record {
    within = omega arith;
    aligned = record {
      height = 0;
      place = e;
      start = omega arith;
      most = omega arith;
    };
    joined = all;
  }

  -- 2 ^ h leaves from a on, put in front of those from e on
  joined_before : (h a e : ℕ) (root : Option (List ℕ)) (left r : List ℕ)
      → e ≡ a + 2 ^ h → length ds - e ≤ 2 ^ h → IsRootFrom e root
      → left ≡ root_over H ds a (2 ^ h) → MatchOption root (r ≡ left) (λ right. r ≡ branch H left right)
      → r ≡ root_over H ds a (length ds - a)
  joined_before h a e None left r at few from read first = grind arith
  joined_before h a e (Some right) left r at few from read next = grind
      (arith, root_over_split H ds h a (length ds - a))

  -- the last balanced root of the leaves up to e
  pub next_root : (tree : List (List ℕ)) (e w : ℕ) (root : Option (List ℕ)) (left r : List ℕ)
      → 0 < e → e < 2 ^ 64 → w ≡ 1 * 2 ^ trailing_zeros w64 e % 2 ^ 64
      → tree ≡ slice_of H ds → IsRootFrom e root → left ≡ get_or tree (e - w + e - 1) left
      → MatchOption root (r ≡ left) (λ right. r ≡ branch H left right) → IsRootFrom (e - w) (Some r)
  next_root tree e w root left r some fits width slice from read join =
      let last = last_root e some fits in
      let t = trailing_zeros w64 e in
      let pos = pow_pos t in
      let a = e - w in
      let start : a ≡ 2 * last.0 * 2 ^ t = omega arith in
      let few : length ds - e ≤ 2 ^ t = grind (arith, pow-le-pow_right, divides_most) in
      let tree_is = slice_of-is tree slice in
      let number : a + e - 1 ≡ number_of t (2 * last.0) = omega arith in
      let held : left ≡ root_over H ds a (2 ^ t) = grind (arith, get_or_default, own_there) in
      record {
        within = omega arith;
        aligned = record {
          height = suc t;
          place = last.0;
          start = start ∙ rw pow-suc
              (omega arith);
          most = rw pow-suc (omega arith);
        };
        joined = grind (arith, joined_before);
      }

pub whole_root : (H : List ℕ → List ℕ) (ds : List (List ℕ)) (root : Option (List ℕ)) → IsRootFrom H ds 0 root
    → unwrap_or root (H []) ≡ root_of H ds
whole_root H [] None from = refl
whole_root H (d ∷ ds) None from = absurd (omega arith)
whole_root H ds (Some r) from = let all : length ds - 0 ≡ length ds = omega arith in from.joined.1
    ∙ rw (all, take-length) refl
