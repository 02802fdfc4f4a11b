-- A leaf appended to a slice.
use Rattle.std.proofs.Common.{◌≡◌, ℕ, ◌+◌, ◌*◌, ◌%◌, ◌^◌, ◌<◌, ◌≤◌, List, [], ◌∷◌, ◌++◌, length, take, drop, refl, ap, arith}
use Rattle.std.proofs.Math.ListN.{get_or, get_or-append}
use Rattle.std.proofs.Math.Seq.{get_or-append_seam}
use Rattle.std.proofs.lemmas.List.{take-append-le, length-take-le, take_more, drop-append-le, length-drop, length_push}
use Rattle.std.proofs.lemmas.Nat.{pow_pos}
use Rattle.warg_log.specs.Nodes.{height_of, start_of, end_of}
use Rattle.warg_log.specs.Tree.{root_of, leaves_in, slice_of, digest_or_spacer}
use Rattle.warg_log.specs.Private.Slices.{IsSliceUpTo}
use Rattle.warg_log.proofs.NodeLemmas.{last_leaf}
use Rattle.warg_log.proofs.SliceLemmas.{slice_of-is, own_leaf}

-- a digest behind a tree is a leaf's or a branch's
pub leaf_behind : (t : List (List ℕ)) (d : List ℕ) → length t % 2 ≡ 0 → leaves_in (t ++ d ∷ []) ≡ leaves_in t ++ d ∷ []
leaf_behind [] d even = refl
leaf_behind (x ∷ []) d even = absurd (omega arith)
leaf_behind (x ∷ y ∷ t) d even = grind (arith, leaf_behind t d)

pub branch_behind : (t : List (List ℕ)) (d : List ℕ) → length t % 2 ≡ 1 → leaves_in (t ++ d ∷ []) ≡ leaves_in t
branch_behind [] d odd = absurd (omega arith)
branch_behind (x ∷ []) d odd = refl
branch_behind (x ∷ y ∷ t) d odd = grind (arith, branch_behind t d)

-- the front of a tree, with one digest more
pub leaves_more : (t : List (List ℕ)) (i : ℕ) (d : List ℕ) → i < length t → d ≡ get_or t i d
    → (i % 2 ≡ 0 → leaves_in (take (i + 1) t) ≡ leaves_in (take i t) ++ d ∷ [])
    × (i % 2 ≡ 1 → leaves_in (take (i + 1) t) ≡ leaves_in (take i t))
leaves_more t i d lt is = grind (arith, length-take-le i t, take_more t i d lt, leaf_behind, branch_behind (take i t) d)

-- one more leaf changes nothing below the nodes before it
pub front_kept : (ds : List (List ℕ)) (d : List ℕ) (a w : ℕ) → a + w ≤ length ds → take w (drop a (ds ++ d ∷ []))
    ≡ take w (drop a ds)
front_kept ds d a w fits = grind (arith, drop-append-le, take-append-le, length-drop)

kept : (H : List ℕ → List ℕ) (ds : List (List ℕ)) (d : List ℕ) (z : ℕ) → z < 2 * length ds
    → (end_of z ≡ length ds + 1 → height_of z ≤ 0) → digest_or_spacer H (ds ++ d ∷ []) z ≡ digest_or_spacer H ds z
kept H ds d z before low =
    let front = λ (fits : end_of z ≤ length ds). ap (root_of H)
    (front_kept ds d (start_of z) (2 ^ height_of z) (omega arith)) in
    grind (arith, length_push ds d, last_leaf z)

-- the slice with room for a leaf: a spacer, unless there is no leaf yet
pub record HasRoom (H : List ℕ → List ℕ) (ds base : List (List ℕ)) : Type 0 where
  pub len : length base ≡ 2 * length ds
  pub holds : (z : ℕ) → z < length base → get_or base z [] ≡ digest_or_spacer H ds z
  pub leaves : (d : List ℕ) → leaves_in (base ++ d ∷ []) ≡ ds ++ d ∷ []

pub room_empty : (H : List ℕ → List ℕ) (tree : List (List ℕ)) → tree ≡ slice_of H (leaves_in tree)
    → length (leaves_in tree) ≡ 0 → HasRoom H (leaves_in tree) tree
room_empty H [] slice none = grind arith
room_empty H (x ∷ []) slice none = absurd (omega arith)
room_empty H (x ∷ y ∷ t) slice none = absurd (omega arith)

pub room_more : (H : List ℕ → List ℕ) (tree : List (List ℕ)) → tree ≡ slice_of H (leaves_in tree)
    → 0 < length (leaves_in tree) → HasRoom H (leaves_in tree) (tree ++ H [] ∷ [])
room_more H tree is some = grind (
  arith,
  slice_of-is,
  length_push tree (H []),
  get_or-append,
  get_or-append_seam
      tree (H []) [] [],
  last_leaf,
  pow_pos,
  leaf_behind,
  branch_behind,
)

-- what a leaf appended to that makes
pub record IsAppended (H : List ℕ → List ℕ) (ds tree : List (List ℕ)) (d : List ℕ) : Type 0 where
  pub leaves : leaves_in tree ≡ ds ++ d ∷ []
  pub count : length (leaves_in tree) ≡ length ds + 1
  pub slice : IsSliceUpTo H (leaves_in tree) tree 0

pub appended : (H : List ℕ → List ℕ) (ds base : List (List ℕ)) (d : List ℕ) → HasRoom H ds base
    → IsAppended H ds (base ++ d ∷ []) d
appended H ds base d room = grind (
  arith,
  length_push ds d,
  length_push base d,
  own_leaf H (ds ++ d ∷ [])
      (length ds),
  get_or-append_seam,
  get_or-append,
  get_or-append_seam base d [] [],
  kept,
)
