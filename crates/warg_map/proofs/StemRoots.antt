-- The digests of lone keys and stems.
use Rattle.std.proofs.Common.{◌≡◌, ℕ, ◌+◌, ◌-◌, ◌≤◌, List, [], ◌++◌, arith}
use Rattle.std.specs.FinMap.{insert, empty}
use Rattle.warg_map.specs.Bits.{bits_from, last_bits}
use Rattle.warg_map.specs.Sparse.{SparseMap, root_of_levels, sparse_root}
use Rattle.warg_map.specs.Private.Under.{under, stem_root}
use Rattle.warg_map.proofs.SparseTree.{get-insert_same}
use Rattle.warg_map.proofs.BitsInFront.{stem_root-under, lone-append}
use Rattle.warg_map.proofs.KeyBits.{bits_left-split, length-bits_from, bits_from-none}

pub root-stem : {x : List ℕ} {k h : ℕ} (H : List ℕ → List ℕ) (key : List ℕ) (from len : ℕ) (m : SparseMap) → k ≡ h → x
    ≡ sparse_root H h m → stem_root H k x (bits_from key from len) ≡ sparse_root H (h + len)
    (under (bits_from key from len) m)
root-stem {h} H key from len m e r = rw (
  e,
  r,
  stem_root-under H h (bits_from key from len) m,
  length-bits_from key from len,
)

pub root-leaf : (H : List ℕ → List ℕ) (v key : List ℕ) → v ≡ sparse_root H 0 (insert empty (last_bits key 0) v)
unfolding root_of_levels
root-leaf H v key = rw (bits_from-none key 256, get-insert_same empty [] v)

-- a lone key of height h above a lower tree of it
pub root-kept : {kept : List ℕ} (H : List ℕ → List ℕ) (v key : List ℕ) (c h : ℕ) → h ≤ 256 → c ≤ h → kept
    ≡ sparse_root H c (insert empty (last_bits key c) v) → stem_root H (256 - (256 - h + (h - c))) kept (bits_from key
    (256 - h) (h - c)) ≡ sparse_root H h (insert empty (last_bits key h) v)
root-kept H v key c h most above is_kept =
    let a = bits_from key (256 - h) (h - c) in
    let up : c + (h - c) ≡ h = omega (arith, above) in
    let top : 256 - (256 - h) ≡ h = omega (arith, most) in
    let low : 256 - (256 - h + (h - c)) ≡ c = omega (arith, most, above) in
    let bits : last_bits key h ≡ a ++ last_bits key c = rw (top, low) at
    (bits_left-split key (256 - h) (h - c) (omega arith)) in
    grind (arith, root-stem, lone-append)
