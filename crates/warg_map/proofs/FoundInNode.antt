-- What is found in a node.
use Rattle.std.proofs.Common.{◌≡◌, ℕ, ◌+◌, ◌-◌, ◌<◌, ◌≤◌, Bool, true, false, cond, List, [], ◌∷◌, ◌++◌, Some, None, ◌∙◌, arith}
use Rattle.std.proofs.lemmas.List.{append-nil}
use Rattle.std.specs.FinMap.{insert, empty, get, get-empty}
use Rattle.std.specs.declared.rc.Rc.{Rc}
use Rattle.warg_map.specs.declared.node.Node.{Node}
use Rattle.warg_map.specs.declared.node.Node.TheVariants.{Fork, Stem}
use Rattle.warg_map.specs.declared.node.Fork.{Fork as Fork'}
use Rattle.warg_map.specs.declared.node.Stem.{Stem as Stem'}
use Rattle.warg_map.specs.Private.Lone.{Lone, held_alone}
use Rattle.warg_map.specs.Bits.{bit_at, bits_from, last_bits}
use Rattle.warg_map.specs.Sparse.{SparseMap, bits_cmp}
use Rattle.warg_map.specs.Private.Under.{under, HoldsKey}
use Rattle.warg_map.specs.Private.Seen.{seen, tree_height, held_by, IsWellFormed}
use Rattle.warg_map.proofs.SparseTree.{get-insert_same, get-insert_other, get-join_true, get-join_false, contains_key-insert_same}
use Rattle.warg_map.proofs.TreeForm.{stem_holds}
use Rattle.warg_map.proofs.BitsInFront.{get-under, get-under_head, under-append, lone-under}
use Rattle.warg_map.proofs.KeyBits.{bits_from-none, last_bits-first, bits_from-part, bits_left-split, last_bits-at}

-- a lone key holds nothing else
pub get-lone_other : (p : List Bool) (v : List ℕ) (q : List Bool) → ¬ (q ≡ p)
    → get (insert (empty {K = List Bool} {X = List ℕ} {R = bits_cmp}) p v) q ≡ None
get-lone_other p v q n = get-insert_other empty p q v n ∙ get-empty bits_cmp q

-- in a fork
fork_finds : {D A : _} {d : ℕ × SparseMap} (f : Rc (Fork' D A) A) (b : Bool) (p : List Bool) → d
    ≡ (cond b f.value.right f.value.left) → get d.1 p ≡ get (held_by (Fork f)) (b ∷ p)
fork_finds f true p e = rw (e, get-join_true)
fork_finds f false p e = rw (e, get-join_false)

pub finds_in_fork : {D A : _} {old : Node D A} {f : Rc (Fork' D A) A} {b : Bool} (child : Node D A) (key : List ℕ)
    (depth : ℕ) → old ≡ Fork f → depth < 256 → b ≡ bit_at key depth → seen child ≡ (cond b f.value.right f.value.left)
    → get (held_by child) (last_bits key (256 - (depth + 1))) ≡ get (held_by old) (last_bits key (256 - depth))
finds_in_fork {f} {b} child key depth is lt e s = rw (is, last_bits-first key depth lt, ← e)
    (fork_finds f b (last_bits key (256 - (depth + 1))) s)

-- a run of bits in front of a map that holds a key: a stem, or a lone key with all its bits
pub record IsRun (held : SparseMap) (height : ℕ) (one : List ℕ) (from len k : ℕ) (m : SparseMap) : Type 0 where
  pub held_is : held ≡ under (bits_from one from len) m
  pub height_is : height ≡ k + len
  pub whole : from + len + k ≡ 256
  pub holds : HoldsKey m

pub lone_run : {one from len : _} (s : Lone) → one ≡ s.key → len ≡ s.height → s.height + from ≡ 256
    → IsRun (held_alone s) s.height one from len 0 (insert empty [] s.value)
lone_run {from} s key all height = grind (arith, last_bits-at, lone-under, contains_key-insert_same)

pub run_of_stem : {D A : _} {old : Node D A} {s : Rc (Stem' D A) A} (from : ℕ) → old ≡ Stem s → IsWellFormed old
    → tree_height old + from ≡ 256 → (s.value.from ≡ from) × IsRun (held_by old)
    (tree_height old) s.value.key from s.value.len s.value.below.0 s.value.below.1
run_of_stem {s} from is w height = grind (arith, stem_holds)

-- all bits of the run are the key's
pub found_below : {held height one from len k m : _} (key : List ℕ) (j : ℕ) → IsRun held height one from len k m
    → j ≤ len → len ≤ j → bits_from one from j ≡ bits_from key from j → (bits_from one from len ≡ bits_from key from
    len) × (get m (last_bits key (256 - (from + len))) ≡ get held (last_bits key (256 - from)))
found_below {one} {from} {len} key j run most least same =
    let all : j ≡ len = omega (arith, most, least) in
    let alike : bits_from one from len ≡ bits_from key from len = rw all at same in
    let le : from + len ≤ 256 = omega (arith, run.whole) in
    (alike, rw (run.held_is, bits_left-split key from len le, alike, get-under))

pub found_lone : {held height one from len : _} (key v : List ℕ)
    (j : ℕ) → IsRun held height one from len 0 (insert empty [] v) → j ≤ len → len ≤ j → bits_from one from j
    ≡ bits_from key from j → (last_bits key (256 - from) ≡ bits_from one from len)
    × (Some v ≡ get held (last_bits key (256 - from)))
found_lone {from} {len} key v j run most least same = grind (
  arith,
  found_below key j run most least same,
  bits_from-none key 256,
  bits_left-split,
  append-nil,
  get-insert_same,
)

-- the key's bits part from the run's after j bits
pub record IsApart (held : SparseMap) (height : ℕ) (one key : List ℕ) (from len k j : ℕ) (m : SparseMap) : Type 0 where
  pub run : IsRun held height one from len k m
  pub less : j < len
  pub apart : ¬ (bit_at one (from + j) ≡ bit_at key (from + j))
  pub held_is : held ≡ under (bits_from key from j ++ bit_at one (from + j) ∷ bits_from one (from + (j + 1))
      (len - (j + 1))) m
  pub bits_are : last_bits key (256 - from) ≡ bits_from key from j ++ bit_at key (from + j) ∷ bits_from key
      (from + (j + 1)) (256 - from - (j + 1))

pub run_apart : {held height one key from len k j m : _} → IsRun held height one from len k m → j < len
    → bits_from one from j ≡ bits_from key from j → ¬ (bit_at one (from + j) ≡ bit_at key (from + j))
    → IsApart held height one key from len k j m
run_apart {one} {key} {from} {len} {j} run less same apart = grind (arith, bits_from-part, last_bits-at)

pub found_apart : {held height one key from len k j m : _} → IsApart held height one key from len k j m
    → get held (last_bits key (256 - from)) ≡ None
found_apart {m} a = rw (a.held_is, a.bits_are, under-append, get-under) (get-under_head _ _ _ _ m a.apart)
