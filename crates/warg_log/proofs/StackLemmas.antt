-- The blocks of a stack log.
use Rattle.std.proofs.Common.{◌≡◌, ℕ, zero, suc, ◌+◌, ◌*◌, ◌/◌, ◌%◌, ◌^◌, ◌<◌, ◌≤◌, nat_eq, false, List, [], ◌∷◌, ◌++◌, length, map, Option, Some, None, refl, sym, ap, ◌∙◌, arith, ⊎_elim}
use Rattle.std.specs.List.{AllByRecursion, IsDistinct}
use Rattle.std.proofs.Math.Nat.{pow-suc}
use Rattle.std.proofs.lemmas.List.{map_push, same_from_push, get_or_push, length_push, length-map, nil_from_length}
use Rattle.std.proofs.lemmas.Nat.{pow_pos}
use Rattle.std.proofs.lemmas.Simd.{map-map}
use Rattle.std.proofs.lemmas.Bool.{le-leb, ne_eqb, cases_eq}
use Rattle.warg_log.specs.Nodes.{height_of, place_of, start_of, end_of, node_over, balanced_roots}
use Rattle.warg_crypto.specs.Tree.{branch}
use Rattle.warg_log.specs.Tree.{root_of, root_over, leaves_below, own_digest}
use Rattle.warg_log.specs.Cut.{joined, old_root}
use Rattle.warg_log.specs.Walks.{joined_all}
use Rattle.warg_log.specs.Blocks.{Blocks, StandsFor, digest_beside, block_at, block_over, joined_blocks, pushed}
use Rattle.warg_log.specs.Private.Growth.{Grows}
use Rattle.warg_protobuf.proofs.ForCallers.{all_weaken}
use Rattle.warg_log.proofs.NodeLemmas.{node_is, only_number, over_at, over_ends}
use Rattle.warg_log.proofs.RootLemmas.{root_over_one}
use Rattle.warg_log.proofs.CutLemmas.{root_over_split, own_root}
use Rattle.warg_log.proofs.BalancedLemmas.{map_same, balanced_none, balanced_full, has_first_over}
use Rattle.warg_log.proofs.OrderLemmas.{roots_front, roots_within, roots_end}
use Rattle.warg_log.proofs.ClimbLemmas.{old_root-joined}
use Rattle.warg_log.proofs.AppendLemmas.{front_kept}

-- ---- a push, which joins the new leaf with the last blocks as an addition of 1 carries

-- the digest over a node, where G has those of ranges by height and first leaf
abbrev pub over : (ℕ → ℕ → List ℕ) → ℕ → List ℕ
over G t = G (height_of t) (start_of t)

-- after some joins: the rest of the length's digits, the blocks left, and the digest of the leaves behind them
pub record IsJoined (n : ℕ) (G : ℕ → ℕ → List ℕ) (rest : ℕ) (left : List (List ℕ)) (last : List ℕ) : Type 0 where
  pub height : ℕ
  pub digits : n + 1 ≡ (rest + 1) * 2 ^ height
  pub blocks : left ≡ map (over G) (balanced_roots (rest * 2 ^ height))
  pub digest : last ≡ G height (rest * 2 ^ height)

-- a number of 2 ^ i leaves, by half as many of twice the size
halved : (i n r b : ℕ) → n ≡ 2 * r + b → n * 2 ^ i ≡ r * 2 ^ suc i + b * 2 ^ i
halved i n r b is = rw (is, pow-suc) (omega arith)

-- the ranges of the roots up to the last one
mapped_snoc : (G : ℕ → ℕ → List ℕ) (i r : ℕ) → map (over G) (balanced_roots (r * 2 ^ suc i + 2 ^ i))
    ≡ map (over G) (balanced_roots (r * 2 ^ suc i)) ++ G i (r * 2 ^ suc i) ∷ []
mapped_snoc G i r =
    let place : r * 2 ^ suc i ≡ 2 * r * 2 ^ i = rw pow-suc (omega arith) in
    grind (arith, roots_front, pow_pos, balanced_full, map_push, over_at)

-- there is a block to join with
pub popped : (n : ℕ) (G : ℕ → ℕ → List ℕ) (rest : ℕ) (left : List (List ℕ)) (last : List ℕ) → rest % 2 ≡ 1
    → (from : IsJoined n G rest left last)
    → left ≡ map (over G) (balanced_roots (rest / 2 * 2 ^ suc from.height)) ++ G from.height
    (rest / 2 * 2 ^ suc from.height) ∷ []
popped n G rest left last odd from = grind (
  arith,
  halved from.height rest (rest / 2) 1,
  mapped_snoc G from.height
      (rest / 2),
)

-- no more joins
pub join_done : (n : ℕ) (G : ℕ → ℕ → List ℕ) (rest : ℕ) (left : List (List ℕ)) (last : List ℕ) → (rest % 2 ≡ 1 → ⊥)
    → IsJoined n G rest left last
    → left ++ last ∷ [] ≡ map (over G) (balanced_roots (n + 1))
join_done n G rest left last even from = grind (
  arith,
  halved from.height rest (rest / 2) 0,
  mapped_snoc G
      from.height (rest / 2),
)

module _ (H : List ℕ → List ℕ) (n : ℕ) (d : List ℕ) (digests : List (List ℕ)) where
  -- no join yet, and one more
  pub join_none : (G : ℕ → ℕ → List ℕ) → Grows H n d digests G → IsJoined n G n digests d
  join_none G grows = grind arith

  pub join_step : (G : ℕ → ℕ → List ℕ) (rest : ℕ) (left left' : List (List ℕ)) (last e : List ℕ) → rest % 2 ≡ 1
      → left ≡ left' ++ e ∷ [] → Grows H n d digests G → IsJoined n G rest left last
      → IsJoined n G (rest / 2) left' (branch H e last)
  join_step G rest left left' last e odd is grows from = grind
      (arith, halved from.height rest (rest / 2) 1, same_from_push, popped n G rest left last odd from)

  -- so the digests of ranges are known where they grow
  joined_once : (G K : ℕ → ℕ → List ℕ) → Grows H n d digests G → Grows H n d digests K
      → (k rest : ℕ) (left : List (List ℕ)) (last : List ℕ) → rest < k
      → IsJoined n G rest left last → IsJoined n K rest left last → map (over G) (balanced_roots (n + 1))
      ≡ map (over K) (balanced_roots (n + 1))
  joined_once G K grows grows' zero rest left last lt from from' = absurd (omega arith)
  joined_once G K grows grows' (suc k) rest left last lt from from' = ⊎_elim
      (λ (odd : rest % 2 ≡ 1).
      let is = popped n G rest left last odd from in
      joined_once G K grows grows' k (rest / 2) _ _ (omega arith) (join_step G rest left _ last _ odd is grows from)
      (join_step K rest left _ last _ odd is grows' from'))
      (λ (even : rest % 2 ≡ 1 → ⊥). sym (join_done n G rest left last even from)
      ∙ join_done n K rest left last even from')
      (cases_eq (rest % 2) 1)

-- ---- the digests beside nodes of which none stands twice

beside_all : (ts : List ℕ) (ds : List (List ℕ)) → length ds ≡ length ts → IsDistinct nat_eq ts
    → map (digest_beside ts ds) ts ≡ map Some ds
unfolding IsDistinct
beside_all [] [] len distinct = refl
beside_all [] (d ∷ ds) len distinct = absurd (omega arith)
beside_all (t ∷ ts) [] len distinct = absurd (omega arith)
beside_all (t ∷ ts) (d ∷ ds) len distinct = grind (arith, map_same, all_weaken, beside_all ts ds)

beside_none : (x : ℕ) (ts : List ℕ) (ds : List (List ℕ)) → AllByRecursion (λ t. nat_eq t x ≡ false) ts
    → digest_beside ts ds x ≡ None
beside_none x [] ds all = refl
beside_none x (t ∷ ts) [] all = refl
beside_none x (t ∷ ts) (d ∷ ds) all = rw all.0 (beside_none x ts ds all.1)

-- the blocks of a length are held
blocks_held : (b : Blocks) → length b.digests ≡ length (balanced_roots b.len) → map (block_at b) (balanced_roots b.len)
    ≡ map Some b.digests
blocks_held b len = grind (arith, beside_all, roots_within)

-- an old block's digest
over_held : (H : List ℕ → List ℕ) (F : ℕ → Option (List ℕ)) (n : ℕ) (d e : List ℕ) (h a : ℕ) → a + 2 ^ h ≤ n
    → F (node_over a (2 ^ h)) ≡ Some e → block_over H F n d h a ≡ e
over_held H F n d e zero a ends held = rw (ne_eqb a n (λ f. omega arith), held) refl
over_held H F n d e (suc h) a ends held = rw held refl

all_over : (H : List ℕ → List ℕ) (F : ℕ → Option (List ℕ)) (n : ℕ) (d : List ℕ) (ts : List ℕ) (ds : List (List ℕ))
    → map F ts ≡ map Some ds → AllByRecursion (λ t. end_of t ≤ n) ts
    → ds ≡ map (λ t. block_over H F n d (height_of t) (start_of t)) ts
all_over H F n d [] [] held exist = refl
all_over H F n d [] (e ∷ ds) held exist = absurd (cc)
all_over H F n d (t ∷ ts) [] held exist = absurd (cc)
all_over H F n d (t ∷ ts) (e ∷ ds) held exist =
    let first : F t ≡ Some e = cc in
    let others : map F ts ≡ map Some ds = cc in
    let here = over_held H F n d e (height_of t) (start_of t) (omega arith)
    (ap F (sym (only_number t (height_of t) (place_of t) (node_is t))) ∙ first) in
    rw (here, ← all_over H F n d ts ds others exist.1) refl

pub grows_over : (H : List ℕ → List ℕ) (b : Blocks) (d : List ℕ) → length b.digests ≡ length (balanced_roots b.len)
    → Grows H b.len d b.digests (block_over H (block_at b) b.len d)
grows_over H b d len = grind (
  arith,
  all_over H (block_at b) b.len d (balanced_roots b.len) b.digests
      (blocks_held b len),
  blocks_held b len,
  roots_end b.len b.len,
  all_weaken,
  ne_eqb,
  over_ends,
  beside_none,
)

-- ---- blocks that stand for leaves

grows_roots : (H : List ℕ → List ℕ) (b : Blocks) (ds : List (List ℕ)) (d : List ℕ) → StandsFor H b ds
    → Grows H b.len d b.digests (λ h a. root_over H (ds ++ d ∷ []) a (2 ^ h))
grows_roots H b ds d stands =
    let len : length (ds ++ d ∷ []) ≡ length ds + 1 = length_push ds d in
    record {
      blocks = grind (arith, map_same, all_weaken, front_kept, roots_end);
      leaf = grind
          (arith, root_over_one, get_or_push);
      joins = λ h q end. grind
          (arith, root_over_split H (ds ++ d ∷ []) h (q * 2 ^ suc h) (2 ^ suc h), pow-suc, pow_pos);
    }

pub stands_pushed : (H : List ℕ → List ℕ) (b : Blocks) (d : List ℕ) (ds : List (List ℕ)) → StandsFor H b ds
    → StandsFor H (pushed H b d) (ds ++ d ∷ [])
stands_pushed H b d ds stands =
    let len = ap length stands.roots ∙ length-map (balanced_roots b.len) (λ t. root_of H (leaves_below t ds)) in
    let own = grows_over H b d len in
    let other = grows_roots H b ds d stands in record {
      count = length_push ds d ∙ ap (λ m. m + 1) stands.count;
      roots = joined_once H b.len d b.digests _ _ own other (suc b.len) b.len b.digests d (omega arith)
          (join_none H b.len d b.digests _ own) (join_none H b.len d b.digests _ other);
    }

-- ---- the root of blocks is the old root over them

some_joined : (H : List ℕ → List ℕ) (d : List ℕ) (ds : List (List ℕ)) → joined_all H (map Some (d ∷ ds))
    ≡ Some (joined_blocks H (d ∷ ds))
some_joined H d [] = refl
some_joined H d (e ∷ ds) = ap (joined H (Some d)) (some_joined H e ds)

old_joined : (H : List ℕ → List ℕ) (F : ℕ → Option (List ℕ)) (n : ℕ) (es : List (List ℕ)) → 0 < n
    → map F (balanced_roots n) ≡ map Some es → old_root H F n ≡ Some (joined_blocks H es)
old_joined H F n [] some held = grind (arith, has_first_over 0 n some)
old_joined H F n (e ∷ es) some held = grind (arith, old_root-joined, some_joined)

pub blocks_root : (H : List ℕ → List ℕ) (b : Blocks) → length b.digests ≡ length (balanced_roots b.len) → 0 < b.len
    → old_root H (block_at b) b.len ≡ Some (joined_blocks H b.digests)
blocks_root H b len some = search (old_joined, blocks_held)

pub none_root : (H : List ℕ → List ℕ) (ds : List (List ℕ)) → length ds ≡ length (balanced_roots 0) → joined_blocks H ds
    ≡ H []
none_root H ds len = grind (arith, nil_from_length, balanced_none)

-- the root of blocks that stand for leaves
pub stands_root : (H : List ℕ → List ℕ) (b : Blocks) (ds : List (List ℕ)) → StandsFor H b ds → joined_blocks H b.digests
    ≡ root_of H ds
stands_root H b [] stands = grind (arith, none_root, length-map)
stands_root H b (e ∷ es) stands =
    let ds = e ∷ es in
    let count : length ds ≡ b.len = stands.count in
    let own = all_weaken (λ t. end_of t ≤ length ds) (λ t. own_digest H ds t ≡ Some (root_of H (leaves_below t ds)))
    (λ t ends. rw (le-leb (end_of t) (length ds) ends) refl) (balanced_roots b.len)
    (roots_end b.len (length ds) (omega arith)) in
    let held : map (own_digest H ds) (balanced_roots b.len) ≡ map Some b.digests = grind (arith, map_same, map-map)
    in
    let joins = old_joined H (own_digest H ds) b.len b.digests (omega arith) held in
    let root : old_root H (own_digest H ds) b.len ≡ Some (root_of H ds) = own_root H ds b.len (omega arith)
    (sym count) in
    cc
