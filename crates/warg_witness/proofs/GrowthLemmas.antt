-- A consistency path beside the trees over the old and the new entries, on its way down.
use Rattle.std.proofs.Common.{◌≡◌, ℕ, ◌+◌, ◌-◌, ◌<◌, ◌≤◌, ◌^◌, ◌↔◌, false, List, [], ◌∷◌, length, reverse, get_or, Option, Some, None, inl, inr, refl, sym, subst, ◌∙◌, arith}
use Rattle.std.specs.Option.{is_some, MatchOption}
use Rattle.std.proofs.lemmas.Nat.{pow_pos}
use Rattle.std.proofs.lemmas.Bool.{lt-leb, le-leb, lt-ltb, eq-eqb}
use Rattle.warg_crypto.specs.Tree.{branch_input}
use Rattle.warg_log.specs.Cut.{with_own}
use Rattle.warg_log.specs.Tree.{front_of, leaves_of, root_of}
use Rattle.warg_log.proofs.ForCallers.{front_is_greatest, front_of_is, root_over_parts}
use Rattle.warg_log.specs.Ranges.{Range, leaves_from, front_part, rest_part}
use Rattle.warg_paths.specs.Paths.{roots_down, consistency_roots, subproof_roots, one_root, twice, grown}
use Rattle.warg_paths.proofs.ForCallers.{pair_parts, grown_is, over_is, front_turn, rest_turn, front_takes}
use Rattle.warg_witness.specs.Ranges.{IsPart, IsAround}
use Rattle.warg_witness.specs.Ranges.IsPart.{whole as part_whole}
use Rattle.warg_witness.specs.Inputs.{plain_input}
use Rattle.warg_witness.specs.PathClaims.{IsTreeMet}
use Rattle.warg_paths.specs.Ways.{IsOnGrowth, old_turn_input, new_turn_input}
use Rattle.warg_crypto.specs.Collisions.{Collides}
use Rattle.warg_witness.specs.TreePlaced.{Turning, IsTreePlaced}
use Rattle.warg_paths.specs.Ways.IsOnGrowth.{whole}
use Rattle.warg_witness.specs.Private.Agreement.{DiffersFirst}
use Rattle.warg_witness.specs.Private.Divergence.{BranchesDiffer, IsDivergence, Shows, inputs, inputs_of, root_at}
use Rattle.warg_witness.specs.Private.Meeting.{IsTreeMeeting, Descent, descent, whole_descent, LeadsOver, IsTreeDivergence}
use Rattle.warg_witness.specs.declared.divergence.Branches.{Branches}
use Rattle.warg_witness.specs.declared.divergence.Divergence.{Divergence}
use Rattle.warg_witness.specs.declared.trees.Trees.{Trees}
use Rattle.warg_witness.specs.declared.divergence.Divergence.TheVariants.{Branch}
use Rattle.warg_witness.proofs.HashLemmas.{entries_count}
use Rattle.warg_witness.proofs.CutLemmas.{leaves_count}
use Rattle.warg_witness.proofs.RangeLemmas.{Digest, IsPart-trans}
use Rattle.warg_witness.proofs.ShownLemmas.{both_shown, difference_in}
use Rattle.warg_witness.proofs.RecordLemmas.{plain_root, turned}

-- the roots by what is left of a path, from lengths in order
pub subproof_is : (H : Digest) (known : Option (List ℕ)) (m n : ℕ) (path : List (List ℕ)) → 0 < m → m ≤ n
    → subproof_roots H known m n path ≡ roots_down H known m n (reverse path)
subproof_is H known m n path some order = rw (lt-ltb 0 m some, le-leb m n order) refl

-- whether a path leads somewhere doesn't depend on the old root
some_grown : (H : Digest) (below : Option (List ℕ × List ℕ)) (top : List ℕ) → is_some (grown H below top)
    ≡ is_some below
some_grown H None top = refl
some_grown H (Some roots) top = refl

some_down : (H : Digest) (r s : List ℕ) (ds : List (List ℕ)) (m n : ℕ) → is_some (roots_down H (Some r) m n ds)
    ≡ is_some (roots_down H (Some s) m n ds)
unfolding roots_down
some_down H r s [] m n = grind arith
some_down H r s (top ∷ below) m n = grind (arith, some_grown, some_down H r s below m (front_of n))

pub leads_nowhere : (H : Digest) (m n : ℕ) (r s : List ℕ) (path : List (List ℕ))
    → (is_some (consistency_roots H m n r path) ≡ false) ↔ (consistency_roots H m n s path ≡ None)
leads_nowhere H m n r s path = grind (arith, some_down H r s (reverse path) m n)

-- leaves that end in the rest of a range split where it does
pub same_front : (m n : ℕ) → 1 < n → front_of n < m → m ≤ n → front_of m ≡ front_of n
same_front m n more high order =
    let f = front_is_greatest n more in
    front_of_is f.0.0 m (omega (arith, f.0.1)) (omega (arith, f.0.1, f.2)) ∙ sym f.0.1

pub front_some : (n : ℕ) → 1 < n → 0 < front_of n
front_some n more = let f = front_is_greatest n more in rw f.0.1 (pow_pos f.0.0)

-- a range around a place, not all of whose leaves are old, has more of them, and more than one leaf
pub still_more : {place a m n l : ℕ} → IsAround (leaves_from place 1) (leaves_from a m) → m ≤ n → (m ≡ l → ⊥) → l ≡ n
    → (0 < m) × (m < n) × (1 < n)
still_more {m = m} {n = n} around order other is = let more : 0 < m = omega arith in let wide : m < n = grind arith in
    (more, wide, omega arith)

-- where all leaves are old, there is one root
pub all_old : (H : Digest) (known : Option (List ℕ)) (m n : ℕ) (digests : List (List ℕ)) (o w : List ℕ) → m ≡ n
    → roots_down H known m n digests ≡ Some (o, w) → o ≡ w
unfolding roots_down
all_old H known m n digests o w equal is = one (one_root known digests) (ends digests is)
  where
    ends : (digests : List (List ℕ)) → roots_down H known m n digests ≡ Some (o, w) → twice (one_root known digests)
        ≡ Some (o, w)
    ends [] is = rw (eq-eqb m n equal) at is
    ends (top ∷ below) is = rw (eq-eqb m n equal) at is

    one : (root : Option (List ℕ)) → twice root ≡ Some (o, w) → o ≡ w
    one None is = absurd cc
    one (Some root) is = let both = pair_parts (root, root) (o, w) is in sym both.0 ∙ both.1

-- The turn at a range on the way that isn't all old.
abbrev pub turning : {H : Digest} {path old new : List (List ℕ)} {known : Option (List ℕ)} {m a n : ℕ} {top : List ℕ}
    {below : List (List ℕ)} → IsOnGrowth (Some (root_of H (leaves_of H old))) (length old) (length new) (reverse path)
    known m a n (top ∷ below) → m < n → Turning H path old new
turning {known = known} {m} {a} {n} {top} {below} way more = record {
  known = known;
  old_count = m;
  from = a;
  count = n;
  top = top;
  below = below;
  on_way = way;
  more = more;
}

-- A tree's input at the branch over a range.
abbrev tree_input : Digest → List (List ℕ) → Range → List ℕ
tree_input H tree range = branch_input (root_at H tree (front_part range)) (root_at H tree (rest_part range))

-- the plain input at more than one leaf is the tree's
plain_is : (H : Digest) (entries tree : List (List ℕ)) (range : Range) → tree ≡ leaves_of H entries → 1 < range.count
    → tree_input H tree range ≡ plain_input H entries range.start range.count
plain_is H entries tree range is more = rw (lt-leb range.count 1 more, is) refl

-- the roots over a range, by those that what is below the topmost digest gives over the part with the old leaves' end
module _ (H : Digest) (known : Option (List ℕ)) (m n : ℕ) (top : List ℕ) (path : List (List ℕ)) (some : 0 < m)
    (more : m < n) {o w : List ℕ} (leads : roots_down H known m n (top ∷ reverse path) ≡ Some (o, w)) where
  pub front_led : {j : ℕ} {p x : List ℕ} → j ≡ front_of n → m ≤ j → Some (p, x) ≡ subproof_roots H known m j path
      → (roots_down H known m (front_of n) (reverse path) ≡ Some (o, x)) × (H (branch_input x top) ≡ w)
      × (new_turn_input H known m n top (reverse path) ≡ Some (branch_input x top))
  front_led {j} {p} {x} turn below led = grind (
    arith,
    subproof_is,
    grown_is,
    front_turn,
    reverse,
    pair_parts,
    front_takes,
  )

  pub front_is_led : {j : ℕ} → j ≡ front_of n → m ≤ j → subproof_roots H known m j path ≡ None → ⊥
  front_is_led turn below none = grind (arith, subproof_is, grown_is, front_turn, reverse)

  pub rest_led : {j k l : ℕ} {p x : List ℕ} → j ≡ front_of n → k ≡ m - j → l ≡ n - front_of n → j < m
      → Some (p, x) ≡ subproof_roots H None k l path
      → (roots_down H None (m - front_of n) (n - front_of n) (reverse path) ≡ Some (p, x))
      × (H (branch_input top p) ≡ o) × (H (branch_input top x) ≡ w)
      × (old_turn_input H m n top (reverse path) ≡ Some (branch_input top p))
  rest_led {p = p} {x} turn count rest_is below led = grind
      (arith, subproof_is, over_is, rest_turn, reverse, pair_parts)

  pub rest_is_led : {j k l : ℕ} → j ≡ front_of n → k ≡ m - j → l ≡ n - front_of n → j < m
      → subproof_roots H None k l path ≡ None → ⊥
  rest_is_led turn count rest_is below none = grind (arith, subproof_is, over_is, rest_turn, reverse)

-- what is so of branches that are apart, or of none
pub match_apart : {B M N : Type 0} {P Q : B → Type 0} (o : Option B) → (M → N) → ((b : B) → P b → Q b)
    → MatchOption o M P → MatchOption o N Q
match_apart None none some is = none is
match_apart (Some b) none some is = some b is

-- what a divergence of both trees below a range of both shows
pub both_diverge : {D V A : Type 0} {H : Digest} {trees : Trees D V A} {place : ℕ} (d : Descent) (shared : Range)
    (p : Divergence D) → IsPart d.range.start d.old_count shared.start shared.count
    → IsPart d.range.start d.range.count shared.start shared.count
    → IsDivergence H (with_own H trees.old (leaves_from place 1)) (with_own H trees.new (leaves_from place 1)) shared p
    → IsTreeDivergence H trees place d p
both_diverge {H = H} {place = place} d shared p in_old in_new diverges = λ path old new way. grind
    (arith, both_shown H old new place shared (IsPart-trans way.in_old in_old) (IsPart-trans way.in_new in_new) p)

module _ {D V A : Type 0} (H : Digest) (trees : Trees D V A) (place : ℕ) (known : Option (List ℕ)) (m : ℕ)
    (range : Range) (top : List ℕ) (below : List (List ℕ)) (some : 0 < m) (more : m < range.count) where
  abbrev n : ℕ
  n = range.count

  abbrev here : Descent
  here = descent known m range (top ∷ below)

  -- what stands below stands here
  pub deeper : (p : Divergence D) (d : Descent) → ((known₀ : Option (List ℕ)) (m₀ n₀ : ℕ) (ds₀ : List (List ℕ))
      → IsOnGrowth known₀ m₀ n₀ ds₀ known m range.start n (top ∷ below)
      → IsOnGrowth known₀ m₀ n₀ ds₀ d.known d.old_count d.range.start d.range.count d.digests)
      → IsPart range.start m d.range.start d.old_count → IsPart range.start n d.range.start d.range.count
      → IsTreeDivergence H trees place d p → IsTreeDivergence H trees place here p
  deeper p d down in_old in_new is path old new way = is path old new (record {
    old_is = way.old_is;
    new_is = way.new_is;
    differ = way.differ;
    on_way = down _ _ _ _ way.on_way;
    in_old = IsPart-trans way.in_old in_old;
    in_new = IsPart-trans way.in_new in_new;
  })

  -- where the evaluation's branch at the range isn't a tree's, they collide
  branches_collide : (tree : List (List ℕ)) (over : Range) {l r : List ℕ} {b : Branches D} → 1 < over.count
      → over.start + over.count ≤ length tree → H (branch_input l r) ≡ root_at H tree over
      → BranchesDiffer l r (root_at H tree (front_part over)) (root_at H tree (rest_part over)) b
      → Collides H (inputs b) × (inputs b ≡ (branch_input l r, tree_input H tree over))
  branches_collide tree over wide within root apart = rw apart.are (
    record { differ = apart.differ; same = root ∙ root_over_parts H tree over.start over.count wide within },
    refl,
  )

  pub old_apart : {l r : List ℕ} {b : Branches D} → front_of n < m → range.start + m ≤ length trees.old
      → old_turn_input H m n top below ≡ Some (branch_input l r)
      → H (branch_input l r) ≡ root_at H trees.old (leaves_from range.start m)
      → BranchesDiffer l r (root_at H trees.old (front_part (leaves_from range.start m)))
      (root_at H trees.old (rest_part (leaves_from range.start m))) b
      → IsTreeDivergence H trees place here (Branch b)
  old_apart high within takes root apart = λ path old new way.
      let split = front_some n (omega arith) in
      let (collides, are) = branches_collide trees.old (leaves_from range.start m) (omega arith) within root apart in
      let plain = plain_is H old trees.old (leaves_from range.start m) way.old_is (omega arith) in record {
        collides = collides;
        placed = subst (λ (two : List ℕ × List ℕ). IsTreePlaced H path old new two.0 two.1) (sym are)
            (inl (record { turn = turning way.on_way more; in_rest = high; evaluation = takes; plain = plain }));
      }

  pub new_apart : {l r : List ℕ} {b : Branches D} → range.start + n ≤ length trees.new
      → new_turn_input H known m n top below ≡ Some (branch_input l r)
      → H (branch_input l r) ≡ root_at H trees.new range
      → BranchesDiffer l r (root_at H trees.new (front_part range)) (root_at H trees.new (rest_part range)) b
      → IsTreeDivergence H trees place here (Branch b)
  new_apart within takes root apart = λ path old new way.
      let (collides, are) = branches_collide trees.new range (omega arith) within root apart in
      let plain = plain_is H new trees.new range way.new_is (omega arith) in record {
        collides = collides;
        placed = subst (λ (two : List ℕ × List ℕ). IsTreePlaced H path old new two.0 two.1) (sym are)
            (inr (inl (record { turn = turning way.on_way more; evaluation = takes; plain = plain })));
      }

-- a path that leads to the roots of the trees over entries leads to them over all leaves, and what a divergence from
-- there shows
module _ {D V A : Type 0} (H : Digest) (path old new : List (List ℕ)) (trees : Trees D V A)
    (meeting : IsTreeMeeting H path old new trees) where
  pub whole_growth : LeadsOver H trees (whole_descent H trees path)
  whole_growth = grind (arith, leaves_count, plain_root, subproof_is)

  pub growth_shown : (place : ℕ) (p : Divergence D) → DiffersFirst old new place
      → IsTreeDivergence H trees place (whole_descent H trees path) p
      → Shows H (IsTreePlaced H path old new) (inputs_of p (0 ∷ get_or old place []) (0 ∷ get_or new place []))
  growth_shown place p differs diverges = diverges path old new (record {
    old_is = meeting.old_is;
    new_is = meeting.new_is;
    differ = differs.differ;
    on_way = rw (meeting.old_is, meeting.new_is, leaves_count H old, leaves_count H new) whole;
    in_old = rw (meeting.old_is, leaves_count H old) part_whole;
    in_new = rw (meeting.new_is, leaves_count H new) part_whole;
  })

-- the roots to which a path leads, where it leads to those of the trees over entries, and what the trees are then
module _ (H : Digest) (old new : List (List ℕ)) {m n : ℕ} {plain o v : List ℕ} (old_count : length old ≡ m)
    (new_count : length new ≡ n) (plain_is : plain ≡ root_of H (leaves_of H old)) (path : List (List ℕ))
    (led : Some (o, v) ≡ consistency_roots H m n plain path) where
  pub tree_roots : IsTreeMet H path old new → (o ≡ plain) × (v ≡ root_of H (leaves_of H new))
  tree_roots met = let both = pair_parts _ _ (led ∙ rw (← old_count, ← new_count, plain_is) met) in
      (both.0 ∙ sym plain_is, both.1)

  pub trees_met : {D V A : Type 0} {trees : Trees D V A} → o ≡ plain → v ≡ root_of H (leaves_of H new)
      → (0 < m) × (m ≤ n) → n ≤ 2 ^ 63 → trees.old ≡ leaves_of H old → trees.new ≡ leaves_of H new
      → IsTreeMeeting H path old new trees
  trees_met old_root new_root order fits old_is new_is = grind (arith, plain_is)

-- what the checks of functions over paths and both trees try
pub ruleset whole_trees = (leaves_count, entries_count, difference_in, whole_growth)

-- where the old leaves end in the rest, the old root isn't asked for
pub rest_leads : (H : Digest) (known : Option (List ℕ)) (m n : ℕ) (digests : List (List ℕ)) (top : List ℕ)
    (below : List (List ℕ)) {roots : Option (List ℕ × List ℕ)} → digests ≡ top ∷ below → m < n → front_of n < m
    → roots_down H known m n digests ≡ roots → roots_down H None m n (top ∷ below) ≡ roots
rest_leads H known m n digests top below is more high leads = rest_turn H None m n top below more high
    ∙ sym (rest_turn H known m n top below more high) ∙ rw is at leads

-- what the check of the way down tries
pub ruleset downs = (turned, still_more)
