-- The consistency path that held digests give: where a claim of consistency is met it leads to both roots, and what its
-- evaluation takes stands where a collision of the claim may. So the law of the claim is that of the path.
use Rattle.std.proofs.Common.{◌≡◌, ◌^◌, ◌↔◌, Ok, ℕ, zero, suc, ◌+◌, ◌-◌, ◌<◌, ◌≤◌, ◌⊎◌, inl, inr, Bool, true, false, cond, List, [], ◌∷◌, ◌++◌, length, reverse, Option, Some, None, refl, sym, ap, subst, ◌∙◌, arith}
use Rattle.std.proofs.lemmas.Bool.{cases_lt, lt-leb, le-leb, eq-eqb, ne_eqb}
use Rattle.std.proofs.lemmas.List.Elements.{All-from_recursion, All-contains}
use Rattle.std.specs.List.{Contains}
use Rattle.warg_crypto.specs.Collisions.{GivesHashes, SomeCollision}
use Rattle.warg_crypto.specs.Tree.{branch_input, where_both}
use Rattle.warg_log.specs.Tree.{front_of, leaves_of, root_of}
use Rattle.warg_log.specs.Ranges.{Range, leaves_from, front_part, rest_part, IsAligned}
use Rattle.warg_log.specs.Nodes.{node_over, balanced_over, balanced_roots}
use Rattle.warg_log.specs.Cut.{Evaluation, with_target, joined, cut_over, old_over, IsFull}
use Rattle.warg_log.specs.Consistency.{LeadsTo, IsConsistent, consistency}
use Rattle.warg_log.proofs.ForCallers.{starts, counts, front_is_greatest, pow_below_pow, balanced_full, balanced_parts, cut_target, cut_parts, cut_old, old_full, old_parts, consistency_only, consistency_then}
use Rattle.warg_paths.specs.Paths.{growth_within, consistency_of, roots_down, grown, both_over}
use Rattle.warg_paths.specs.Ways.{IsOnGrowth}
use Rattle.warg_paths.specs.Ways.IsOnGrowth.{whole, front, rest}
use Rattle.warg_witness.specs.Ranges.{IsPart, IsAround}
use Rattle.warg_witness.specs.Ranges.IsPart.{whole as part_whole, front as part_front, rest as part_rest}
use Rattle.warg_witness.specs.Claims.{Begins, IsConsistencyMet}
use Rattle.warg_witness.specs.Inputs.{plain_input, cut_input, old_input}
use Rattle.warg_witness.specs.PathClaims.{IsTreeMet}
use Rattle.warg_witness.specs.Placed.{IsConsistencyPlaced}
use Rattle.warg_witness.specs.TreePlaced.{IsTreePlaced}
use Rattle.warg_witness.specs.Private.Meeting.{IsTreeMeeting}
use Rattle.warg_witness.specs.declared.trees.Trees.{Trees}
use Rattle.warg_witness.specs.Private.Divergence.{IsNodeRange, IsAbove}
use Rattle.warg_witness.proofs.ClimbLemmas.{both_there}
use Rattle.warg_witness.proofs.CutLemmas.{cut_around}
use Rattle.warg_paths.proofs.ForCallers.{front_turn, rest_turn}
use Rattle.warg_witness.proofs.GrowthLemmas.{same_front, front_some, subproof_is}
use Rattle.warg_witness.proofs.RangeLemmas.{Digest, Data, full_node, full_or_not, more_than_one, node_bounds, node_some, part_in, rest_aligned, whole_aligned}
use Rattle.warg_witness.proofs.RecordLemmas.{turned}
use Rattle.warg_witness.proofs.PathLawLemmas.{tree_collides}

-- The last balanced root of a range: all of its leaves, where they are a power of two, else that of the rest.
data IsLastRoot (root : Range) : Range → Type 0 where
  all_leaves : IsFull root.count → IsLastRoot root root
  in_rest : (range : Range) → 1 < range.count → ¬ IsFull range.count → IsLastRoot root (rest_part range)
      → IsLastRoot root range

last_root : (k : ℕ) (range : Range) → range.count ≤ k → 0 < range.count → (root : Range) × IsLastRoot root range
last_root zero range le some = absurd (omega arith)
last_root (suc k) range le some = elim (full_or_not range.count some) [
  | inl is ↦ (range, all_leaves is)
  | inr not_full ↦
      let more = more_than_one range.count some not_full in
      let f = front_is_greatest range.count more in
      let at = last_root k (rest_part range) (omega arith) (omega arith) in (at.0, in_rest range more not_full at.1)
]

-- It is a node's range, one of the range's balanced roots, and ends with it.
record Ends (root range : Range) : Type 0 where
  node : IsNodeRange root
  starts_at : range.start ≤ root.start
  ends_at : root.start + root.count ≡ range.start + range.count
  among : Contains (balanced_over range.start range.count) (node_over root.start root.count)

ends : {root range : Range} → IsLastRoot root range → IsAligned range.start range.count → Ends root range
ends {root} (all_leaves is) aligned = record {
  node = full_node aligned is;
  starts_at = omega arith;
  ends_at = refl;
  among = rw (balanced_full root.start root.count is) (0, omega arith, refl);
}
ends (in_rest range more not_full last) aligned =
    let f = front_is_greatest range.count more in
    let below = ends last (rest_aligned aligned more) in
    record {
      node = below.node;
      starts_at = omega (arith, below.starts_at);
      ends_at = omega (arith, below.ends_at);
      among = rw (balanced_parts range.start range.count more not_full)
          (suc below.among.0, omega (arith, below.among.1), below.among.2);
    }

last_of_rest : {root range : Range} → IsLastRoot root range → ¬ IsFull range.count → IsLastRoot root (rest_part range)
last_of_rest (all_leaves is) not_full = absurd (not_full is)
last_of_rest (in_rest range _ _ last) not_full = last

-- leaves of a longer range that end in its rest, and not with it, are no power of two
rest_not_full : (m n : ℕ) → 1 < n → front_of n < m → m < n → IsFull m → ⊥
rest_not_full m n more high less full =
    let f = front_is_greatest n more in
    grind (arith, f.0.1, full.1, pow_below_pow f.0.0 full.0, pow_below_pow full.0 (suc f.0.0))

-- the digests F, with x held for the last balanced root of the old entries
module _ (H : Digest) (F : Data) (old new : List (List ℕ)) (root : Range) (x : List ℕ)
    (held : F (node_over root.start root.count) ≡ Some x) where
  abbrev e : Evaluation
  e = with_target F root x

  abbrev R : Range → Option (List ℕ)
  R = old_over H F

  -- leaves that end with that root have one old root and cut root
  old_is_cut : {range : Range} → IsLastRoot root range → IsAligned range.start range.count → R range ≡ cut_over H e
      range
  old_is_cut (all_leaves is) aligned = old_full H F root is ∙ held ∙ sym (cut_target H e)
  old_is_cut (in_rest range more not_full last) aligned =
      let f = front_is_greatest range.count more in
      let at = ends last (rest_aligned aligned more) in
      let parts = cut_parts H e range more (λ same. omega (arith, starts same, at.starts_at)) (λ is _. not_full is) in
      let left = cut_old H e (front_part range) (node_some at.node) (omega arith) (inl at.starts_at) in
      let right = old_is_cut last (rest_aligned aligned more) in
      old_parts H F range more not_full ∙ rw (left, right) refl ∙ sym parts

  -- A range of both recursions: n leaves from a on, of which m are old and end with that root, with their old root and
  -- the cut root of all.
  record At (m a n : ℕ) (o w : List ℕ) : Type 0 where
    some : 0 < m
    order : m ≤ n
    old_part : IsPart 0 (length old) a m
    new_part : IsPart 0 (length new) a n
    last : IsLastRoot root (leaves_from a m)
    old_is : R (leaves_from a m) ≡ Some o
    new_is : cut_over H e (leaves_from a n) ≡ Some w

  -- where all are old, the two are one
  one : {m a n : ℕ} {o w : List ℕ} → At m a n o w → m ≡ n → o ≡ w
  one {m} {a} {n} {o} {w} at equal =
      let is : cut_over H e (leaves_from a m) ≡ Some w = rw equal at.new_is in
      let both : Some o ≡ Some w = sym at.old_is ∙ old_is_cut at.last (part_in at.old_part).1 ∙ is in cc

  -- Else the cut root is that of a branch, and so is the old root where the old leaves end in the rest; beside the part
  -- in which they end stands what is held there.
  record Low (m a n : ℕ) (o w top l : List ℕ) : Type 0 where
    less : m < n
    fits : m ≤ front_of n
    beside : R (rest_part (leaves_from a n)) ≡ Some top
    taken : cut_input H e (leaves_from a n) ≡ Some (branch_input l top)
    made : H (branch_input l top) ≡ w
    below : At m a (front_of n) o l

  record High (m a n : ℕ) (o w top q r : List ℕ) : Type 0 where
    less : m < n
    wide : front_of n < m
    split : IsFull m → ⊥
    beside : R (front_part (leaves_from a n)) ≡ Some top
    old_taken : old_input H F (leaves_from a m) ≡ Some (branch_input top q)
    old_made : H (branch_input top q) ≡ o
    taken : cut_input H e (leaves_from a n) ≡ Some (branch_input top r)
    made : H (branch_input top r) ≡ w
    below : At (m - front_of n) (a + front_of n) (n - front_of n) q r

  above : {m a n : ℕ} {o w : List ℕ} → At m a n o w → m < n → IsNodeRange root × IsAbove root (leaves_from a n)
  above at less =
      let it = ends at.last (part_in at.old_part).1 in
      let around : IsAround root (leaves_from _ _) = record {
        starts = it.starts_at;
        ends = omega
            (arith, it.ends_at);
      } in
      (it.node, record { around = around; more = omega (arith, it.starts_at, it.ends_at) })

  low : {m a n : ℕ} {o w : List ℕ} → At m a n o w → m < n → m ≤ front_of n → (top : List ℕ) × (l : List ℕ)
      × Low m a n o w top l
  low {m} {a} {n} at less le =
      let more : 1 < n = omega (arith, at.some) in
      let f = front_is_greatest n more in
      let it = ends at.last (part_in at.old_part).1 in
      let (node, over) = above at less in
      let (l, r, l_is, r_is, taken, made) = both_there H _ _ _
      (sym (cut_around H e (leaves_from a n) node over) ∙ at.new_is) in
      let read = cut_old H e (rest_part (leaves_from a n)) (node_some node) (omega arith)
      (inr (omega (arith, it.ends_at))) in (
        r,
        l,
        record {
          less = less;
          fits = le;
          beside = sym read ∙ r_is;
          taken = taken;
          made = made;
          below = record {
            some = at.some;
            order = le;
            old_part = at.old_part;
            new_part = part_front a n at.new_part more;
            last = at.last;
            old_is = at.old_is;
            new_is = l_is;
          };
        },
      )

  old_input_is : (a m f : ℕ) {taken : Option (List ℕ)} → front_of m ≡ f
      → where_both branch_input (R (leaves_from a f)) (R (leaves_from (a + f) (m - f))) ≡ taken
      → old_input H F (leaves_from a m) ≡ taken
  old_input_is a m f is parts = rw is parts

  high : {m a n : ℕ} {o w : List ℕ} → At m a n o w → m < n → front_of n < m → (top : List ℕ) × (q : List ℕ)
      × (r : List ℕ) × High m a n o w top q r
  high {m} {a} {n} at less lt =
      let more : 1 < n = omega (arith, at.some) in
      let f = front_is_greatest n more in
      let split = rest_not_full m n more lt less in
      let old_more : 1 < m = omega (arith, front_some n more) in
      let fronts = same_front m n more lt at.order in
      let last = rw fronts at (last_of_rest at.last split) in
      let old_part = rw fronts at (part_rest a m at.old_part old_more) in
      let it = ends last (part_in old_part).1 in
      let (node, over) = above at less in
      let (l, r, l_is, r_is, taken, made) = both_there H _ _ _
      (sym (cut_around H e (leaves_from a n) node over) ∙ at.new_is) in
      let parts : R (leaves_from a m)
      ≡ joined H (R (leaves_from a (front_of n))) (R (leaves_from (a + front_of n) (m - front_of n))) =
      rw (← fronts) (old_parts H F (leaves_from a m) old_more split) in
      let (p, q, p_is, q_is, old_taken, old_made) = both_there H _ _ _ (sym parts ∙ at.old_is) in
      let read = cut_old H e (front_part (leaves_from a n)) (node_some node) (front_some n more) (inl it.starts_at) in
      let both : Some l ≡ Some p = sym l_is ∙ read ∙ p_is in
      let same : l ≡ p = cc in (
        p,
        q,
        r,
        record {
          less = less;
          wide = lt;
          split = split;
          beside = p_is;
          old_taken = old_input_is a m (front_of n) fronts old_taken;
          old_made = old_made;
          taken = taken ∙ ap (λ l. Some (branch_input l r)) same;
          made = ap (λ l. H (branch_input l r)) (sym same) ∙ made;
          below = record {
            some = omega arith;
            order = omega arith;
            old_part = old_part;
            new_part = part_rest a n at.new_part more;
            last = last;
            old_is = q_is;
            new_is = r_is;
          };
        },
      )

  -- The digests of a path from the topmost down are what is held beside the way, where the old root is known or not.
  abbrev Reads : Option (List ℕ) → ℕ → ℕ → ℕ → List ℕ → List ℕ → List (List ℕ) → Type 0
  Reads known m a n o w [] = At m a n o w × (m ≡ n) × (known ≡ Some o)
  Reads known m a n o w (top ∷ below) = At m a n o w × (((m ≡ n) × (known ≡ None) × (top ≡ o) × (below ≡ []))
      ⊎ (((l : List ℕ) × Low m a n o w top l × Reads known m a (front_of n) o l below)
      ⊎ ((q : List ℕ) × (r : List ℕ) × High m a n o w top q r
      × Reads None (m - front_of n) (a + front_of n) (n - front_of n) q r below)))

  abbrev known_if : Bool → List ℕ → Option (List ℕ)
  known_if all o = cond all (Some o) None

  -- there is one, which is made of them
  read : (steps : ℕ) (all : Bool) (m a n : ℕ) (o w : List ℕ) → n ≤ steps → At m a n o w → (path : List (List ℕ))
      × (growth_within R steps all m (leaves_from a n) ≡ Some path) × Reads (known_if all o) m a n o w (reverse path)
  unfolding growth_within
  read zero all m a n o w le at = absurd (omega (arith, at.some, at.order))
  read (suc steps) all m a n o w le at = elim (cases_lt m n) [
    | inr most ↦ end all (omega (arith, at.order))
    | inl less ↦
        let f = front_is_greatest n (omega (arith, at.some)) in
        let apart = ne_eqb m n (λ e. omega arith) in elim (cases_lt (front_of n) m) [
          | inr fits ↦
              let (top, l, turn) = low at less fits in
              let (path, made, reads) = read steps all m a (front_of n) o l (omega arith) turn.below in (
                path ++ top ∷ [],
                rw (apart, le-leb m (front_of n) fits, made, turn.beside) refl,
                rw (turned _ path top refl) (at, inr (inl (l, turn, reads))),
              )
          | inl wide ↦
              let some = front_some n (omega (arith, at.some)) in
              let (top, q, r, turn) = high at less wide in
              let (path, made, reads) = read steps false _ _ _ q r (omega arith) turn.below in (
                path ++ top ∷ [],
                rw (apart, lt-leb m (front_of n) wide, made, turn.beside) refl,
                rw (turned _ path top refl) (at, inr (inr (q, r, turn, reads))),
              )
        ]
  ]
    where
      end : (all : Bool) → m ≡ n → (path : List (List ℕ)) × (growth_within R (suc steps) all m (leaves_from a n) ≡
          Some path)
          × Reads (known_if all o) m a n o w (reverse path)
      end true equal = ([], rw (eq-eqb m n equal) refl, (at, equal, refl))
      end false equal =
          let is : R (leaves_from a n) ≡ Some o = rw (← equal) at.old_is in
          (o ∷ [], rw (eq-eqb m n equal, is) refl, (at, inl (equal, refl, refl, refl)))

  -- it leads to both roots
  leads : (known : Option (List ℕ)) (m a n : ℕ) (o w : List ℕ) (ds : List (List ℕ)) → Reads known m a n o w ds
      → roots_down H known m n ds ≡ Some (o, w)
  unfolding roots_down
  leads known m a n o w [] (at, equal, is) = rw (eq-eqb m n equal, is) (ap (λ z. Some (o, z)) (one at equal))
  leads known m a n o w (top ∷ below) (at, inl (equal, none, is, no_more)) =
      rw (eq-eqb m n equal, none, no_more, is) (ap (λ z. Some (o, z)) (one at equal))
  leads known m a n o w (top ∷ below) (at, inr (inl (l, turn, reads))) =
      front_turn H known m n top below turn.less turn.fits
      ∙ ap (λ roots. grown H roots top) (leads known m a (front_of n) o l below reads) ∙ ap (λ z. Some (o, z)) turn.made
  leads known m a n o w (top ∷ below) (at, inr (inr (q, r, turn, reads))) =
      rest_turn H known m n top below turn.less turn.wide ∙ ap (both_over H top) (leads None _ _ _ q r below reads)
      ∙ rw (turn.old_made, turn.made) refl

  module _ (path : List (List ℕ)) (w₀ : List ℕ) (reads : Reads (Some (root_of H (leaves_of H old))) (length old) 0
      (length new) (root_of H (leaves_of H old)) w₀ (reverse path)) where
    -- so are the digests that are left at each range on the way
    on_way : {known : Option (List ℕ)} {m a n : ℕ} {ds : List (List ℕ)}
        → IsOnGrowth (Some (root_of H (leaves_of H old))) (length old) (length new) (reverse path) known m a n ds
        → (o : List ℕ) × (w : List ℕ) × Reads known m a n o w ds
    on_way whole = (_, _, reads)
    on_way (front known m a n top below way less le) = let (o, w, (at, turn)) = on_way way in elim turn [
      | inl end ↦ absurd (omega (arith, end.0))
      | inr (inl (l, step, left)) ↦ (o, l, left)
      | inr (inr (q, r, step, left)) ↦ absurd (omega (arith, step.wide))
    ]
    on_way (rest known m a n top below way less lt) = let (o, w, (at, turn)) = on_way way in elim turn [
      | inl end ↦ absurd (omega (arith, end.0))
      | inr (inl (l, step, left)) ↦ absurd (omega (arith, step.fits))
      | inr (inr (q, r, step, left)) ↦ (q, r, left)
    ]

    -- so what stands on its way stands where the claim says
    module _ (among : Contains (balanced_roots (length old)) (node_over root.start root.count)) where
      in_new : {m a n : ℕ} {o w first second : List ℕ} → At m a n o w → m < n
          → cut_input H e (leaves_from a n) ≡ Some first → second ≡ plain_input H new a n
          → IsConsistencyPlaced H F old new first second
      in_new {a = a} {n} at less taken plain =
          let (node, over) = above at less in
          let is = node_bounds node in inr (inl (record {
            root = node_over root.start root.count;
            digest = x;
            is_root = among;
            held = held;
            from = a;
            count = n;
            part = at.new_part;
            around = rw is over.around;
            other = λ _ same. omega (arith, counts is, over.more);
            evaluation = rw is taken;
            plain = plain;
          }))

      placed : (first second : List ℕ) → IsTreePlaced H path old new first second
          → IsConsistencyPlaced H F old new first second
      placed first second (inl it) =
          let t = it.turn in
          let (o, w, (at, turn)) = on_way t.on_way in elim turn [
            | inl end ↦ absurd (omega (arith, end.0, t.more))
            | inr (inl (l, step, left)) ↦ absurd (omega (arith, step.fits, it.in_rest))
            | inr (inr (q, r, step, left)) ↦ inl (record {
              from = t.from;
              count = t.old_count;
              part = at.old_part;
              split = step.split;
              evaluation = step.old_taken ∙ rw (leads None _ _ _ q r t.below left) at it.evaluation;
              plain = it.plain;
            })
          ]
      placed first second (inr (inl it)) =
          let t = it.turn in
          let (o, w, (at, turn)) = on_way t.on_way in elim turn [
            | inl end ↦ absurd (omega (arith, end.0, t.more))
            | inr (inl (l, step, left)) ↦
                let test = le-leb t.old_count (front_of t.count) step.fits in
                in_new at t.more (step.taken ∙ rw (test, leads t.known _ _ _ o l t.below left) at it.evaluation)
                it.plain
            | inr (inr (q, r, step, left)) ↦
                let test = lt-leb t.old_count (front_of t.count) step.wide in
                in_new at t.more (step.taken ∙ rw (test, leads None _ _ _ q r t.below left) at it.evaluation) it.plain
          ]
      placed first second (inr (inr both)) = inr (inr both)

-- The consistency path of held digests that meet a claim.
pub record HeldPath (H : Digest) (F : Data) (old new path : List (List ℕ)) : Type 0 where
  pub met : IsTreeMet H path old new
  pub placed : (first second : List ℕ) → IsTreePlaced H path old new first second
      → IsConsistencyPlaced H F old new first second

held_path : (H : Digest) (F : Data) {m n : ℕ} {old new : List (List ℕ)} → IsConsistencyMet H F m n old new
    → (path : List (List ℕ)) × (consistency_of (old_over H F) (length old) (length new) ≡ Some path)
    × HeldPath H F old new path
held_path H F {old = old} {new} met =
    let is : IsConsistent H F (length old) (length new) (root_of H (leaves_of H old)) (root_of H (leaves_of H new)) =
    rw (met.old_count, met.new_count) met.roots in
    let (root, last) = last_root (length old) (leaves_from 0 (length old)) (omega arith) is.some in
    let it = ends last (whole_aligned (length old) refl) in
    let P = LeadsTo H F (length new) (root_of H (leaves_of H new)) in
    let (x, held, to_new) = All-contains P (balanced_roots (length old)) (node_over root.start root.count)
    (All-from_recursion P (balanced_roots (length old)) is.new_root_is) it.among in
    let (path, made, reads) = read H F old new root x held (length new) true (length old) 0 (length new) _ _
    (omega arith)
    (record {
      some = is.some;
      order = is.order;
      old_part = part_whole;
      new_part = part_whole;
      last = last;
      old_is = is.old_root_is;
      new_is = rw (node_bounds it.node) at to_new;
    }) in (
      path,
      made,
      record {
        met = subproof_is H (Some (root_of H (leaves_of H old))) (length old) (length new) path is.some is.order
            ∙ leads H F old new root x held _ _ _ _ _ _ _ reads;
        placed = placed H F old new root x held path _ reads it.among;
      },
    )

-- so the claim's law is the path's, and a path that is made of the digests is that one
pub consistency_collides : (H : Digest) (F : Data) (m n : ℕ) (old new : List (List ℕ)) → GivesHashes H
    → IsConsistencyMet H F m n old new → (Begins old new → ⊥) → SomeCollision H (IsConsistencyPlaced H F old new)
consistency_collides H F m n old new gives met untrue =
    let (path, made, held) = held_path H F met in
    let c = tree_collides H gives path old new held.met untrue in
    record { first = c.first; second = c.second; collide = c.collide; placed = held.placed _ _ c.placed }

pub made_path : (H : Digest) (F : Data) {m n : ℕ} {old new path : List (List ℕ)} → IsConsistencyMet H F m n old new
    → consistency_of (old_over H F) (length old) (length new) ≡ Some path → HeldPath H F old new path
made_path H F {old = old} {new} {path} met made =
    let (held, held_made, is) = held_path H F met in
    let both : Some held ≡ Some path = sym held_made ∙ made in
    let same : held ≡ path = cc in subst (HeldPath H F old new) same is

-- what an evaluation that is Ok says of the claim
pub met_if : (H : Digest) (F : Data) {m n : ℕ} (old new : List (List ℕ)) {o w : List ℕ} → length old ≡ m → length
    new ≡ n
    → consistency H F m n ≡ Ok (o, w)
    → ((o ≡ root_of H (leaves_of H old)) × (w ≡ root_of H (leaves_of H new))) ↔ IsConsistencyMet H F m n old new
met_if H F old new {o} {w} old_count new_count led = (
  λ roots. record {
    old_count = old_count;
    new_count = new_count;
    roots = rw (← roots.0, ← roots.1) (consistency_only H F _ _ _ _ led);
  },
  λ met.
      let same = sym led ∙ consistency_then H F _ _ _ _ met.roots in
      let both : ◌≡◌ {A = List ℕ × List ℕ} (o, w) (root_of H (leaves_of H old), root_of H (leaves_of H new)) = cc in
      (ap (λ (p : List ℕ × List ℕ). p.0) both, ap (λ (p : List ℕ × List ℕ). p.1) both),
)

-- so that the trees over the entries meet that path
pub held_meeting : {D V A : Type 0} (H : Digest) (F : Data) {m n : ℕ} {old new path : List (List ℕ)}
    {trees : Trees D V A}
    → IsConsistencyMet H F m n old new → n ≤ 2 ^ 63 → trees.old ≡ leaves_of H old → trees.new ≡ leaves_of H new
    → consistency_of (old_over H F) (length old) (length new) ≡ Some path → IsTreeMeeting H path old new trees
held_meeting H F met fits old_is new_is made = record {
  some = rw met.old_count met.roots.some;
  order = rw (met.old_count, met.new_count) met.roots.order;
  fits = rw met.new_count fits;
  old_is = old_is;
  new_is = new_is;
  met = (made_path H F met made).met;
}
