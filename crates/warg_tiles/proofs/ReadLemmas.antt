-- An evaluation that leads to a log's root reads the log's own digests, or two byte lists collide.
use Rattle.std.proofs.Common.{◌≡◌, ◌⊎◌, inl, inr, ℕ, zero, suc, ◌+◌, ◌-◌, ◌*◌, ◌^◌, ◌<◌, ◌≤◌, ◌==◌, ◌&&◌, Bool, true, false, List, [], ◌∷◌, length, Option, Some, None, refl, sym, ap, subst, ◌∙◌, arith}
use Rattle.std.specs.List.{AllByRecursion}
use Rattle.std.specs.Option.{option_or}
use Rattle.std.proofs.Math.Nat.{pow-suc}
use Rattle.std.proofs.lemmas.Nat.{pow_pos}
use Rattle.std.proofs.lemmas.List.{length-append}
use Rattle.std.proofs.lemmas.Bool.{cases_lt, cases_Bool, le-leb, lt-leb, eqb-true, and_parts}
use Rattle.std.proofs.Math.Pow.{pow_mono}
use Rattle.warg_crypto.specs.Collisions.{GivesHashes, AreHashes, SomeCollision}
use Rattle.warg_crypto.specs.Tree.{branch, branch_input}
use Rattle.warg_crypto.proofs.ForCallers.{HasSize, sizes, same_or_not, branch_parts}
use Rattle.warg_log.specs.Nodes.{end_of, node_over}
use Rattle.warg_log.specs.Ranges.{Range, leaves_from, range_of}
use Rattle.warg_log.specs.Tree.{front_of, root_of, root_over, own_digest}
use Rattle.warg_log.specs.Cut.{with_target, is_target, is_beside, joined, Way, at_target, at_node, at_parts, way_within, way_over, top_of, cut_over, cut_root}
use Rattle.warg_log.specs.Walks.{read_on, needed}
use Rattle.warg_log.proofs.ForCallers.{below_pow, over_at, front_of_is, root_over_parts}
use Rattle.warg_protobuf.proofs.ForCallers.{all_append}
use Rattle.warg_tiles.specs.Tiles.{TileAt}
use Rattle.warg_tiles.specs.TileData.{Tiles, digest_of, digest_by, has_below, root_below}
use Rattle.warg_tiles.specs.Placed.{IsPart, whole, front, rest, IsEvaluationPlaced}
use Rattle.warg_tiles.proofs.EdgeLemmas.{node_root}
use Rattle.warg_tiles.proofs.RowLemmas.{root_size}
use Rattle.warg_tiles.proofs.StoredLemmas.{some_hashes, root_len}
use Rattle.warg_tiles.proofs.RootLemmas as roots

-- a branch that is there has both its parts
both_there : (H : List ℕ → List ℕ) (p q : Option (List ℕ)) (root : List ℕ) → joined H p q ≡ Some root → (l : List ℕ)
    × (r : List ℕ) × (p ≡ Some l) × (q ≡ Some r) × (branch H l r ≡ root)
both_there H (Some l) (Some r) root is = (l, r, refl, refl, cc)
both_there H (Some l) None root is = absurd (cc)
both_there H None q root is = absurd (cc)

-- two parts of one branch are as long as two others of 32 bytes, where one of them has 32
lengths : (l r p q : List ℕ) → (length l ≡ 32) ⊎ (length r ≡ 32) → length p ≡ 32 → length q ≡ 32
    → branch_input l r ≡ branch_input p q → length l ≡ length p
lengths l r p q (inl first) left right equal = first ∙ sym left
lengths l r p q (inr second) left right equal = omega (arith, ap length equal, length-append l r, length-append p q)

-- a log's own digest of a node that is there
own_of : (H : List ℕ → List ℕ) (ds : List (List ℕ)) (k j : ℕ) → (j + 1) * 2 ^ k ≤ length ds
    → own_digest H ds (node_over (j * 2 ^ k) (2 ^ k)) ≡ Some (root_over H ds (j * 2 ^ k) (2 ^ k))
own_of H ds k j fits =
    let at = over_at k j in
    let place : end_of (node_over (j * 2 ^ k) (2 ^ k)) ≡ (j + 1) * 2 ^ k = rw (at.1, at.0) refl in
    rw (le-leb (end_of (node_over (j * 2 ^ k) (2 ^ k))) (length ds) (omega arith)) (ap Some (node_root H ds k j))

-- a way is the same with more room
at_room : (target r : Range) (k h : ℕ) → h ≤ k → r.count ≤ 2 ^ h → way_within target k r ≡ way_within target h r
unfolding way_within
at_room target r zero h below fits = let none : h ≡ 0 = omega arith in ap (λ n. way_within target n r) (sym none)
at_room target r (suc k) h below fits = elim (cases_lt h (suc k)) [
  | inl less ↦
      let low : h ≤ k = omega arith in
      let more = pow_mono {i = h} {j = k} low in
      let small : r.count ≤ 2 ^ k = omega arith in
      rw (le-leb r.count (2 ^ k) small) (at_room target r k h low fits)
  | inr same ↦ let here : h ≡ suc k = omega arith in ap (λ n. way_within target n r) (sym here)
]

way_is : (target r : Range) (h : ℕ) → r.count ≤ 2 ^ h → way_over target r ≡ way_within target h r
way_is target r h fits =
    let low = below_pow r.count in
    sym (at_room target r (r.count + h) r.count (omega arith) (omega arith)) ∙ at_room target r (r.count + h) h
    (omega arith) fits

module _ (H : List ℕ → List ℕ) (digests : GivesHashes H) (F : ℕ → Option (List ℕ))
    (holds : (t : ℕ) (d : List ℕ) → F t ≡ Some d → length d ≡ 32) (target : Range) (x : List ℕ)
    (ds : List (List ℕ)) (leaves : AreHashes ds) where
  -- What a way reads is the log's own, or two byte lists collide.
  abbrev Reads : Way → Type 0
  Reads way = AllByRecursion (λ y. F y ≡ own_digest H ds y) (read_on way)
      ⊎ SomeCollision H (IsEvaluationPlaced H (with_target F target x) ds)

  -- a node that is read
  at_read : (k j a n : ℕ) → a ≡ j * 2 ^ k → n ≡ 2 ^ k → a + n ≤ length ds
      → F (node_over a n) ≡ Some (root_over H ds a n) → Reads (at_node (node_over a n))
  unfolding read_on
  at_read k j a n start all fits is =
      let own : own_digest H ds (node_over a n) ≡ Some (root_over H ds a n) =
      rw (start, all) (own_of H ds k j (omega (arith, start, all))) in
      inl (is ∙ sym own, tt)

  -- two parts
  at_both : (misses : Bool) (left right : Way) → Reads left → Reads right → Reads (at_parts misses left right)
  unfolding read_on
  at_both misses left right (inr collision) second = inr collision
  at_both misses left right (inl first) (inr collision) = inr collision
  at_both true left right (inl first) (inl second) =
      inl (all_append (λ y. F y ≡ own_digest H ds y) (read_on right) (read_on left) second first)
  at_both false left right (inl first) (inl second) =
      inl (all_append (λ y. F y ≡ own_digest H ds y) (read_on left) (read_on right) first second)

  at_own : Reads at_target
  unfolding read_on
  at_own = inl tt

  -- What a way comes to has 32 bytes, unless it is the target.
  abbrev Sized : Way → Type 0
  Sized way = (d : List ℕ) → top_of H F x way ≡ Some d → length d ≡ 32

  sized : (way : Way) → (way ≡ at_target) ⊎ Sized way
  unfolding top_of
  sized at_target = inl refl
  sized (at_node t) = inr (λ d is. holds t d is)
  sized (at_parts misses left right) = inr (λ d is.
      let (l, r, l_is, r_is, made) = both_there H (top_of H F x left) (top_of H F x right) d is in
      rw (← made) (sizes digests (branch_input l r)))

  -- Two ways: both are the target, or one comes to 32 bytes.
  apart : (left right : Way) → ((left ≡ at_target) × (right ≡ at_target)) ⊎ (Sized left ⊎ Sized right)
  apart left right = elim (sized left) [
    | inr first ↦ inr (inl first)
    | inl target ↦ elim (sized right) [ inr second ↦ inr (inr second) | inl other ↦ inl (target, other) ]
  ]

  -- What a way reads that leads to a root.
  abbrev Leads : ℕ → ℕ → Way → Type 0
  Leads a n way = top_of H F x way ≡ Some (root_over H ds a n) → Reads way

  reads : (h j a n : ℕ) → a ≡ j * 2 ^ h → 0 < n → n ≤ 2 ^ h → a + n ≤ length ds → IsPart (length ds) a n
      → Leads a n (way_within target h (leaves_from a n))
  unfolding way_within top_of
  reads zero j a n start some most fits part = elim (cases_Bool (is_target target (leaves_from a n))) [
    | inl t ↦ let same : way_within target zero (leaves_from a n) ≡ at_target = rw t refl in
        rw same (λ e. at_own)
    | inr f ↦ let same : way_within target zero (leaves_from a n) ≡ at_node (node_over a n) = rw f refl in
        rw same (at_read 0 j a n start (omega arith) fits)
  ]
  reads (suc h) j a n start some most fits part =
      let up = pow-suc 2 h in
      let here : a ≡ 2 * j * 2 ^ h = omega (arith, start, ap (λ p. j * p) up) in
      elim (cases_lt (2 ^ h) n) [
        | inr few ↦
            let same : way_within target (suc h) (leaves_from a n) ≡ way_within target h (leaves_from a n) =
            rw (le-leb n (2 ^ h) few) refl in
            rw same (reads h (2 * j) a n here some few fits part)
        | inl more ↦ elim (cases_Bool (is_target target (leaves_from a n))) [
          | inl t ↦ let same : way_within target (suc h) (leaves_from a n) ≡ at_target =
              rw (lt-leb n (2 ^ h) more, t) refl in rw same (λ e. at_own)
          | inr f ↦ elim (cases_Bool (n == 2 ^ suc h && is_beside target (leaves_from a n))) [
            | inl t ↦
                let same : way_within target (suc h) (leaves_from a n) ≡ at_node (node_over a n) =
                rw (lt-leb n (2 ^ h) more, f, t) refl in
                rw same (at_read (suc h) j a n start
                (eqb-true n (2 ^ suc h) (and_parts (n == 2 ^ suc h) (is_beside target (leaves_from a n)) t).0) fits)
            | inr g ↦
                let left = way_within target h (leaves_from a (2 ^ h)) in
                let right = way_within target h (leaves_from (a + 2 ^ h) (n - 2 ^ h)) in
                let misses = is_beside target (leaves_from a (2 ^ h)) in
                let same : way_within target (suc h) (leaves_from a n) ≡ at_parts misses left right =
                rw (lt-leb n (2 ^ h) more, f, g) refl in
                let unit : 0 < 2 ^ h = pow_pos h in
                let many : 1 < n = omega arith in
                let split : front_of n ≡ 2 ^ h = front_of_is h n more most in
                let part_left = rw split at (front a n part many) in
                let part_right = rw split at (rest a n part many) in
                let next : a + 2 ^ h ≡ (2 * j + 1) * 2 ^ h = omega (arith, here) in
                rw same (λ e.
                let (l, r, l_is, r_is, made) = both_there H (top_of H F x left) (top_of H F x right)
                (root_over H ds a n) e in
                let by = with_target F target x in
                let cut_left : cut_over H by (leaves_from a (2 ^ h)) ≡ Some l =
                rw (way_is target (leaves_from a (2 ^ h)) h (omega arith)) l_is in
                let cut_right : cut_over H by (leaves_from (a + 2 ^ h) (n - 2 ^ h)) ≡ Some r =
                rw (way_is target (leaves_from (a + 2 ^ h) (n - 2 ^ h)) h (omega arith)) r_is in
                let own_left = root_over H ds a (2 ^ h) in
                let own_right = root_over H ds (a + 2 ^ h) (n - 2 ^ h) in
                let both = made ∙ root_over_parts H ds a n many fits
                ∙ ap (λ k. branch H (root_over H ds a k) (root_over H ds (a + k) (n - k))) split in
                let sized_left : length own_left ≡ 32 =
                root_size H (sizes digests) ds leaves a (2 ^ h) unit (omega arith) in
                let sized_right : length own_right ≡ 32 =
                root_size H (sizes digests) ds leaves (a + 2 ^ h) (n - 2 ^ h) (omega arith) (omega arith) in
                elim (same_or_not (branch_input l r) (branch_input own_left own_right)) [
                  | inr differ ↦ inr (record {
                    first = branch_input l r;
                    second = branch_input own_left own_right;
                    collide = record { differ = differ; same = both };
                    placed = record {
                      from = a;
                      count = n;
                      part = part;
                      more = many;
                      by_data = rw split (rw (cut_left, cut_right) refl);
                      by_leaves = sym (ap (λ k. branch_input (root_over H ds a k) (root_over H ds (a + k) (n - k)))
                          split);
                    };
                  })
                  | inl equal ↦ elim (apart left right) [
                    | inl both_targets ↦
                        subst Reads (sym (rw both_targets.0 (ap (at_parts misses at_target) both_targets.1)))
                        (at_both misses at_target at_target at_own at_own)
                    | inr sized ↦
                        let one : (length l ≡ 32) ⊎ (length r ≡ 32) =
                        elim sized [ inl first ↦ inl (first l l_is) | inr second ↦ inr (second r r_is) ] in
                        let parts =
                        branch_parts l r own_left own_right
                        (lengths l r own_left own_right one sized_left sized_right equal) equal in
                        at_both misses left right (reads h (2 * j) a (2 ^ h) here unit (omega arith)
                        (omega arith) part_left (l_is ∙ ap Some parts.0))
                        (reads h (2 * j + 1) (a + 2 ^ h) (n - 2 ^ h) next (omega arith) (omega arith)
                        (omega arith) part_right (r_is ∙ ap Some parts.1))
                  ]
                ])
          ]
        ]
      ]

-- what tiles give has 32 bytes
below_size : (H : List ℕ → List ℕ) → HasSize H → (ds : List (List ℕ)) → AreHashes ds → length (root_of H ds) ≡ 32
below_size H gives [] hashes = gives []
below_size H gives (d ∷ ds) hashes = root_len H gives (d ∷ ds) (omega arith) hashes

first_size : (H : List ℕ → List ℕ) → HasSize H → (t : TileAt × List (List ℕ)) → AreHashes t.1
    → (node : ℕ) (d : List ℕ) (others : Option (List ℕ)) → (others ≡ Some d → length d ≡ 32)
    → (b : Bool) → has_below t.0 node ≡ b → option_or (digest_of H t node) others ≡ Some d → length d ≡ 32
first_size H gives t hashes node d others other true has is =
    let found : Some (root_below H t.1 node) ≡ Some d = rw has at is in
    let same : root_below H t.1 node ≡ d = cc in rw (← same) (below_size H gives _ (some_hashes _ _ t.1 hashes))
first_size H gives t hashes node d others other false has is = other (rw has at is)

digest_size : (H : List ℕ → List ℕ) → HasSize H → (tiles : Tiles)
    → AllByRecursion (λ (t : TileAt × List (List ℕ)). AreHashes t.1) tiles → (node : ℕ) (d : List ℕ)
    → digest_by H tiles node ≡ Some d → length d ≡ 32
digest_size H gives [] all node d is = cc
digest_size H gives (t ∷ tiles) all node d is = first_size H gives t all.0 node d (digest_by H tiles node)
    (digest_size H gives tiles all.1 node d) (has_below t.0 node) refl is

pub tiles_collide : (H : List ℕ → List ℕ) (ds : List (List ℕ)) (tiles : Tiles) (node : ℕ) (x : List ℕ) → GivesHashes H
    → AreHashes ds → AllByRecursion (λ (t : TileAt × List (List ℕ)). AreHashes t.1) tiles → 0 < length ds
    → cut_root H (digest_by H tiles) node x (length ds) ≡ Some (root_of H ds)
    → AllByRecursion (λ y. digest_by H tiles y ≡ own_digest H ds y) (needed node (length ds))
    ⊎ SomeCollision H (IsEvaluationPlaced H (with_target (digest_by H tiles) (range_of node) x) ds)
tiles_collide H ds tiles node x gives leaves hashes some e =
    let n = length ds in
    let low = below_pow n in
    reads H gives (digest_by H tiles) (digest_size H (sizes gives) tiles hashes)
    (range_of node) x ds leaves n 0 0 n (omega arith) some (omega arith)
    (omega arith) whole (e ∙ ap Some (sym (roots.whole H ds)))
