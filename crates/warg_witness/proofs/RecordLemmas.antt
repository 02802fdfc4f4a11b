-- Where paths lead, turn by turn, two evaluations along paths of one place, and a tree's own path.
use Rattle.std.proofs.Common.{◌≡◌, inl, inr, ℕ, zero, suc, ◌+◌, ◌-◌, ◌<◌, ◌≤◌, List, [], ◌∷◌, ◌++◌, length, reverse, get_or, Option, Some, None, if◌then◌else◌, refl, sym, ap, ◌∙◌, arith}
use Rattle.std.specs.Option.{MatchOption}
use Rattle.std.proofs.lemmas.Bool.{cases_lt, lt-leb, le-leb, lt-ltb, le-ltb}
use Rattle.std.proofs.lemmas.List.{reverse-append}
use Rattle.std.proofs.Math.Seq.{take-length}
use Rattle.warg_crypto.specs.Tree.{input_beside}
use Rattle.warg_crypto.proofs.ForCallers.{HasSize}
use Rattle.warg_log.specs.Cut.{old_over}
use Rattle.warg_log.specs.Ranges.{Range, leaves_from, front_part, rest_part, IsAligned}
use Rattle.warg_log.specs.Tree.{front_of, leaves_of, root_of, root_over, own_digest}
use Rattle.warg_log.proofs.ForCallers.{root_over_parts, front_is_greatest, old_own_range}
use Rattle.warg_paths.specs.Paths.{inclusion_of, inclusion_root, root_down, beside, path_within}
use Rattle.warg_paths.specs.Ways.{IsOnWay, ArePathInputs, is_right, leaf_in, count_in, start_in}
use Rattle.warg_paths.specs.Ways.IsOnWay.{whole, front, rest}
use Rattle.warg_paths.proofs.ForCallers.{root_one, leads_inside, inside_leads, at_leaf, one_or_more, leads_up, taken_at, led_down, way_in}
use Rattle.warg_witness.specs.Inputs.{plain_input}
use Rattle.warg_witness.specs.PathClaims.{IsRecordMet, IsRecordAgreement}
use Rattle.warg_witness.specs.PathPlaced.{record_input, IsRecordAgreementPlaced, IsRecordPlaced}
use Rattle.warg_witness.specs.Private.Turns.{IsUp, Along, LeadNowhere, IsPathClimb, NeverMeet, IsPathsMeeting}
use Rattle.warg_witness.specs.Private.Divergence.{Parts, Shows, at_bottom, inputs_of}
use Rattle.warg_witness.specs.declared.divergence.Climb.{Climb}
use Rattle.warg_witness.specs.declared.divergence.Divergence.{Divergence}
use Rattle.warg_witness.proofs.ClimbLemmas.{shown, parts_placed, up_parts, up_somewhere, up_sizes}
use Rattle.warg_witness.proofs.CutLemmas.{leaves_count, plain_digest_is}
use Rattle.warg_witness.proofs.RangeLemmas.{Digest, front_aligned, rest_aligned, whole_aligned}

-- a path from the topmost digest down
pub turned : (path below : List (List ℕ)) (top : List ℕ) → path ≡ below ++ top ∷ [] → reverse path ≡ top ∷ reverse below
turned path below top is = rw is (reverse-append below (top ∷ []))

-- where the part that has the leaf stands
bounds_in : (m a n : ℕ) → m < n → 1 < n → (start_in m a n + leaf_in m n ≡ a + m) × (leaf_in m n < count_in m n)
    × (start_in m a n + count_in m n ≤ a + n) × (count_in m n < n)
bounds_in m a n inside more = grind (arith, front_is_greatest, cases_lt, lt-leb, le-leb)

-- the root over all leaves of a tree is its root
pub whole_root : (H : Digest) (tree : List (List ℕ)) → root_over H tree 0 (length tree) ≡ root_of H tree
whole_root H tree = ap (root_of H) (take-length tree)

pub plain_root : (H : Digest) (entries : List (List ℕ)) → root_over H (leaves_of H entries) 0 (length entries)
    ≡ root_of H (leaves_of H entries)
plain_root H entries = rw leaves_count at (whole_root H (leaves_of H entries))

-- what is so of paths by way of the part that has the leaf
along_up : {t u : List ℕ} {ds es : List (List ℕ)} (m n : ℕ) (P : ℕ → ℕ → List (List ℕ) → List (List ℕ) → Type 0) → 1 < n
    → Along ds es (leaf_in m n) (count_in m n) P → Along (t ∷ ds) (u ∷ es) m n P
along_up m n P more along index count path other a way other_way =
    along index count path other (start_in m a n) (way_in more way) (way_in more other_way)

-- both evaluations at a leaf, and one turn up
module _ {D : Type 0} (H : Digest) (x y : List ℕ) where
  pub leaf_climb : {m n : ℕ} {climb : Climb D} (path other : List (List ℕ)) → n ≡ 1 → length path ≡ 0
      → length other ≡ 0 → climb ≡ at_bottom x y
      → IsPathClimb H (x, reverse path) (y, reverse other) m n climb
  leaf_climb {m} path other one none others bottom = grind (arith, root_one)

  module _ {t u : List ℕ} {ds es : List (List ℕ)} (m n : ℕ) (more : 1 < n) where
    pub part_up : {before after : Climb D}
        → IsPathClimb H (x, ds) (y, es) (leaf_in m n) (count_in m n) before
        → IsUp H (is_right m n) before t u after
        → IsPathClimb H (x, t ∷ ds) (y, u ∷ es) m n after
    part_up {before} climb up =
        let Taken : List ℕ → List ℕ → Type 0 = λ first second. Along (t ∷ ds) (u ∷ es) m n
        (λ index count path other. ArePathInputs H index count x path y other first second) in
        record {
          first_led = leads_up H m n x t _ ds more climb.first_led ∙ ap Some (sym up.first_is);
          second_led =
              leads_up H m n y u _ es more climb.second_led ∙ ap Some (sym up.second_is);
          diverges = up_parts Taken
              (x ≡ y) up (λ same _. parts_placed H before.divergence (λ _ _ at. along_up m n _ more at) (λ one. one)
              (climb.diverges same)) (grind (arith, taken_at));
        }

-- where one leads nowhere in the part that has the leaf, it leads nowhere
pub part_nowhere : (H : Digest) (x y t u : List ℕ) (ds es : List (List ℕ)) (m n : ℕ)
    → LeadNowhere H (x, ds) (y, es) (leaf_in m n) (count_in m n)
    → LeadNowhere H (x, t ∷ ds) (y, u ∷ es) m n
part_nowhere H x y t u ds es m n nowhere = λ first second is other. nowhere _ _ (led_down H m n x first t ds is).2
    (led_down H m n y second u es other).2

-- two paths of which one leads nowhere, that lead to two digests, and that lead to one
module _ (H : Digest) (x y : List ℕ) (path other : List (List ℕ)) (m n : ℕ) where
  pub nowhere_never : LeadNowhere H (x, reverse path) (y, reverse other) m n
      → NeverMeet H (x, path) (y, other) m n
  nowhere_never nowhere = λ root first second. nowhere root root (leads_inside H m n x root path first).1
      (leads_inside H m n y root other second).1

  pub whole_parts : {D : Type 0} {top : Climb D} → IsPathClimb H (x, reverse path) (y, reverse other) m n top
      → top.first ≡ top.second → Parts H (ArePathInputs H m n x path y other) (x ≡ y) top.divergence
  whole_parts {top = top} climb same = parts_placed H top.divergence (λ _ _ at. at m n path other 0 whole whole)
      (λ one. one) (climb.diverges same)

  pub paths_met : {D : Type 0} {top : Climb D}
      → IsPathClimb H (x, reverse path) (y, reverse other) m n top → m < n
      → (met : Option (Divergence D))
      → MatchOption met (¬ (top.first ≡ top.second)) (λ q. (top.first ≡ top.second) × (q ≡ top.divergence))
      → MatchOption met (NeverMeet H (x, path) (y, other) m n)
      (IsPathsMeeting H (x, path) (y, other) m n)
  paths_met {top = top} climb inside None apart = grind (arith, leads_inside)
  paths_met {top = top} climb inside (Some q) is = grind (
    arith,
    inside_leads H m n x path inside,
    inside_leads H m
        n y other inside,
    whole_parts climb is.0,
  )

-- two paths of one place have as many digests, and come to the leaf without any
abbrev AtLeaf : ℕ → ℕ → List (List ℕ) → List (List ℕ) → Type 0
AtLeaf index count path other = (m : ℕ) × (a : ℕ) × (n : ℕ) × IsOnWay index 0 count (reverse path) m a n []
    × IsOnWay index 0 count (reverse other) m a n []

at_leaves : (H : Digest) (x y root other : List ℕ) (m n : ℕ) (ds es : List (List ℕ)) → root_down H m n x ds ≡ Some root
    → root_down H m n y es ≡ Some other → Along ds es m n AtLeaf
at_leaves H x y root other m n [] [] is other_is = λ _ _ _ _ a way other_way. (m, a, n, way, other_way)
at_leaves H x y root other m n [] (u ∷ es) is other_is = absurd (one_or_more H m n _ _ _ _ _ _ is other_is)
at_leaves H x y root other m n (t ∷ ds) [] is other_is = absurd (one_or_more H m n _ _ _ _ _ _ other_is is)
at_leaves H x y root other m n (t ∷ ds) (u ∷ es) is other_is =
    let (p, more, led, _) = led_down H m n x root t ds is in
    let (q, _, other_led, _) = led_down H m n y other u es other_is in
    along_up m n AtLeaf more
    (at_leaves H x y p q (leaf_in m n) (count_in m n) ds es led other_led)

-- two that lead somewhere go up side by side
module _ {D : Type 0} (H : Digest) (gives : HasSize H) (x y : List ℕ) (size : length x ≡ length y) where
  pub paths_climbed : (m n : ℕ) (ds es : List (List ℕ)) (p q : List ℕ) → root_down H m n x ds ≡ Some p
      → root_down H m n y es ≡ Some q → (climb : Climb D) × IsPathClimb H (x, ds) (y, es) m n climb
      × (length climb.first ≡ length climb.second)
  paths_climbed m n [] [] p q is other_is = (at_bottom x y, grind (arith, at_leaf), size)
  paths_climbed m n [] (e ∷ es) p q is other_is = absurd (one_or_more H m n _ _ _ _ _ _ is other_is)
  paths_climbed m n (d ∷ ds) [] p q is other_is = absurd (one_or_more H m n _ _ _ _ _ _ other_is is)
  paths_climbed m n (d ∷ ds) (e ∷ es) p q is other_is =
      let (_, more, led, _) = led_down H m n x p d ds is in
      let (_, _, other_led, _) = led_down H m n y q e es other_is in
      let below = paths_climbed (leaf_in m n) (count_in m n) ds es _ _ led other_led in
      let step = up_somewhere {H = H} (is_right m n) below.0 d e below.2 in
      (step.0, part_up H x y m n more below.1 step.1, up_sizes gives step.1)

-- what two evaluations take at a turn, or at the leaf, stands on the way
module _ (H : Digest) (index count : ℕ) (path : List (List ℕ)) (v : List ℕ) (other_path : List (List ℕ))
    (u : List ℕ) where
  pub inputs_placed : (first second : List ℕ) → ArePathInputs H index count (H (0 ∷ v)) path (H (0 ∷ u)) other_path
      first
      second → IsRecordAgreementPlaced H index count (path, v) (other_path, u) first second
  inputs_placed first second at = search at

  pub leaf_placed : {root other : List ℕ} → inclusion_root H index count (H (0 ∷ v)) path ≡ Some root
      → inclusion_root H index count (H (0 ∷ u)) other_path ≡ Some other
      → IsRecordAgreementPlaced H index count (path, v) (other_path, u) (0 ∷ v) (0 ∷ u)
  leaf_placed {root} {other} is other_is =
      let (m, a, n, way, other_way) = at_leaves H _ _ root other index count (reverse path) (reverse other_path)
      (leads_inside H index count _ _ path is).1 (leads_inside H index count _ _ other_path other_is).1 index count
      path other_path 0 whole whole in
      grind arith

  -- what a divergence of two paths shows, where the values differ
  pub record_agreement_shown : {D : Type 0} (p : Divergence D) → (v ≡ u → ⊥)
      → IsPathsMeeting H (H (0 ∷ v), path) (H (0 ∷ u), other_path) index count p
      → Shows H (IsRecordAgreementPlaced H index count (path, v) (other_path, u)) (inputs_of p (0 ∷ v) (0 ∷ u))
  record_agreement_shown p apart met = grind (arith, shown, inputs_placed, leaf_placed met.first_is met.second_is)

-- The root over the part beside the one that has leaf m of the n leaves from a on.
abbrev beside_root : Digest → List (List ℕ) → ℕ → ℕ → ℕ → List ℕ
beside_root H tree m a n = if is_right m n then root_over H tree a (front_of n) else root_over H tree (a + front_of n)
    (n - front_of n)

-- A tree's own path to leaf m of the n leaves from a on: beside it stand the tree's roots. Its digests are given from
-- the
-- topmost down.
abbrev pub IsOwn : Digest → List (List ℕ) → ℕ → ℕ → ℕ → List (List ℕ) → Type 0
IsOwn H tree m a n [] = n ≡ 1
IsOwn H tree m a n (top ∷ below) = (1 < n) × (top ≡ beside_root H tree m a n)
    × IsOwn H tree (leaf_in m n) (start_in m a n) (count_in m n) below

module _ (H : Digest) (tree : List (List ℕ)) where
  -- the branch over the part that has the leaf and that beside it
  own_branch : (m a n : ℕ) → 1 < n → a + n ≤ length tree → root_over H tree a n
      ≡ H (input_beside (is_right m n) (beside_root H tree m a n) (root_over H tree (start_in m a n) (count_in m n)))
  own_branch m a n more within = grind (arith, cases_lt, lt-leb, root_over_parts, le-leb)

  -- it leads from the leaf's digest to the root over them
  own_leads : (m a n : ℕ) (es : List (List ℕ)) → m < n → a + n ≤ length tree → IsOwn H tree m a n es
      → root_down H m n (root_over H tree (a + m) 1) es ≡ Some (root_over H tree a n)
  own_leads m a n [] inside within one = let here : a + m ≡ a = omega arith in rw (here, one) (root_one H m _ [] refl)
  own_leads m a n (top ∷ below) inside within (more, is, own) =
      let at = bounds_in m a n inside more in
      let led = own_leads (leaf_in m n) (start_in m a n) (count_in m n) below at.1 (omega (arith, at.2)) own in
      grind (arith, leads_up, own_branch m a n more within)

  -- there is one
  pub own_exists : (k m a n : ℕ) → n ≤ k → m < n → (es : List (List ℕ)) × IsOwn H tree m a n es
  own_exists zero m a n le inside = absurd (omega arith)
  own_exists (suc k) m a n le inside = elim (cases_lt 1 n) [
    | inr few ↦ ([], omega arith)
    | inl more ↦
        let at = bounds_in m a n inside more in
        let below = own_exists k (leaf_in m n) (start_in m a n) (count_in m n) (omega (arith, at.3)) at.1 in
        (beside_root H tree m a n ∷ below.0, (more, refl, below.1))
  ]

  -- and it is the one that is made out of the tree's digests
  abbrev roots : Range → Option (List ℕ)
  roots = old_over H (own_digest H tree)

  beside_is : (p : Option (List (List ℕ))) (t : Option (List ℕ)) (path : List (List ℕ)) → beside p t ≡ Some path
      → (below : List (List ℕ)) × (top : List ℕ) × (p ≡ Some below) × (t ≡ Some top) × (path ≡ below ++ top ∷ [])
  beside_is (Some p) (Some t) path is = (p, t, refl, refl, cc)
  beside_is (Some p) None path is = absurd (cc)
  beside_is None t path is = absurd (cc)

  pub own_made : (k m a n : ℕ) (path : List (List ℕ)) → n ≤ k → m < n → IsAligned a n → a + n ≤ length tree
      → path_within roots k m (leaves_from a n) ≡ Some path → IsOwn H tree m a n (reverse path)
  unfolding path_within
  own_made zero m a n path le inside aligned within is = absurd (omega arith)
  own_made (suc k) m a n path le inside aligned within is = elim (cases_lt 1 n) [
    | inr few ↦ let nothing : Some [] ≡ Some path = rw (le-leb n 1 few) at is in let none : [] ≡ path = cc in rw
        (← none) (omega arith)
    | inl more ↦ let f = front_is_greatest n more in elim (cases_lt m (front_of n)) [
      | inl lt ↦ let (below, top, below_is, top_is, split) = beside_is _ _ path
          (rw (lt-leb n 1 more, lt-ltb m (front_of n) lt) at is) in let far = old_own_range H tree
          (rest_part (leaves_from a n)) (omega arith) (rest_aligned aligned more) (omega arith) in let same : Some
          (root_over H tree (a + front_of n) (n - front_of n)) ≡ Some top = sym far ∙ top_is in rw
          (turned path below top split, lt-leb (front_of n) m lt) (
            more,
            cc,
            own_made k m a (front_of n) below (omega arith) lt (front_aligned aligned (omega arith))
                (omega arith) below_is,
          )
      | inr ge ↦ let (below, top, below_is, top_is, split) = beside_is _ _ path
          (rw (lt-leb n 1 more, le-ltb m (front_of n) ge) at is) in let far = old_own_range H tree
          (front_part (leaves_from a n)) (omega arith) (front_aligned aligned (omega arith)) (omega arith) in let
          same : Some (root_over H tree a (front_of n)) ≡ Some top = sym far ∙ top_is in rw
          (turned path below top split, le-leb (front_of n) m ge) (
            more,
            cc,
            grind (arith, own_made k (m - front_of n) (a + front_of n) (n - front_of n) below, rest_aligned),
          )
    ]
  ]

  -- at each range on the way it is the range's own
  own_at : {index count : ℕ} {own : List (List ℕ)} {m a n : ℕ} {ds : List (List ℕ)} → IsOnWay index 0 count own m a n ds
      → IsOwn H tree index 0 count own → index < count
      → (a + m ≡ index) × (m < n) × (a + n ≤ count) × IsOwn H tree m a n ds
  own_at whole own inside = (omega arith, inside, omega arith, own)
  own_at (front m a n top below way more lt) own inside = grind
      (arith, own_at way own inside, front_is_greatest, lt-leb)
  own_at (rest m a n top below way more le) own inside = grind (arith, own_at way own inside, front_is_greatest, le-leb)

-- a path beside that of the tree over the entries
module _ (H : Digest) (index : ℕ) (path : List (List ℕ)) (value : List ℕ) (entries own : List (List ℕ))
    (inside : index < length entries) (made : IsOwn H (leaves_of H entries) index 0 (length entries) (reverse own))
  where
    abbrev tree : List (List ℕ)
    tree = leaves_of H entries

    abbrev entry : List ℕ
    entry = get_or entries index []

    fits : length tree ≡ length entries
    fits = leaves_count H entries

    leaf : root_over H tree index 1 ≡ H (0 ∷ entry)
    leaf = plain_digest_is H entries index 1 (omega arith) (omega arith)

    -- it leads from the entry to the root
    pub own_met : inclusion_root H index (length entries) (H (0 ∷ entry)) own ≡ Some (root_of H tree)
    own_met =
        let start : 0 + index ≡ index = omega arith in
        let from_leaf = rw (start, leaf) at (own_leads H tree index 0 (length entries) (reverse own) inside
        (omega (arith, fits)) made) in
        inside_leads H index (length entries) (H (0 ∷ entry)) own inside ∙ from_leaf ∙ ap Some (plain_root H entries)

    -- so what it takes is the plain input
    plain : (m a n : ℕ) (ds : List (List ℕ)) (second : List ℕ) → (a + m ≡ index) × (m < n) × (a + n ≤ length entries)
        × IsOwn H tree m a n ds → record_input H entry m n ds ≡ Some second → second ≡ plain_input H entries a n
    plain m a n [] second at is = let one : n ≡ 1 = at.3 in let here : a ≡ index = omega arith in rw (here, one) (cc)
    plain m a n (top ∷ below) second at is = grind (
      arith,
      bounds_in,
      own_leads,
      fits,
      leaf,
      taken_at,
      cases_lt,
      lt-leb,
      le-leb,
    )

    pub record_placed : (first second : List ℕ)
        → IsRecordAgreementPlaced H index (length entries) (path, value) (own, entry)
        first second → IsRecordPlaced H index path value entries first second
    record_placed first second at = record {
      leaf = at.leaf;
      from = at.from;
      count = at.count;
      digests = at.digests;
      on_way = at.on_way;
      evaluation = at.first_evaluation;
      plain = plain at.leaf at.from at.count at.other_digests second (own_at H tree at.other_on_way made inside)
          at.second_evaluation;
    }

    -- so the claim is met exactly where both paths agree
    pub met_from : IsRecordAgreement H index (length entries) path value own entry → IsRecordMet H index path value
        entries
    met_from agrees = agrees.first_is ∙ sym agrees.second_is ∙ own_met

    pub met_then : IsRecordMet H index path value entries → IsRecordAgreement H index (length entries) path value
        own entry
    met_then met = record { root = root_of H tree; first_is = met; second_is = own_met }

-- the path that the code makes of the tree over the entries
pub own_from : (H : Digest) (index : ℕ) (entries tree own : List (List ℕ)) → tree ≡ leaves_of H entries
    → index < length entries → inclusion_of (old_over H (own_digest H tree)) index (length tree) ≡ Some own
    → IsOwn H (leaves_of H entries) index 0 (length entries) (reverse own)
own_from H index entries tree own is inside made = grind (arith, own_made, whole_aligned, leaves_count)
