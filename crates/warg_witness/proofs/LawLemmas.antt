-- What the laws state: a claim that is met and isn't true gives a collision.
use Rattle.std.proofs.Common.{◌≡◌, ℕ, zero, suc, ◌+◌, ◌<◌, ◌≤◌, ◌⊎◌, inl, inr, List, [], ◌∷◌, length, get_or, refl, sym, ap, ◌∙◌, arith, ◌^◌, Some, Bool, true, false, not, ◌++◌, Option, unwrap_or, append_assoc, length-append, reverse}
use Rattle.warg_crypto.proofs.ForCallers.{same_or_not, HasSize, sizes, branch_parts}
use Rattle.warg_log.specs.Tree.{leaves_of, root_of, root_over}
use Rattle.warg_log.specs.Cut.{Evaluation, with_target, with_own, cut_over}
use Rattle.warg_witness.specs.Ranges.{IsAround}
use Rattle.warg_witness.specs.Claims.{Begins, IsMet, IsEntry, IsRootBelow, IsAgreement}
use Rattle.warg_crypto.specs.Collisions.{GivesHashes, SomeCollision}
use Rattle.warg_log.specs.Ranges.{Range, leaves_from, range_of, IsAligned}
use Rattle.warg_witness.specs.Private.Divergence.{IsNodeRange, side_of, at_bottom, HaveOneDigest, IsDivergence, Parts, Shows, inputs, IsRangeClimb}
use Rattle.warg_witness.specs.declared.divergence.Climb.{Climb}
use Rattle.warg_witness.specs.declared.divergence.Divergence.{Divergence}
use Rattle.warg_witness.proofs.RangeLemmas.{Digest, node_range, Data, node_some, same_or_above, side_around, whole_aligned}
use Rattle.warg_witness.proofs.ClimbLemmas.{shown, up_somewhere, up_sizes}
use Rattle.warg_witness.proofs.CutLemmas.{ranges_start, sides_there, ranges_up, leaves_count, have_root, plain_digest_is}
use Rattle.warg_log.specs.Nodes.{height_of, start_of}
use Rattle.warg_witness.specs.Placed.{IsValuePlaced, IsHashPlaced, IsAgreementPlaced}
use Rattle.warg_witness.specs.declared.divergence.Divergence.TheVariants.{Target, Branch}
use Rattle.warg_witness.proofs.ShownLemmas.{entry_from, value_placed, value_meets, hash_placed, agreement_shown}
use Rattle.warg_log.specs.Claims.{InclusionClaim}
use Rattle.warg_log.proofs.ForCallers.{inclusion_leads}
use Rattle.std.specs.FinMap.{get, empty}
use Rattle.std.specs.Option.{IfSome}
use Rattle.warg_crypto.specs.EmptyTrees.{empty_root}
use Rattle.warg_map.specs.Bits.{key_bits}
use Rattle.warg_crypto.specs.Tree.{leaf_digest, branch_input, input_beside}
use Rattle.warg_map.specs.Sparse.{root_of_levels, map_of, sparse_root, inserted}
use Rattle.warg_map.specs.Peers.{Proves, ProvesAbsent, IsPeers, IsBeside}
use Rattle.warg_map.specs.Last.{last_under}
use Rattle.warg_witness.specs.MapClaims.{IsKeyAgreement, IsLastValue, IsKeyMet, IsAbsenceMet}
use Rattle.warg_witness.specs.MapPlaced.{IsKeyPlaced, IsKeyAgreementPlaced, IsPlacedAtPrefix}
use Rattle.warg_witness.specs.Private.MapMeeting.{IsAlike}
use Rattle.warg_map.specs.ProofValue.{proof_value}
use Rattle.warg_witness.specs.MapInputs.{fork_input}
use Rattle.warg_witness.proofs.KeyLemmas.{bits_climbed, key_agreement_shown, plain_leaf_is, own_grown_root, key_shown, inserted_push}
use Rattle.warg_map.proofs.ForCallers.{all_bits, last_held, root_at_prefix, replaced_root, absent_root, absent_replaced_root}
use Rattle.std.proofs.lemmas.List.{append-nil, map-append, length-reverse}
use Rattle.warg_witness.specs.UpdateClaims.{IsUpdated, Step, insertions_of, LeadThrough, CollidesAtStep}

-- Where two evaluations with one digest at a range diverge.
abbrev pub SomeDivergence : Type 0
SomeDivergence = Divergence (Unit {0})

-- entries that don't begin with others differ from them at a place
pub difference : (old new : List (List ℕ)) → length old ≤ length new → (Begins old new → ⊥) → (place : ℕ)
    × (place < length old) × (get_or old place [] ≡ get_or new place [] → ⊥)
difference [] new order other = absurd (other refl)
difference (x ∷ old) [] order other = absurd (omega arith)
difference (x ∷ old) (y ∷ new) order other = elim (same_or_not x y) [
  | inl same ↦ let deeper = difference old new (omega arith) (λ e. other (cc)) in (suc deeper.0, omega arith, deeper.2)
  | inr differ ↦ (0, omega arith, differ)
]

-- two evaluations with digests at a range go up to it
module _ (H : Digest) (F : Data) (x : List ℕ) (G : Data) (y : List ℕ) (target : Range) (gives : HasSize H)
    (size : length x ≡ length y) (node : IsNodeRange target) where
  abbrev e : Evaluation
  e = with_target F target x

  abbrev f : Evaluation
  f = with_target G target y

  climbed : (k : ℕ) (range : Range) → range.count ≤ k → IsAligned range.start range.count → IsAround target range
      → (p q : List ℕ) → cut_over H e range ≡ Some p → cut_over H f range ≡ Some q
      → (climb : Climb (Unit {0})) × IsRangeClimb H e f range climb × (length climb.first ≡ length climb.second)
  climbed zero range le aligned around p q is is' = let some = node_some node in absurd (omega arith)
  climbed (suc k) range le aligned around p q is is' = elim (same_or_above target range around) [
    | inl here ↦ (at_bottom x y, ranges_start H F x G y target range here refl, size)
    | inr over ↦
        let (right, (smaller, side, at)) = side_around node aligned over in
        let first = sides_there H e range node over right is in
        let second = sides_there H f range node over right is' in
        let below = climbed k (side_of right range) (omega arith) side at first.0 second.0 first.2 second.2 in
        let step = up_somewhere {H = H} right below.0 first.1 second.1 below.2 in (
          step.0,
          ranges_up H F x G y target range node over right below.1 first.3 second.3 step.1,
          up_sizes gives step.1,
        )
  ]

  -- so two with one digest there diverge somewhere
  pub diverged : (range : Range) → IsAligned range.start range.count → IsAround target range
      → HaveOneDigest H e f range → (p : SomeDivergence) × IsDivergence H e f range p
  diverged range aligned around one =
      let climb = climbed range.count range (omega arith) aligned around one.digest one.digest one.first one.second in
      let same : Some climb.0.first ≡ Some climb.0.second =
      sym climb.1.first_is ∙ one.first ∙ sym one.second ∙ climb.1.second_is in
      (climb.0.divergence, climb.1.diverges (cc))

-- what is shown is a collision
pub shown_collides : {H : Digest} {P : List ℕ → List ℕ → Type 0} (pair : List ℕ × List ℕ) → Shows H P pair
    → SomeCollision H P
shown_collides pair shown = record { first = pair.0; second = pair.1; collide = shown.collides; placed = shown.placed }

-- a divergence is one, or both evaluations meet at the target
pub some_collision : {D : Type 0} {H : Digest} {P Q : List ℕ → List ℕ → Type 0} {A : Type 0} (p : Divergence D)
    → ((l r : List ℕ) → P l r → Q l r) → (A → SomeCollision H Q) → Parts H P A p → SomeCollision H Q
some_collision Target placed meet is = meet is
some_collision (Branch branches) placed meet is = shown_collides (inputs branches)
    (record { collides = is.collides; placed = placed _ _ is.placed })

module _ (H : Digest) where
  -- each root over the entries has 32 bytes
  root_size : (entries : List (List ℕ)) (a n : ℕ) → HasSize H → 0 < n → a + n ≤ length (leaves_of H entries)
      → length (root_over H (leaves_of H entries) a n) ≡ 32
  root_size entries a n gives some within = grind (arith, plain_digest_is H entries a n some, leaves_count H entries)

  -- an evaluation that leads to the root of a tree, and that tree
  from_tree : (F : Data) (x : List ℕ) (entries : List (List ℕ)) (target : Range) → HasSize H → length x ≡ 32
      → IsNodeRange target → target.start + target.count ≤ length (leaves_of H entries)
      → cut_over H (with_target F target x) (leaves_from 0 (length (leaves_of H entries)))
      ≡ Some (root_of H (leaves_of H entries))
      → (p : SomeDivergence)
      × IsDivergence H (with_target F target x) (with_own H (leaves_of H entries) target)
      (leaves_from 0 (length (leaves_of H entries))) p
  from_tree F x entries target gives size node within leads =
      let ds = leaves_of H entries in
      let n = length ds in
      let some = node_some node in
      diverged H F x _ _ target gives (size ∙ sym (root_size entries target.start target.count gives some within)) node
      (leaves_from 0 n) (whole_aligned n refl) (omega arith) (have_root H ds leads (omega arith))

  -- a claim that is met leads to the root of the tree
  leads_to : {F : Data} {p : InclusionClaim} {digest : List ℕ} {entries : List (List ℕ)} → IsMet H F p digest entries
      → let ds = leaves_of H entries in let node = p.leaf.0 in
      (start_of node + 2 ^ height_of node ≤ length ds)
      × (cut_over H (with_target F (range_of node) digest) (leaves_from 0 (length ds)) ≡ Some (root_of H ds))
  leads_to {F} {p} {digest} {entries} met = let at = (inclusion_leads H F p digest _).0 met.is in
      grind (arith, leaves_count H entries)

  pub value_collides : (F : Data) (p : InclusionClaim) (value : List ℕ) (entries : List (List ℕ)) → GivesHashes H
      → IsMet H F p (H (0 ∷ value)) entries
      → ¬ (IsEntry value p.leaf.0 entries) → SomeCollision H (IsValuePlaced H F value p.leaf.0 entries)
  value_collides F p value entries digests met untrue =
      let leads = leads_to met in
      let (at, diverges) = from_tree F _ entries (range_of p.leaf.0) (sizes digests) (sizes digests (0 ∷ value))
      (node_range p.leaf.0) leads.0 leads.1 in
      shown_collides _ (shown at (value_placed H F entries _ refl p.leaf.0 value) _ _
      (value_meets H F entries _ refl p.leaf.0 value (λ is. untrue (entry_from p.leaf.0 is))) diverges)

  pub hash_collides : (F : Data) (p : InclusionClaim) (hash : List ℕ) (entries : List (List ℕ)) → length hash ≡ 32
      → GivesHashes H → IsMet H F p hash entries
      → ¬ (IsRootBelow H hash p.leaf.0 entries) → SomeCollision H (IsHashPlaced H F hash p.leaf.0 entries)
  hash_collides F p hash entries size digests met untrue =
      let leads = leads_to met in
      let (at, diverges) = from_tree F hash entries (range_of p.leaf.0) (sizes digests) size (node_range p.leaf.0)
      leads.0 leads.1 in
      some_collision at (hash_placed H F entries _ refl p.leaf.0 hash) (λ meets. absurd (untrue meets.0)) diverges

  pub agreement_collides : (p : InclusionClaim) (F : Data) (value : List ℕ) (G : Data) (other : List ℕ) → GivesHashes H
      → IsAgreement H p F (H (0 ∷ value)) G (H (0 ∷ other)) → ¬ (value ≡ other)
      → SomeCollision H (IsAgreementPlaced H (F, value) (G, other) p.leaf.0 p.log_length)
  agreement_collides p F value G other digests met untrue =
      let n = p.log_length in
      let first = (inclusion_leads H F p _ met.root).0 met.first_is in
      let second = (inclusion_leads H G p _ met.root).0 met.second_is in
      let (at, diverges) = diverged H F _ G _ (range_of p.leaf.0) (sizes digests)
      (sizes digests (0 ∷ value) ∙ sym (sizes digests (0 ∷ other))) (node_range p.leaf.0)
      (leaves_from 0 n) (whole_aligned n refl) (omega arith)
      (record { digest = met.root; first = first.1; second = second.1 }) in
      shown_collides _ (agreement_shown H F value G other p.leaf.0 n at untrue diverges)

-- what is evaluated has 32 bytes
value_len : (H : List ℕ → List ℕ) (P : List (Option (List ℕ))) (x : List ℕ) → HasSize H → length x ≡ 32
    → (bits : List Bool) → length (proof_value H P x bits) ≡ 32
unfolding proof_value
value_len H P x gives size [] = size
value_len H P x gives size (b ∷ bits) = gives (fork_input H P x b bits)

-- What is held has 32 bytes.
abbrev pub HaveSize : (List Bool → Option (List ℕ)) → Type 0
HaveSize held = (bits : List Bool) → IfSome (held bits) (λ digest. length digest ≡ 32)

module _ (H : List ℕ → List ℕ) (gives : HasSize H) where
  -- a root has 32 bytes where each leaf digest has
  pub root_len : (k : ℕ) (held : List Bool → Option (List ℕ)) → HaveSize held → length (root_of_levels H k held) ≡ 32
  unfolding root_of_levels empty_root
  root_len zero held h = grind (arith, h [])
  root_len (suc k) held h = gives _

  pub held_len : (insertions : List (List ℕ × List ℕ)) → HaveSize (get (map_of H insertions))
  held_len insertions q = rw last_held (grind (arith, gives))

-- an agreement of two values, and a claim of a key, that are met and aren't true
pub key_agreement_collides : (H : List ℕ → List ℕ) (key : List ℕ) (P : List (Option (List ℕ))) (v : List ℕ)
    (Q : List (Option (List ℕ))) (u : List ℕ) → GivesHashes H
    → IsKeyAgreement H key P v Q u → (v ≡ u → ⊥) → SomeCollision H (IsKeyAgreementPlaced H key (P, v) (Q, u))
key_agreement_collides H key P v Q u digests met other =
    let (climb, up, _) = bits_climbed H P (H (0 ∷ v)) Q (H (0 ∷ u)) {D = Unit {0}} (sizes digests)
    (sizes digests _ ∙ sym (sizes digests _)) (key_bits H key) in
    shown_collides _ (key_agreement_shown H key P v Q u climb.divergence
    (up.diverges (up.first_is ∙ met ∙ sym up.second_is)) other)

-- a branch has the digests of both sides, on either side of a bit
sides_same : (f : Bool → List ℕ) (b : Bool) (peer value : List ℕ) → ((c : Bool) → length (f c) ≡ 32) → length value ≡ 32
    → input_beside b peer value ≡ branch_input (f false) (f true) → (peer ≡ f (not b)) × (value ≡ f b)
sides_same f true peer value sized v e =
    branch_parts peer value (f false) (f true)
    (omega (arith, v, sized true, length-append peer value, length-append (f false) (f true), ap length e)) e
sides_same f false peer value sized v e = let parts = branch_parts value peer (f false) (f true)
    (v ∙ sym (sized false)) e in (parts.1, parts.0)

-- an evaluation that leads to a plain root is that of the plain tree, or collides with it at a branch
module _ (H : List ℕ → List ℕ) (P : List (Option (List ℕ))) (x : List ℕ) (gives : HasSize H) (size : length x ≡ 32)
    (Q : List ℕ → List ℕ → Type 0) where
  -- The root over what is held behind a bit.
  abbrev side : ℕ → (List Bool → Option (List ℕ)) → Bool → List ℕ
  side k held b = root_of_levels H k (λ q. held (b ∷ q))

  plain_or_collides : (held : List Bool → Option (List ℕ)) → HaveSize held → (bits : List Bool) → proof_value H P x bits
      ≡ root_of_levels H (length bits) held
      → ((prefix below : List Bool) (b : Bool) → bits ≡ prefix ++ b ∷ below
      → Q (fork_input H P x b below) (branch_input (side (length below) (λ q. held (prefix ++ q)) false)
      (side (length below) (λ q. held (prefix ++ q)) true)))
      → ((x ≡ unwrap_or (held bits) (empty_root H 0)) × IsBeside H P held bits) ⊎ SomeCollision H Q
  unfolding proof_value root_of_levels IsBeside
  plain_or_collides held sized [] e placed = inl (e, tt)
  plain_or_collides held sized (b ∷ bits) e placed =
      elim (same_or_not (fork_input H P x b bits)
      (branch_input (side (length bits) held false) (side (length bits) held true))) [
        | inl same ↦
            let sides = sides_same (side (length bits) held) b _ _
            (λ c. root_len H gives (length bits) (λ q. held (c ∷ q)) (λ q. sized (c ∷ q)))
            (value_len H P x gives size bits) same in
            elim (plain_or_collides (λ q. held (b ∷ q)) (λ q. sized (b ∷ q)) bits sides.1
            (λ prefix below c split. placed (b ∷ prefix) below c (ap (λ q. b ∷ q) split))) [
              | inl (is, beside) ↦ inl (is, (sides.0, beside))
              | inr collision ↦ inr collision
            ]
        | inr differ ↦ inr (record {
          first = _;
          second = _;
          collide = record { differ = differ; same = e };
          placed = placed [] bits b refl;
        })
      ]

-- a claim of a key that is met
module _ (H : List ℕ → List ℕ) (peers : List (Option (List ℕ))) (key value : List ℕ)
    (insertions : List (List ℕ × List ℕ)) (digests : GivesHashes H) (met : IsKeyMet H peers key value insertions) where
  alike_or_collides : IsAlike H peers key value insertions
      ⊎ SomeCollision H (IsPlacedAtPrefix H peers value key insertions)
  alike_or_collides =
      let gives = sizes digests in
      let bits = key_bits H key in
      let all = all_bits H key in
      elim (plain_or_collides H peers (leaf_digest H value) gives (gives _)
      (IsPlacedAtPrefix H peers value key insertions) (get (map_of H insertions)) (held_len H gives insertions) bits
      (rw all met)
      (λ prefix below b split. record {
        prefix = prefix;
        rest = b ∷ below;
        bits = split;
        evaluation = refl;
        plain = refl;
      })) [
        | inl (same, beside) ↦ inl (record {
          same = same ∙ sym (plain_leaf_is H insertions bits);
          updates = own_grown_root H insertions key peers beside;
        })
        | inr collision ↦ inr collision
      ]

  -- and isn't true
  pub key_collides : (IsLastValue key value insertions → ⊥) → SomeCollision H (IsKeyPlaced H peers value key insertions)
  key_collides untrue = elim alike_or_collides [
    | inl alike ↦ shown_collides _
        (key_shown H peers key value insertions untrue {D = Unit {0}} Target _ digests refl alike)
    | inr c ↦ record { first = c.first; second = c.second; collide = c.collide; placed = inl c.placed }
  ]

  pub update_collides : (new : List ℕ) → ¬ (IsUpdated H peers key new insertions)
      → SomeCollision H (IsPlacedAtPrefix H peers value key insertions)
  update_collides new untrue = elim alike_or_collides
      [ inl alike ↦ absurd (untrue (alike.updates new)) | inr collision ↦ collision ]

-- a map's own proof has no more peers than there are bits
few_down : (H : List ℕ → List ℕ) (empty_half : ℕ → Option (List ℕ)) (held : List Bool → Option (List ℕ))
    (bits : List Bool)
    (peers : List (Option (List ℕ))) → IsPeers H empty_half held bits peers → length peers ≤ length bits
unfolding IsPeers
few_down H empty_half held bits [] all = omega arith
few_down H empty_half held [] (peer ∷ peers) all = absurd all
few_down H empty_half held (b ∷ bits) (peer ∷ peers) all =
    let below = few_down H empty_half (λ q. held (b ∷ q)) bits peers all.1 in omega arith

few_peers : (H : List ℕ → List ℕ) (empty_half : ℕ → Option (List ℕ)) (held : List Bool → Option (List ℕ)) (key : List ℕ)
    (peers : List (Option (List ℕ))) → IsPeers H empty_half held (key_bits H key) (reverse peers) → length peers ≤ 256
few_peers H empty_half held key peers all =
    let few = few_down H empty_half held (key_bits H key) (reverse peers) all in
    omega (arith, all_bits H key, length-reverse peers)

-- a map's own proof of a key meets the key's claim
pub own_met : (H : List ℕ → List ℕ) (insertions : List (List ℕ × List ℕ)) (key value : List ℕ)
    (peers : List (Option (List ℕ)))
    → last_under H (key_bits H key) insertions ≡ Some (key, value)
    → Proves H 256 (map_of H insertions) (key_bits H key) peers → IsKeyMet H peers key value insertions
own_met H insertions key value peers last proves =
    let n = all_bits H key in
    let few = few_peers H _ _ key peers proves.peers_from_top in
    rw n at (root_at_prefix H (map_of H insertions) [] (key_bits H key) peers (leaf_digest H value)
    (omega arith) few proves
    (rw (last_held, last) refl))

-- and that of each update
pub own_updated : (H : List ℕ → List ℕ) (insertions : List (List ℕ × List ℕ)) (key value : List ℕ)
    (peers : List (Option (List ℕ))) → Proves H 256 (map_of H insertions) (key_bits H key) peers
    → IsUpdated H peers key value insertions
own_updated H insertions key value peers proves =
    let few = few_peers H _ _ key peers proves.peers_from_top in
    rw (inserted_push H empty insertions key value)
    (replaced_root H (map_of H insertions) (key_bits H key) peers (leaf_digest H value) (all_bits H key) few proves)

-- its own proof that a key isn't held meets the absence's claim, and that of each insertion
pub own_absent : (H : List ℕ → List ℕ) (insertions : List (List ℕ × List ℕ)) (key value : List ℕ)
    (peers : List (Option (List ℕ))) → ProvesAbsent H (map_of H insertions) (key_bits H key) peers
    → IsAbsenceMet H peers key insertions × IsUpdated H peers key value insertions
own_absent H insertions key value peers proves =
    let m = map_of H insertions in
    let bits = key_bits H key in
    let few = few_peers H _ _ key peers proves.peers_from_top in (
      absent_root H m bits peers (all_bits H key) few proves,
      rw (inserted_push H empty insertions key value)
          (absent_replaced_root H m bits peers (leaf_digest H value) (all_bits H key) few proves),
    )

-- a list of steps, behind others that led to the plain root
steps_lead : (H : List ℕ → List ℕ) → GivesHashes H → (before steps : List Step) (root end : List ℕ)
    → root ≡ sparse_root H 256 (map_of H (insertions_of before)) → LeadThrough H root steps end
    → (end ≡ sparse_root H 256 (map_of H (insertions_of (before ++ steps)))) ⊎ CollidesAtStep H (before ++ steps)
unfolding LeadThrough
steps_lead H digests before [] root end is through = inl (rw append-nil (sym through ∙ is))
steps_lead H digests before (s ∷ steps) root end is through =
    let (next, from_old, from_new, rest) = through in
    elim (same_or_not (proof_value H s.peers (leaf_digest H s.new_value) (key_bits H s.key))
    (sparse_root H 256 (map_of H (insertions_of before ++ (s.key, s.new_value) ∷ [])))) [
      | inl updated ↦ rw append_assoc at
          (steps_lead H digests (before ++ s ∷ []) steps next end (rw map-append (sym from_new ∙ updated)) rest)
      | inr untrue ↦ inr (record {
        before = before;
        step = s;
        after = steps;
        split = refl;
        collision = update_collides H s.peers s.key s.old_value (insertions_of before) digests
            (from_old ∙ is) s.new_value untrue;
      })
    ]

pub steps_end : (H : List ℕ → List ℕ) (steps : List Step) (root : List ℕ) → GivesHashes H
    → LeadThrough H (sparse_root H 256 empty) steps root → (root ≡ sparse_root H 256 (map_of H (insertions_of steps)))
    ⊎ CollidesAtStep H steps
unfolding inserted
steps_end H steps root digests through = steps_lead H digests [] steps (sparse_root H 256 empty) root refl through
