-- Claims of keys and maps that are untrue, not met, or both, and of which no placed byte strings collide; some
-- though no two
-- byte strings have one digest, where digests have any length. So what the laws of maps need.
use Rattle.std.proofs.Common.{◌≡◌, ℕ, zero, suc, ◌-◌, ◌≤◌, ◌<◌, ◌⊎◌, inl, inr, Bool, true, false, cond, List, [], ◌∷◌, ◌++◌, length, slice_index_or, Option, None, Some, is_some, unwrap_or, IsTrue, refl, sym, ap, ◌∙◌, arith, append-nil, length-append, ◌+◌}
use Rattle.std.specs.Prelude.{replicate}
use Rattle.std.specs.FinMap.{get, get-empty, empty}
use Rattle.warg_crypto.proofs.ForCallers.{zeros, ones, marked, marked_hashes}
use Rattle.warg_crypto.specs.Collisions.{Collides}
use Rattle.warg_crypto.specs.EmptyTrees.{empty_root}
use Rattle.warg_crypto.specs.Tree.{branch, branch_input, leaf_digest, leaf_input, input_beside}
use Rattle.warg_map.specs.Bits.{key_bits, bits_from}
use Rattle.warg_map.specs.Last.{last_under, last_with}
use Rattle.warg_map.specs.Peers.{IsBeside, ProvesAbsent, ProvesEmpty, IsPeers}
use Rattle.warg_map.specs.ProofValue.{peer_of, proof_value}
use Rattle.std.specs.Option.{option_map, option_or}
use Rattle.warg_map.specs.Sparse.{root_of_levels, sparse_root, map_of, inserted, bits_cmp}
use Rattle.warg_map.proofs.ForCallers.{all_bits, last_held, key_beside, beside_input, beside_root, beside_replaced}
use Rattle.warg_witness.specs.Asked.{but_meeting, meeting_alone, Fails, FailsEverywhere, KeyAgreementLaw, KeyLaw, AbsenceLaw, UpdateLaw, EqualMapsLaw, but_hashes, untruth_alone, MapNeedsEach, StepsLaw}
use Rattle.warg_witness.specs.MapClaims.{IsKeyMet, value_in}
use Rattle.warg_witness.specs.MapInputs.{path_input, plain_input_at}
use Rattle.warg_witness.specs.MapsPlaced.{IsInserted}
use Rattle.warg_witness.specs.MapPlaced.{IsPlacedAtPrefix, IsPlacedAtKeys}
use Rattle.warg_witness.specs.UpdateClaims.{IsUpdated, Step, LeadThrough}
use Rattle.warg_witness.proofs.KeyLemmas.{plain_leaf_is, inserted_push}
use Rattle.warg_witness.proofs.PremiseLemmas.{own, none_collide}

-- The plain input at each prefix is that of the evaluation of what stands beside the key, from its last value.
pub own_input : (H : List ℕ → List ℕ) (peers : List (Option (List ℕ))) (insertions : List (List ℕ × List ℕ))
    (bits prefix rest : List Bool) → bits ≡ prefix ++ rest
    → IsBeside H peers (get (map_of H insertions)) bits
    → path_input H peers (value_in (last_under H bits insertions)) rest ≡ plain_input_at H insertions prefix
    (length rest)
own_input H peers insertions bits prefix [] is beside = rw (is, append-nil) refl
own_input H peers insertions bits prefix (b ∷ below) is beside = rw (plain_leaf_is H insertions bits, is)
    (beside_input H (map_of H insertions) prefix below b peers (rw is at beside))

-- The empty map holds nothing, so beside each key stand empty trees.
none_held : (H : List ℕ → List ℕ) (q : List Bool) → get (map_of H []) q ≡ None
unfolding inserted
none_held H q = get-empty bits_cmp q

not_held : (H : List ℕ → List ℕ) (q : List Bool) → IsTrue (is_some (get (map_of H []) q)) → ⊥
not_held H q held = let no : false ≡ true = rw (none_held H q) at held in absurd cc

absent : (H : List ℕ → List ℕ) (key : List ℕ) → ProvesAbsent H (map_of H []) (key_bits H key) []
unfolding IsPeers
absent H key = record {
  absent = ap is_some (none_held H (key_bits H key));
  peers_from_top = λ q _. none_held H q;
  count = record {
    above = λ q held _. absurd (not_held H q held);
    reached = inl (refl, λ q held. absurd (not_held H q held));
  };
}

none_proved : (H : List ℕ → List ℕ) (key : List ℕ) → ProvesEmpty H (map_of H []) (key_bits H key) []
none_proved H key = rw (none_held H (key_bits H key)) (absent H key)

pub empty_beside : (H : List ℕ → List ℕ) (key : List ℕ) → IsBeside H [] (get (map_of H [])) (key_bits H key)
empty_beside H key = key_beside H (map_of H []) key [] (none_proved H key)

-- Where no peer is given, an empty tree stands.
either_way : {x : List ℕ} (b : Bool) → cond b x x ≡ x
either_way true = refl
either_way false = refl

pub no_peer : (H : List ℕ → List ℕ) (k : ℕ) → peer_of H [] k ≡ empty_root H k
no_peer H k = either_way _

abbrev nothing : Option (List ℕ)
nothing = None

none_at : (n k : ℕ) → slice_index_or (replicate n nothing) k nothing ≡ nothing
none_at zero k = refl
none_at (suc n) zero = refl
none_at (suc n) (suc k) = none_at n k

-- Peers with a digest at the bottom, and nothing above.
abbrev pub with_bottom : List ℕ → List (Option (List ℕ))
with_bottom digest = Some digest ∷ replicate 255 nothing

pub above_bottom : (H : List ℕ → List ℕ) (digest : List ℕ) (k : ℕ) → peer_of H (with_bottom digest) (suc k)
    ≡ empty_root H (suc k)
above_bottom H digest k = let rest : suc k - 0 ≡ suc k = omega arith in rw (rest, none_at 255 k) (either_way _)

-- Empty trees have zeros.
empty_zeros : (k : ℕ) → empty_root marked k ≡ zeros
unfolding empty_root
empty_zeros zero = refl
empty_zeros (suc k) = rw (empty_zeros k) refl

-- A peer of ones or zeros.
abbrev IsMark : List ℕ → Type 0
IsMark digest = (digest ≡ zeros) ⊎ (digest ≡ ones)

join : (b : Bool) (peer : List ℕ) → IsMark peer → marked (input_beside b peer ones) ≡ ones
join true peer (inl is) = rw is refl
join true peer (inr is) = rw is refl
join false peer _ = refl

module _ (peers : List (Option (List ℕ))) (marks : (k : ℕ) → k < 256 → IsMark (peer_of marked peers k)) where
  -- Ones lead to ones.
  ones_up : (bits : List Bool) → length bits ≤ 256 → proof_value marked peers ones bits ≡ ones
  unfolding proof_value
  ones_up [] few = refl
  ones_up (b ∷ bits) few = rw (ones_up bits (omega arith)) (join b _ (marks (length bits) (omega arith)))

  ones_on_path : (rest : List Bool) → length rest ≤ 256 → marked (path_input marked peers (1 ∷ []) rest) ≡ ones
  ones_on_path [] few = refl
  ones_on_path (b ∷ below) few = rw (ones_up below (omega arith)) (join b _ (marks (length below) (omega arith)))

no_peers : (k : ℕ) → peer_of marked [] k ≡ zeros
no_peers k = no_peer marked k ∙ empty_zeros k

-- Without peers zeros lead to zeros.
join_zeros : (b : Bool) → marked (input_beside b zeros zeros) ≡ zeros
join_zeros true = refl
join_zeros false = refl

zeros_up : (bits : List Bool) → length bits ≤ 256 → proof_value marked [] zeros bits ≡ zeros
unfolding proof_value
zeros_up [] few = refl
zeros_up (b ∷ bits) few = rw (zeros_up bits (omega arith), no_peers (length bits)) (join_zeros b)

zeros_on_path : (rest : List Bool) → length rest ≤ 256 → marked (path_input marked [] [] rest) ≡ zeros
zeros_on_path [] few = refl
zeros_on_path (b ∷ below) few = rw (zeros_up below (omega arith), no_peers (length below)) (join_zeros b)

ones_differ : ones ≡ zeros → ⊥
ones_differ is = absurd cc

-- What is left of a key's bits is no longer than they are.
few_left : (H : List ℕ → List ℕ) (key : List ℕ) (prefix rest : List Bool) → key_bits H key ≡ prefix ++ rest
    → length rest ≤ 256
few_left H key prefix rest is = omega (arith, all_bits H key, ap length is, length-append prefix rest)

-- The empty map's own evaluation meets the claim that a key has no bytes, and nothing collides.
pub own_met : (H : List ℕ → List ℕ) (key : List ℕ) → IsKeyMet H [] key [] []
unfolding empty_root
own_met H key =
    let leads : proof_value H [] (unwrap_or (get (map_of H []) (key_bits H key)) (leaf_digest H [])) (key_bits H key)
    ≡ sparse_root H 256 (map_of H []) = beside_root H (map_of H []) (key_bits H key) [] (all_bits H key)
    (empty_beside H key) in
    rw (none_held H (key_bits H key)) at leads

plain_is : (H : List ℕ → List ℕ) (key : List ℕ) (prefix rest : List Bool) → key_bits H key ≡ prefix ++ rest
    → path_input H [] [] rest ≡ plain_input_at H [] prefix (length rest)
unfolding last_with
plain_is H key prefix rest is = own_input H [] [] (key_bits H key) prefix rest is (empty_beside H key)

own_apart : (H : List ℕ → List ℕ) (key first second : List ℕ) → IsPlacedAtPrefix H [] [] key [] first second
    → Collides H (first, second) → ⊥
own_apart H key first second at c = c.differ (at.evaluation ∙ plain_is H key at.prefix at.rest at.bits ∙ sym at.plain)

pub absence_untruth : FailsEverywhere (AbsenceLaw meeting_alone)
unfolding empty_root
absence_untruth H law =
    let c = law [] [] [] tt (own_met H []) tt in
    elim c.placed [
      | inl at ↦ own_apart H [] c.first c.second at c.collide
      | inr keys ↦ omega (arith, keys.inserted.1)
    ]

pub key_untruth : FailsEverywhere (KeyLaw meeting_alone)
unfolding empty_root
key_untruth H law = absence_untruth H (λ peers key insertions. law peers key [] insertions)

pub update_untruth : FailsEverywhere (UpdateLaw meeting_alone)
update_untruth H law = let c = law [] [] [] [] [] tt (own_met H []) tt in
    own_apart H [] c.first c.second c.placed c.collide

-- An evaluation that has ones everywhere is apart from the empty map's.
module _ (peers : List (Option (List ℕ))) (marks : (k : ℕ) → k < 256 → IsMark (peer_of marked peers k)) where
  ones_apart : (key first second : List ℕ) → IsPlacedAtPrefix marked peers (1 ∷ []) key [] first second
      → Collides marked (first, second) → ⊥
  ones_apart key first second at c =
      let few = few_left marked key at.prefix at.rest at.bits in
      ones_differ (sym (ap marked at.evaluation ∙ ones_on_path peers marks at.rest few) ∙ c.same
      ∙ ap marked (at.plain ∙ sym (plain_is marked key at.prefix at.rest at.bits)) ∙ zeros_on_path at.rest few)

no_marks : (k : ℕ) → k < 256 → IsMark (peer_of marked [] k)
no_marks k _ = inl (no_peers k)

pub key_agreement_meeting : Fails (KeyAgreementLaw but_meeting)
key_agreement_meeting law =
    let c = law marked [] [] (1 ∷ []) [] [] marked_hashes tt (λ is. absurd cc) in
    let few = few_left marked [] c.placed.prefix c.placed.rest c.placed.bits in
    ones_differ (sym (ap marked c.placed.first_evaluation ∙ ones_on_path [] no_marks c.placed.rest few) ∙ c.collide.same
    ∙ ap marked c.placed.second_evaluation ∙ zeros_on_path c.placed.rest few)

-- Ones beside an empty leaf lead to ones, and the map that holds no bytes has zeros.
bottom_marks : (k : ℕ) → k < 256 → IsMark (peer_of marked (with_bottom ones) k)
bottom_marks zero _ = inr refl
bottom_marks (suc k) _ = inl (above_bottom marked ones k ∙ empty_zeros (suc k))

bottom_up : (b : Bool) (below : List Bool) → length below < 256 → proof_value marked (with_bottom ones) zeros
    (b ∷ below) ≡ ones
unfolding proof_value
bottom_up true [] few = refl
bottom_up false [] few = refl
bottom_up b (c ∷ below) few = rw (bottom_up c below (omega arith)) (join b _ (bottom_marks (length (c ∷ below)) few))

bottom_root : (bits : List Bool) → length bits ≡ 256 → proof_value marked (with_bottom ones) zeros bits ≡ ones
bottom_root [] none = absurd (omega arith)
bottom_root (b ∷ below) all = bottom_up b below (omega arith)

lone_root : sparse_root marked 256 (map_of marked (([], []) ∷ [])) ≡ zeros
lone_root = rw (inserted_push marked empty [] [] [])
    (sym (beside_replaced marked (map_of marked []) (key_bits marked []) [] zeros (all_bits marked [])
    (empty_beside marked [])) ∙ zeros_up (key_bits marked []) (omega (arith, all_bits marked [])))

not_updated : IsUpdated marked (with_bottom ones) [] [] [] → ⊥
not_updated is = ones_differ (sym (bottom_root (key_bits marked []) (all_bits marked [])) ∙ is ∙ lone_root)

pub update_meeting : Fails (UpdateLaw but_meeting)
update_meeting law = let c = law marked (with_bottom ones) [] (1 ∷ []) [] [] marked_hashes tt not_updated in
    ones_apart (with_bottom ones) bottom_marks [] c.first c.second c.placed c.collide

-- The one key that was inserted is the claimed one.
the_one : {x y : List ℕ} (k : ℕ) → k < 1 → slice_index_or (x ∷ []) k y ≡ y → x ≡ y
the_one zero _ is = is
the_one (suc k) few _ = absurd (omega arith)

only_key : {H : List ℕ → List ℕ} {key value first second : List ℕ} → IsPlacedAtKeys key ((key, value) ∷ []) first second
    → Collides H (first, second) → ⊥
only_key keys c = c.differ (keys.claimed ∙ the_one keys.inserted.0 keys.inserted.1 keys.inserted.2)

pub lone_leads : (H : List ℕ → List ℕ) (key value : List ℕ) → proof_value H [] (leaf_digest H value) (key_bits H key)
    ≡ sparse_root H 256 (map_of H ((key, value) ∷ []))
lone_leads H key value = rw (inserted_push H empty [] key value)
    (beside_replaced H (map_of H []) (key_bits H key) [] (leaf_digest H value) (all_bits H key) (empty_beside H key))

-- All of a lone map's tree has ones or zeros.
held_mark : (b : Bool) → IsMark
    (unwrap_or (option_map (λ (e : List ℕ × List ℕ). leaf_digest marked e.1)
    (option_or None (cond b (Some ([], 1 ∷ [])) None))) zeros)
held_mark true = inr refl
held_mark false = inl refl

branch_mark : (l r : List ℕ) → IsMark l → IsMark r → IsMark (branch marked l r)
branch_mark l r (inl is) (inl other) = inl (rw (is, other) refl)
branch_mark l r (inl is) (inr other) = inr (rw (is, other) refl)
branch_mark l r (inr is) other = inr (rw is refl)

root_mark : (k : ℕ) (held : List Bool → Option (List ℕ)) → ((q : List Bool) → IsMark (unwrap_or (held q) zeros))
    → IsMark (root_of_levels marked k held)
unfolding root_of_levels empty_root
root_mark zero held marks = marks []
root_mark (suc k) held marks = branch_mark _ _ (root_mark k (λ q. held (false ∷ q)) (λ q. marks (false ∷ q)))
    (root_mark k (λ q. held (true ∷ q)) (λ q. marks (true ∷ q)))

root_zeros : (k : ℕ) (held : List Bool → Option (List ℕ)) → ((q : List Bool) → held q ≡ None)
    → root_of_levels marked k held ≡ zeros
unfolding root_of_levels empty_root
root_zeros zero held none = rw (none []) refl
root_zeros (suc k) held none = rw (
  root_zeros k (λ q. held (false ∷ q)) (λ q. none (false ∷ q)),
  root_zeros k (λ q. held (true ∷ q)) (λ q. none (true ∷ q)),
) refl

abbrev only : List (List ℕ × List ℕ)
only = ([], 1 ∷ []) ∷ []

lone_mark : (q : List Bool) → IsMark (unwrap_or (get (map_of marked only) q) zeros)
unfolding last_with
lone_mark q = rw (last_held marked q only) (held_mark _)

-- So where it differs from the empty map's, the digests differ.
two_zeros : (l r : List ℕ) → l ≡ zeros → r ≡ zeros → branch_input l r ≡ branch_input zeros zeros
two_zeros l r is is_too = ap (λ x. branch_input x r) is ∙ ap (λ x. branch_input zeros x) is_too

branches_apart : (l r first second : List ℕ) → IsMark l → IsMark r → first ≡ branch_input l r
    → second ≡ branch_input zeros zeros → Collides marked (first, second) → ⊥
branches_apart l r first second (inl is) (inl is_too) one other c = c.differ (one ∙ two_zeros l r is is_too ∙ sym other)
branches_apart l r first second (inl is) (inr is_too) one other c =
    ones_differ (sym (ap marked (one ∙ ap (λ x. branch_input x r) is ∙ ap (λ x. branch_input zeros x) is_too)) ∙ c.same
    ∙ ap marked other)
branches_apart l r first second (inr is) _ one other c =
    ones_differ (sym (ap marked (one ∙ ap (λ x. branch_input x r) is)) ∙ c.same ∙ ap marked other)

leaves_apart : (b : Bool) (first second : List ℕ)
    → first ≡ leaf_input (value_in (option_or None (cond b (Some ([], 1 ∷ [])) None))) → second ≡ leaf_input []
    → Collides marked (first, second) → ⊥
leaves_apart true first second one other c = ones_differ (sym (ap marked one) ∙ c.same ∙ ap marked other)
leaves_apart false first second one other c = c.differ (one ∙ sym other)

plain_apart : (prefix : List Bool) (k : ℕ) (first second : List ℕ) → first ≡ plain_input_at marked only prefix k
    → second ≡ plain_input_at marked [] prefix k → Collides marked (first, second) → ⊥
unfolding last_with
plain_apart prefix zero first second one other c = leaves_apart _ first second one other c
plain_apart prefix (suc k) first second one other c =
    branches_apart _ _ first second (root_mark k _ (λ q. lone_mark (prefix ++ false ∷ q)))
    (root_mark k _ (λ q. lone_mark (prefix ++ true ∷ q))) one
    (other ∙ two_zeros _ _ (root_zeros k _ (λ q. none_held marked (prefix ++ false ∷ q)))
    (root_zeros k _ (λ q. none_held marked (prefix ++ true ∷ q)))) c

pub absence_meeting : Fails (AbsenceLaw but_meeting)
unfolding last_with
absence_meeting law =
    let c = law marked [] [] only marked_hashes tt (λ is. absurd cc) in
    elim c.placed [
      | inl at ↦ plain_apart at.prefix (length at.rest) c.second c.first at.plain
          (at.evaluation ∙ plain_is marked [] at.prefix at.rest at.bits)
          (record { differ = λ e. c.collide.differ (sym e); same = sym c.collide.same })
      | inr keys ↦ only_key keys c.collide
    ]

pub key_meeting : Fails (KeyLaw but_meeting)
key_meeting law = absence_meeting (λ H peers key insertions. law H peers key [] insertions)

only_inserted : {key : List ℕ} → IsInserted only [] key → [] ≡ key
only_inserted (inl at) = the_one at.0 at.1 at.2
only_inserted (inr at) = absurd (omega (arith, at.1))

pub equal_maps_meeting : Fails (EqualMapsLaw but_meeting)
unfolding last_with
equal_maps_meeting law =
    let c = law marked only [] marked_hashes tt (λ same. let is : 1 ∷ [] ≡ [] = same [] in absurd cc) in
    elim c.placed [
      | inl at ↦ plain_apart at.prefix at.levels c.first c.second at.first_plain at.second_plain c.collide
      | inr keys ↦ c.collide.differ (sym (only_inserted keys.0) ∙ only_inserted keys.1)
    ]

-- Where a leaf and a peer at the bottom make the bytes of another leaf and an empty one, on either side, they lead to
-- one root.
alike_up : (d x y : List ℕ) → x ++ d ≡ y ++ 0 ∷ [] → d ++ x ≡ 0 ∷ y → (b : Bool) (below : List Bool)
    → proof_value own (with_bottom d) x (b ∷ below) ≡ proof_value own [] y (b ∷ below)
unfolding proof_value empty_root
alike_up d x y left right true [] = ap (λ z. 1 ∷ z) right
alike_up d x y left right false [] = ap (λ z. 1 ∷ z) left
alike_up d x y left right b (c ∷ below) = rw (
  above_bottom own d (length below),
  no_peer own (suc (length below)),
  alike_up d x y left right c below,
) refl

alike : (d x y : List ℕ) → x ++ d ≡ y ++ 0 ∷ [] → d ++ x ≡ 0 ∷ y → (bits : List Bool) → length bits ≡ 256
    → proof_value own (with_bottom d) x bits ≡ proof_value own [] y bits
alike d x y left right [] none = absurd (omega arith)
alike d x y left right (b ∷ below) all = alike_up d x y left right b below

-- So does the leaf of the byte 00 beside no bytes, as an empty leaf beside an empty one.
zero_leads : (key : List ℕ) → proof_value own (with_bottom []) (0 ∷ 0 ∷ []) (key_bits own key) ≡ proof_value own []
    (0 ∷ []) (key_bits own key)
zero_leads key = alike [] (0 ∷ 0 ∷ []) (0 ∷ []) refl refl (key_bits own key) (all_bits own key)

-- From one leaf, no bytes at the bottom lead to one byte less than an empty leaf there.
more_below : (b : Bool) (peer v w : List ℕ) → length v + 1 ≡ length w → length (input_beside b peer v) + 1
    ≡ length (input_beside b peer w)
more_below true peer v w is = omega (arith, length-append peer v, length-append peer w)
more_below false peer v w is = omega (arith, length-append v peer, length-append w peer)

shorter : (x : List ℕ) (b : Bool) (below : List Bool) → length (proof_value own (with_bottom []) x (b ∷ below)) + 1
    ≡ length (proof_value own [] x (b ∷ below))
unfolding proof_value empty_root
shorter x true [] = omega arith
shorter x false [] = omega (arith, length-append x [], length-append x (0 ∷ []))
shorter x b (c ∷ below) = rw (above_bottom own [] (length below), no_peer own (suc (length below)))
    (more_below b _ _ _ (shorter x c below))

apart : (x : List ℕ) (bits : List Bool) → length bits ≡ 256 → proof_value own (with_bottom []) x bits
    ≡ proof_value own [] x bits → ⊥
apart x [] none same = omega arith
apart x (b ∷ below) all same = omega (arith, shorter x b below, ap length same)

own_not_updated : proof_value own (with_bottom []) (0 ∷ []) (key_bits own []) ≡ sparse_root own 256
    (map_of own (([], []) ∷ [])) → ⊥
own_not_updated is = apart (0 ∷ []) (key_bits own []) (all_bits own []) (is ∙ sym (lone_leads own [] []))

key_hashes : Fails (KeyLaw but_hashes)
unfolding last_with
key_hashes law = none_collide _ (law own (with_bottom []) [] (0 ∷ []) [] tt (zero_leads [] ∙ own_met own [])
    (λ is. absurd cc))

absence_hashes : Fails (AbsenceLaw but_hashes)
unfolding last_with empty_root
absence_hashes law =
    let met = alike (0 ∷ 0 ∷ []) (0 ∷ []) (0 ∷ 0 ∷ []) refl refl (key_bits own []) (all_bits own [])
    ∙ lone_leads own [] (0 ∷ []) in
    none_collide _ (law own (with_bottom (0 ∷ 0 ∷ [])) [] (([], 0 ∷ []) ∷ []) tt met (λ is. absurd cc))

update_hashes : Fails (UpdateLaw but_hashes)
update_hashes law =
    none_collide _ (law own (with_bottom []) [] (0 ∷ []) [] [] tt (zero_leads [] ∙ own_met own []) own_not_updated)

-- The same as a step from the empty map.
lie : Step
lie = record { peers = with_bottom []; key = []; old_value = 0 ∷ []; new_value = [] }

pub steps_hashes : Fails (StepsLaw but_hashes)
unfolding lie LeadThrough inserted
steps_hashes law =
    let end = proof_value own (with_bottom []) (0 ∷ []) (key_bits own []) in
    elim (law own (lie ∷ []) end tt (end, zero_leads [] ∙ own_met own [], refl, refl)) [
      | inl same ↦ own_not_updated same
      | inr c ↦ none_collide _ c.collision
    ]

-- Two keys whose bits differ at the last one: under either, the byte 00 leads to one root.
abbrev other_key : List ℕ
other_key = replicate 31 0 ++ 1 ∷ []

abbrev front : List Bool
front = replicate 255 false

left_bits : key_bits own [] ≡ front ++ false ∷ []
unfolding bits_from
left_bits = refl

right_bits : key_bits own other_key ≡ front ++ true ∷ []
unfolding bits_from
right_bits = refl

sides_alike : (above : List Bool) → proof_value own [] (0 ∷ 0 ∷ []) (above ++ false ∷ []) ≡ proof_value own []
    (0 ∷ 0 ∷ []) (above ++ true ∷ [])
unfolding proof_value empty_root
sides_alike [] = refl
sides_alike (b ∷ above) =
    let count : length (above ++ false ∷ []) ≡ length (above ++ true ∷ []) =
    omega (arith, length-append above (false ∷ []), length-append above (true ∷ [])) in
    ap (λ k. input_beside b (peer_of own [] k) (proof_value own [] (0 ∷ 0 ∷ []) (above ++ false ∷ []))) count
    ∙ ap (λ v. input_beside b (peer_of own [] (length (above ++ true ∷ []))) v) (sides_alike above)

one_root : sparse_root own 256 (map_of own (([], 0 ∷ []) ∷ [])) ≡ sparse_root own 256
    (map_of own ((other_key, 0 ∷ []) ∷ []))
one_root =
    sym (lone_leads own [] (0 ∷ [])) ∙ ap (λ bits. proof_value own [] (0 ∷ 0 ∷ []) bits) left_bits ∙ sides_alike front
    ∙ sym (ap (λ bits. proof_value own [] (0 ∷ 0 ∷ []) bits) right_bits) ∙ lone_leads own other_key (0 ∷ [])

equal_maps_hashes : Fails (EqualMapsLaw but_hashes)
unfolding last_with
equal_maps_hashes law = none_collide _ (law own (([], 0 ∷ []) ∷ []) ((other_key, 0 ∷ []) ∷ []) tt one_root
    (λ same. let is : 0 ∷ [] ≡ [] = same [] in absurd cc))

-- No key is inserted into two empty maps.
none_inserted : {key : List ℕ} → IsInserted [] [] key → ⊥
none_inserted (inl at) = omega (arith, at.1)
none_inserted (inr at) = omega (arith, at.1)

pub key_agreement_needs : MapNeedsEach KeyAgreementLaw
key_agreement_needs = record {
  hashes = λ law. none_collide _ (law own [] (with_bottom []) (0 ∷ []) [] [] tt (zero_leads []) (λ is. absurd cc));
  meeting = key_agreement_meeting;
  untruth = λ H law.
      let c = law [] [] [] [] [] tt refl tt in
      c.collide.differ (c.placed.first_evaluation ∙ sym c.placed.second_evaluation);
}

pub key_needs : MapNeedsEach KeyLaw
key_needs = record { hashes = key_hashes; meeting = key_meeting; untruth = key_untruth }

pub absence_needs : MapNeedsEach AbsenceLaw
absence_needs = record { hashes = absence_hashes; meeting = absence_meeting; untruth = absence_untruth }

pub update_needs : MapNeedsEach UpdateLaw
update_needs = record { hashes = update_hashes; meeting = update_meeting; untruth = update_untruth }

pub equal_maps_needs : MapNeedsEach EqualMapsLaw
equal_maps_needs = record {
  hashes = equal_maps_hashes;
  meeting = equal_maps_meeting;
  untruth = λ H law.
      let c = law [] [] tt refl tt in
      elim c.placed [
        | inl plain ↦ c.collide.differ (plain.first_plain ∙ sym plain.second_plain)
        | inr keys ↦ none_inserted keys.0
      ];
}

pub steps_leading : FailsEverywhere (StepsLaw untruth_alone)
steps_leading H law = elim (law [] (0 ∷ sparse_root H 256 (map_of H [])) tt tt) [
  | inl same ↦ omega (arith, ap length same)
  | inr c ↦ omega (arith, ap length c.split, length-append c.before (c.step ∷ c.after))
]

pub ruleset map_needs = (key_agreement_needs, key_needs, absence_needs, update_needs, equal_maps_needs)

pub ruleset steps_needs = (steps_hashes, steps_leading)
