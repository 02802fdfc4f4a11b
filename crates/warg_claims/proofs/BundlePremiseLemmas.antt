-- A bundle with the inclusion proof of the only entry of a log, and the verdicts on it.
use Rattle.std.proofs.Common.{◌≡◌, ℕ, true, List, [], ◌∷◌, Option, Ok, refl, sym, ap, ◌∙◌, arith, inl, inr}
use Rattle.std.specs.Prelude.{Contains}
use Rattle.std.specs.Cmp.Lexicographic.{bytes_decides}
use Rattle.warg_crypto.proofs.ForCallers.{zeros, ones, marked}
use Rattle.warg_crypto.specs.Collisions.{SomeCollision}
use Rattle.warg_crypto.specs.Tree.{leaf_digest, leaf_input}
use Rattle.warg_protobuf.specs.Field.{payload_at, field_at}
use Rattle.warg_protobuf.specs.HashEntry.{entry_schema}
use Rattle.warg_protobuf.specs.LogProofBundle.{log_schema}
use Rattle.warg_protobuf.specs.Reading.{all_in, all_of}
use Rattle.warg_protobuf.specs.Schema.{uint32_in, bytes_in, packed_uint32s, uint32s_in, message_of, message_in, values, last_of}
use Rattle.warg_protobuf.specs.Varint.{varint_in, varint_at}
use Rattle.warg_log.specs.Cut.{way_within, top_of}
use Rattle.warg_log.specs.Nodes.{height_of, height_within, place_of, balanced_within, balanced_roots}
use Rattle.warg_log.specs.Sparse.{held_digest}
use Rattle.warg_log.specs.declared.node.Node.{Node}
use Rattle.warg_bundle.specs.LogBundles.{Bundle, bundle_of}
use Rattle.warg_witness.specs.Claims.{IsEntry}
use Rattle.warg_witness.specs.Placed.{IsValuePlaced, IsConsistencyPlaced}
use Rattle.warg_witness.specs.Ranges.{IsPart}
use Rattle.warg_witness.specs.Ranges.IsPart.{whole, front, rest}
use Rattle.warg_check.specs.Verdicts.{verdict_at, includes, inclusion_verdict, extends, consistency_verdict}

-- The node of the first entry, and the bundle of its proof at length 1, which needs no digest.
abbrev pub first_node : Node
first_node = record { 0 = 0 }

abbrev pub only_proof : Bundle
only_proof = record { log_length = 1; consistent_lengths = []; included_nodes = first_node ∷ []; hashes = [] }

abbrev pub only_bytes : List ℕ
only_bytes = 8 ∷ 1 ∷ 26 ∷ 1 ∷ 0 ∷ []

pub only_read : bundle_of only_bytes ≡ Ok only_proof
unfolding payload_at field_at log_schema entry_schema all_in all_of uint32_in bytes_in packed_uint32s uint32s_in
    message_of message_in values last_of varint_in varint_at
only_read = refl

pub only_shown : (H : List ℕ → List ℕ) (value : List ℕ)
    → inclusion_verdict H only_bytes 0 value (leaf_digest H value) ≡ Ok true
unfolding way_within top_of height_of height_within place_of
only_shown H value =
    ap (verdict_at (λ (b : Bundle). b.included_nodes) (includes H value (leaf_digest H value)) 0) only_read
    ∙ ap Ok ((bytes_decides (leaf_digest H value) (leaf_digest H value)).1 refl)

part_of_one : {a n : ℕ} → IsPart 0 1 a n → (a ≡ 0) × (n ≡ 1)
part_of_one whole = (refl, refl)
part_of_one (front a n part more) = let one = (part_of_one part).1 in absurd (omega arith)
part_of_one (rest a n part more) = let one = (part_of_one part).1 in absurd (omega arith)

-- What is hashed at the only entry: the claimed value's leaf, and the entry's.
pub at_entry : (H : List ℕ → List ℕ) (value first second : List ℕ)
    → IsValuePlaced H (held_digest []) value 0 ([] ∷ []) first second
    → (first ≡ leaf_input value) × (second ≡ leaf_input [])
unfolding height_of height_within place_of
at_entry H value first second at =
    let one = part_of_one at.part in
    let is : first ≡ leaf_input value = (let found = rw (one.0, one.1) at at.evaluation in cc) in
    (is, rw (one.0, one.1) at at.plain)

pub marks_apart : SomeCollision marked (IsValuePlaced marked (held_digest []) (1 ∷ []) 0 ([] ∷ [])) → ⊥
marks_apart c =
    let at = at_entry marked (1 ∷ []) c.first c.second c.placed in
    let same : ones ≡ zeros = sym (ap marked at.0) ∙ c.collide.same ∙ ap marked at.1 in absurd cc

pub not_entry : IsEntry (1 ∷ []) 0 ([] ∷ []) → ⊥
unfolding height_of height_within place_of
not_entry is = let same : [] ≡ 1 ∷ [] = is.same in absurd cc

-- The bundle of a proof from length 1 to length 1, with zeros for the first node.
abbrev pub one_growth : Bundle
one_growth =
    record { log_length = 1; consistent_lengths = 1 ∷ []; included_nodes = []; hashes = (first_node, zeros) ∷ [] }

abbrev pub growth_bytes : List ℕ
growth_bytes = 8 ∷ 1 ∷ 18 ∷ 1 ∷ 1 ∷ 34 ∷ 34 ∷ 18 ∷ 32 ∷ zeros

pub growth_read : bundle_of growth_bytes ≡ Ok one_growth
unfolding payload_at field_at log_schema entry_schema all_in all_of uint32_in bytes_in packed_uint32s uint32s_in
    message_of message_in values last_of varint_in varint_at
growth_read = refl

pub growth_shown : consistency_verdict marked growth_bytes 0 zeros zeros ≡ Ok true
unfolding way_within top_of height_of height_within place_of balanced_within
growth_shown =
    ap (verdict_at (λ (b : Bundle). b.consistent_lengths) (extends marked zeros zeros) 0) growth_read

only_root : {root : ℕ} → Contains (balanced_roots 1) root → root ≡ 0
unfolding balanced_within
only_root (i, within, is) = let first : i ≡ 0 = omega (arith, within) in sym (rw first at is)

-- Of two logs of one entry each, only both entries' leaves are compared.
pub at_entries : (F : ℕ → Option (List ℕ)) (old new first second : List ℕ)
    → IsConsistencyPlaced marked F (old ∷ []) (new ∷ []) first second
    → (first ≡ leaf_input old) × (second ≡ leaf_input new)
unfolding height_of height_within place_of
at_entries F old new first second (inl in_old) = absurd (in_old.split (0, (part_of_one in_old.part).1))
at_entries F old new first second (inr (inl in_new)) =
    let one = part_of_one in_new.part in
    let root : in_new.root ≡ 0 = only_root in_new.is_root in
    absurd (in_new.other (one.0 ∙ sym (rw root refl)) (one.1 ∙ sym (rw root refl)))
at_entries F old new first second (inr (inr both)) =
    let one = part_of_one both.old_part in
    (rw (one.0, one.1) at both.old_plain, rw (one.0, one.1) at both.new_plain)

pub entries_apart : (F : ℕ → Option (List ℕ))
    → SomeCollision marked (IsConsistencyPlaced marked F ([] ∷ []) ((1 ∷ []) ∷ [])) → ⊥
entries_apart F c =
    let at = at_entries F [] (1 ∷ []) c.first c.second c.placed in
    let same : zeros ≡ ones = sym (ap marked at.0) ∙ c.collide.same ∙ ap marked at.1 in absurd cc

pub entries_same : (F : ℕ → Option (List ℕ)) → SomeCollision marked (IsConsistencyPlaced marked F ([] ∷ []) ([] ∷ []))
    → ⊥
entries_same F c = let at = at_entries F [] [] c.first c.second c.placed in c.collide.differ (at.0 ∙ sym at.1)
