-- The written form of each message is read as that message: its parts are written, and `simp` reads each part's values,
-- where
-- `other` lets it pass over the parts of other numbers.
use Rattle.std.proofs.Common.{◌≡◌, Some, None, false, refl, arith}
use Rattle.std.proofs.lemmas.List.{append-nil, length-append}
use Rattle.std.proofs.lemmas.List.Concat.{flat_map-append}
use Rattle.warg_protobuf.specs.Field.{delimited}
use Rattle.warg_protobuf.specs.Schema.{bytes_in, values, last_of, bytes}
use Rattle.warg_protobuf.specs.HashEntry.{EntryFits, entry_schema, entry_fields}
use Rattle.warg_protobuf.specs.LogProofBundle.{LogFits, log_schema, log_fields}
use Rattle.warg_protobuf.specs.OptionalHash.{hash_schema, hash_fields}
use Rattle.warg_protobuf.specs.MapInclusionProof.{proof_schema, proof_fields}
use Rattle.warg_protobuf.specs.MapProofBundle.{map_schema, map_fields}
use Rattle.warg_protobuf.specs.StackLog.{StackFits, stack_schema, stack_fields}
use Rattle.warg_protobuf.specs.VecLog.{VecFits, vec_schema, vec_fields}
use Rattle.warg_protobuf.proofs.ForCallers.{all_append}
use Rattle.warg_protobuf.proofs.Writing.{ReadsAgain, written_spelled, field_written, repeated_written, uint32_written, bytes_written, packed_written, nested_written, values-append, other_one, other_repeated, uint32_value, bytes_value, packed_value, repeated_value, nested_value, all_read}

pub entries_again : ReadsAgain entry_schema entry_fields EntryFits
unfolding entry_schema entry_fields
entries_again m fits short =
    let other : false ≡ false = refl in
    let index = uint32_written entry_schema 1 m.index (refl, λ p. refl) fits.index in
    let hash = bytes_written entry_schema 2 m.hash (refl, λ p. refl) in
    written_spelled entry_schema (entry_fields m) m (all_append _ _ _ index hash)
    (simp (values-append, other_one, append-nil, uint32_value 1 m.index fits.index, bytes_value 2 m.hash)) short

pub logs_again : ReadsAgain log_schema log_fields LogFits
unfolding log_schema log_fields
logs_again m fits short =
    let other : false ≡ false = refl in
    let sizes = simp (flat_map-append, length-append) at short in
    let read = all_read entry_schema entry_fields EntryFits entries_again 4 m.hashes fits.hashes (omega arith) in
    let length = uint32_written log_schema 1 m.log_length (refl, λ p. refl) fits.log_length in
    let lengths = packed_written log_schema 2 m.consistent_lengths (refl, λ p. refl) fits.consistent_lengths in
    let indices = packed_written log_schema 3 m.included_indices (refl, λ p. refl) fits.included_indices in
    let hashes = nested_written log_schema entry_schema entry_fields 4 (refl, λ p. refl) m.hashes read in
    let v1 = uint32_value 1 m.log_length fits.log_length in
    let v2 = packed_value 2 m.consistent_lengths fits.consistent_lengths in
    let v3 = packed_value 3 m.included_indices fits.included_indices in
    let v4 = nested_value entry_schema entry_fields 4 m.hashes read in
    written_spelled log_schema (log_fields m) m
    (all_append _ _ _ (all_append _ _ _ (all_append _ _ _ length lengths) indices) hashes)
    (simp (values-append, other_one, other_repeated, append-nil, v1, v2, v3, v4)) short

pub stacks_again : ReadsAgain stack_schema stack_fields StackFits
unfolding stack_schema stack_fields
stacks_again m fits short =
    let other : false ≡ false = refl in
    let sizes = simp (flat_map-append, length-append) at short in
    let read = all_read entry_schema entry_fields EntryFits entries_again 2 m.stack fits.stack (omega arith) in
    let length = uint32_written stack_schema 1 m.length (refl, λ p. refl) fits.length in
    let roots = nested_written stack_schema entry_schema entry_fields 2 (refl, λ p. refl) m.stack read in
    written_spelled stack_schema (stack_fields m) m (all_append _ _ _ length roots)
    (simp (
      values-append,
      other_one,
      other_repeated,
      append-nil,
      uint32_value 1 m.length fits.length,
      nested_value entry_schema entry_fields 2 m.stack read,
    )) short

pub vecs_again : ReadsAgain vec_schema vec_fields VecFits
unfolding vec_schema vec_fields
vecs_again m fits short =
    let other : false ≡ false = refl in
    let length = uint32_written vec_schema 1 m.length (refl, λ p. refl) fits.length in
    let tree = repeated_written vec_schema 2 m.tree (refl, λ p. refl) in
    written_spelled vec_schema (vec_fields m) m (all_append _ _ _ length tree)
    (simp (
      values-append,
      other_one,
      other_repeated,
      append-nil,
      uint32_value 1 m.length fits.length,
      repeated_value 2 m.tree,
    )) short

-- Every value can be written.
abbrev pub Anything : {M : Type 0} → M → Type 0
Anything m = Unit {0}

hashes_again : ReadsAgain hash_schema hash_fields Anything
unfolding hash_schema values last_of bytes_in
hashes_again None fits short = written_spelled hash_schema (hash_fields None) None tt refl short
hashes_again (Some h) fits short =
    let hash = field_written hash_schema 1 bytes (refl, λ p. refl) (delimited h) tt refl in
    written_spelled hash_schema (hash_fields (Some h)) (Some h) (hash, tt) refl short

proofs_again : ReadsAgain proof_schema proof_fields Anything
unfolding proof_schema proof_fields
proofs_again m fits short =
    let read = all_read hash_schema hash_fields Anything hashes_again 1 m (λ k d lt. tt) short in
    let hashes = nested_written proof_schema hash_schema hash_fields 1 (refl, λ p. refl) m read in
    written_spelled proof_schema (proof_fields m) m hashes (nested_value hash_schema hash_fields 1 m read) short

pub maps_again : ReadsAgain map_schema map_fields Anything
unfolding map_schema map_fields
maps_again m fits short =
    let other : false ≡ false = refl in
    let sizes = simp (flat_map-append, length-append) at short in
    let held = all_read proof_schema proof_fields Anything proofs_again 1 m.proofs (λ k d lt. tt) (omega arith) in
    let absent = all_read proof_schema proof_fields Anything proofs_again 2 m.absences (λ k d lt. tt) (omega arith) in
    let proofs = nested_written map_schema proof_schema proof_fields 1 (refl, λ p. refl) m.proofs held in
    let absences = nested_written map_schema proof_schema proof_fields 2 (refl, λ p. refl) m.absences absent in
    let v1 = nested_value proof_schema proof_fields 1 m.proofs held in
    let v2 = nested_value proof_schema proof_fields 2 m.absences absent in
    written_spelled map_schema (map_fields m) m (all_append _ _ _ proofs absences)
    (simp (values-append, other_repeated, append-nil, v1, v2)) short
