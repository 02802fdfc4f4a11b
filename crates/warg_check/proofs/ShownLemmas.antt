-- The digests of a bundle that was read have 32 bytes.
use Rattle.std.proofs.Common.{◌≡◌, ℕ, zero, suc, ◌==◌, true, false, List, [], ◌∷◌, length, map, Option, Some, None, Result, Ok, Err, refl, subst, slice_index_or, ⊎_elim}
use Rattle.std.specs.Prelude.{slice_get}
use Rattle.std.proofs.lemmas.Bool.{eqb-true, cases_Bool}
use Rattle.warg_protobuf.specs.declared.error.WireError.{WireError}
use Rattle.warg_protobuf.specs.HashEntry.{Entry}
use Rattle.warg_protobuf.specs.LogProofBundle.{log_schema}
use Rattle.warg_protobuf.specs.MapProofBundle.{MapBundle, map_schema}
use Rattle.warg_protobuf.specs.Schema.{message_of}
use Rattle.warg_protobuf.specs.declared.value_error.DecodeError.{DecodeError}
use Rattle.warg_protobuf.specs.Decoding.{held_in, unless, earlier, first_fault, digest_fault}
use Rattle.warg_log.specs.Sparse.{held_digest}
use Rattle.warg_bundle.specs.LogBundles.{Bundle, bundle_of, log_bundle_in, entries_fault, entry_fault, pair_of}
use Rattle.warg_map.specs.Messages.{Peers, peer_fault, proof_fault}
use Rattle.warg_bundle.specs.MapBundles.{map_bundle_of, map_bundle_in}
use Rattle.warg_check.specs.Verdicts as peers
use Rattle.warg_check.specs.CheckpointVerdicts as logs

-- a value that was read stands in a message, and has no fault
held : {M X : Type 0} (read : M → Result X DecodeError) (message : Result M WireError) (x : X) → held_in read message
    ≡ Ok x → (m : M) × (read m ≡ Ok x)
held read (Ok m) x is = (m, is)
held read (Err e) x is = absurd cc

no_fault : {X : Type 0} (fault : Option DecodeError) (x y : X) → unless fault x ≡ Ok y → (fault ≡ None) × (x ≡ y)
no_fault None x y is = (refl, cc)
no_fault (Some e) x y is = absurd cc

both_none : (first second : Option DecodeError) → earlier first second ≡ None → (first ≡ None) × (second ≡ None)
both_none None second none = (refl, none)
both_none (Some e) second none = absurd cc

none_at : {X : Type 0} (fault_of : X → Option DecodeError) (xs : List X) (i : ℕ) (x : X) → first_fault fault_of xs
    ≡ None → slice_get xs i ≡ Some x → fault_of x ≡ None
none_at fault_of [] i x none there = absurd cc
none_at fault_of (y ∷ ys) zero x none there = let same : y ≡ x = cc in
    rw (← same) (both_none (fault_of y) (first_fault fault_of ys) none).0
none_at fault_of (y ∷ ys) (suc i) x none there = none_at fault_of ys i x
    (both_none (fault_of y) (first_fault fault_of ys) none).1 there

is_long : (digest : List ℕ) → digest_fault digest ≡ None → length digest ≡ 32
is_long digest none = ⊎_elim
    (λ (t : (length digest == 32) ≡ true). eqb-true (length digest) 32 t)
    (λ (t : (length digest == 32) ≡ false). absurd (let e = rw t at none in cc))
    (cases_Bool (length digest == 32))

-- of a log's bundle
entry_hashes : (least : ℕ) (es : List Entry) → entries_fault least es ≡ None → (node : ℕ) (digest : List ℕ)
    → held_digest (map pair_of es) node ≡ Some digest → length digest ≡ 32
entry_hashes least [] none node digest there = absurd cc
entry_hashes least (e ∷ es) none node digest there =
    let parts = both_none (entry_fault least e) (entries_fault (suc e.index) es) none in
    ⊎_elim
    (λ (t : (e.index == node) ≡ true). let found = rw t at there in let same : e.hash ≡ digest = cc in
    rw (← same) (is_long e.hash (both_none (digest_fault e.hash) _ parts.0).0))
    (λ (t : (e.index == node) ≡ false). entry_hashes (suc e.index) es parts.1 node digest (rw t at there))
    (cases_Bool (e.index == node))

pub log_hashes : (bytes : List ℕ) (b : Bundle) → bundle_of bytes ≡ Ok b → logs.HasHashes b
log_hashes bytes b is =
    let message = held log_bundle_in (message_of log_schema bytes) b is in
    let read = no_fault (entries_fault 0 message.0.hashes) _ b message.1 in
    subst logs.HasHashes read.1 (entry_hashes 0 message.0.hashes read.0)

-- of a map's bundle
peer_hashes : (peers : Peers) → first_fault peer_fault peers ≡ None → (place : ℕ) (digest : List ℕ)
    → slice_index_or peers place None ≡ Some digest → length digest ≡ 32
peer_hashes [] none place digest there = absurd cc
peer_hashes (p ∷ ps) none zero digest there =
    is_long digest (rw there at (both_none (peer_fault p) (first_fault peer_fault ps) none).0)
peer_hashes (p ∷ ps) none (suc place) digest there =
    peer_hashes ps (both_none (peer_fault p) (first_fault peer_fault ps) none).1 place digest there

proof_hashes : (proofs : List Peers) (place : ℕ) (p : Peers) → first_fault proof_fault proofs ≡ None
    → slice_get proofs place ≡ Some p → peers.HasHashes p
proof_hashes proofs place p none there =
    peer_hashes p (both_none _ (first_fault peer_fault p) (none_at proof_fault proofs place p none there)).1

bundle_good : (bytes : List ℕ) (b : MapBundle) → map_bundle_of bytes ≡ Ok b → (first_fault proof_fault b.proofs ≡ None)
    × (first_fault proof_fault b.absences ≡ None)
bundle_good bytes b is =
    let message = held map_bundle_in (message_of map_schema bytes) b is in
    let read = no_fault _ message.0 b message.1 in
    rw (← read.1) (both_none (first_fault proof_fault message.0.proofs) (first_fault proof_fault message.0.absences)
    read.0)

pub key_hashes : (bytes : List ℕ) (b : MapBundle) (place : ℕ) (p : Peers) → map_bundle_of bytes ≡ Ok b
    → slice_get b.proofs place ≡ Some p → peers.HasHashes p
key_hashes bytes b place p is there = proof_hashes b.proofs place p (bundle_good bytes b is).0 there

pub absence_hashes : (bytes : List ℕ) (b : MapBundle) (place : ℕ) (p : Peers) → map_bundle_of bytes ≡ Ok b
    → slice_get b.absences place ≡ Some p → peers.HasHashes p
absence_hashes bytes b place p is there = proof_hashes b.absences place p (bundle_good bytes b is).1 there
