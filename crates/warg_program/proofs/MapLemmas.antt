-- The map of insertions, and the answers of commands on it.
use Rattle.std.proofs.Common.{◌≡◌, ℕ, ◌≤◌, List, [], ◌∷◌, ◌++◌, length, codes, Option, Some, None, IsSome, IfSome, Ok, Err, ◌↔◌, false, refl, sym, ap, arith}
use Rattle.std.proofs.lemmas.Grind.{common_steps}
use Rattle.std.proofs.lemmas.Slice.Eq.{bytes_eq-Decides}
use Rattle.hex.specs.Hex.{encode_lower}
use Rattle.std.specs.FinMap as finite
use Rattle.std.specs.FinMap.{contains_key}
use Rattle.warg_crypto.specs.Bytes.{same_bytes}
use Rattle.warg_crypto.specs.Digests.{sha256}
use Rattle.warg_map.specs.Bits.{key_bits}
use Rattle.warg_crypto.specs.Tree.{leaf_digest}
use Rattle.warg_crypto.specs.EmptyTrees.{empty_root}
use Rattle.warg_map.specs.Sparse.{SparseMap, inserted, leaf_at}
use Rattle.warg_map.specs.Messages.{Peers}
use Rattle.warg_map.specs.Peers.{Proves, ProvesEmpty}
use Rattle.warg_map.specs.ProofValue.{proof_value}
use Rattle.warg_map.proofs.ForCallers.{all_bits, replaced_root, empty_root_held}
use Rattle.warg_program.specs.Orders.{insert, prove, absent}
use Rattle.warg_program.specs.States.{State, start, map_at, after}
use Rattle.warg_program.specs.Text.{answer}

inserted-push : (H : List ℕ → List ℕ) (m : SparseMap) (es : List (List ℕ × List ℕ)) (key value : List ℕ)
    → inserted H m (es ++ (key, value) ∷ []) ≡ finite.insert (inserted H m es) (key_bits H key) (leaf_digest H value)
unfolding inserted
inserted-push H m [] key value = refl
inserted-push H m (e ∷ es) key value = inserted-push H (finite.insert m (key_bits H e.0) (leaf_digest H e.1)) es key
    value

-- the map of no insertions
pub map_of_none : map_at start ≡ finite.empty
unfolding inserted
map_of_none = refl

-- the map after one more insertion
pub map_after_insert : (s : State) (key value : List ℕ) → map_at (after s (insert key value)) ≡ finite.insert (map_at s)
    (key_bits sha256 key) (leaf_digest sha256 value)
map_after_insert s key value = inserted-push sha256 finite.empty s.insertions key value

-- a call that answered didn't fail
pub answered_not_failed : {T E : Type 0} (x : T) (e : E) → Ok x ≡ Err e → ⊥
answered_not_failed x e failed = absurd (cc)

-- what the command `prove` answers by a proof
pub proved_said : (s : State) (m : SparseMap) (copy key value : List ℕ) (peers : Peers) (root : List ℕ) → m ≡ map_at s
    → copy ≡ key → length peers ≤ 256 → Proves sha256 256 m (key_bits sha256 copy) peers
    → root ≡ proof_value sha256 peers (leaf_digest sha256 value) (key_bits sha256 key) → answer s (prove key value)
    ≡ codes "root " ++ encode_lower root
unfolding answer
proved_said s m copy key value peers root at same few proves is =
    let proves = rw same at proves in
    rw (← at, proves.held, is) (ap (λ r. codes "root " ++ encode_lower r)
    (sym (replaced_root sha256 m (key_bits sha256 key) peers (leaf_digest sha256 value)
    (all_bits sha256 key) few proves)))

-- and without one
pub unproved_said : (s : State) (m : SparseMap) (copy key value : List ℕ) → m ≡ map_at s → copy ≡ key
    → contains_key m (key_bits sha256 copy) ≡ false → answer s (prove key value) ≡ codes "absent"
unfolding answer
unproved_said s m copy key value at same lacks = rw (← at, ← same, lacks) refl

-- what the command `absent` answers by a proof
pub absent_said : (s : State) (m : SparseMap) (copy key : List ℕ) (o : Option Peers) (peers : Peers) (root : List ℕ)
    → m ≡ map_at s → copy ≡ key → o ≡ Some peers
    → (IsSome o ↔ (leaf_at sha256 m (key_bits sha256 copy) ≡ empty_root sha256 0))
    → IfSome o (ProvesEmpty sha256 m (key_bits sha256 copy))
    → root ≡ proof_value sha256 peers (empty_root sha256 0) (key_bits sha256 key) → answer s (absent key)
    ≡ codes "empty " ++ encode_lower root
unfolding answer
absent_said s m copy key o peers root at same some empty proves is =
    let leaf = (rw (some, same) at empty).0 refl in
    rw (← at, (bytes_eq-Decides _ _).1 leaf, is)
    (ap (λ r. codes "empty " ++ encode_lower r)
    (sym (empty_root_held sha256 m (key_bits sha256 key) peers (all_bits sha256 key)
    (rw (some, same) at proves) leaf)))

-- and without one
pub present_said : (s : State) (m : SparseMap) (copy key : List ℕ) (o : Option Peers) → m ≡ map_at s → copy ≡ key
    → o ≡ None → (IsSome o ↔ (leaf_at sha256 m (key_bits sha256 copy) ≡ empty_root sha256 0)) → answer s (absent key)
    ≡ codes "refused present"
unfolding answer
present_said s m copy key o at same none empty =
    let differs : same_bytes (leaf_at sha256 m (key_bits sha256 copy)) (empty_root sha256 0) ≡ false =
    grind (arith, common_steps, bytes_eq-Decides) in
    rw (← at, ← same, differs) refl
