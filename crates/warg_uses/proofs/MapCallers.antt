-- Roots to which absences lead.
use Rattle.std.proofs.Common.{◌≡◌, ℕ, List, Option, Some, None, Result, Ok, Err, refl}
use Rattle.std.specs.Prelude.{◌↔◌, IsSome, IfSome, IfOk}
use Rattle.warg_crypto.specs.EmptyTrees.{empty_root}
use Rattle.warg_map.specs.Bits.{key_bits}
use Rattle.warg_map.specs.Sparse.{SparseMap, leaf_at, sparse_root}
use Rattle.warg_map.specs.Messages.{Peers}
use Rattle.warg_map.specs.Peers.{ProvesEmpty}
use Rattle.warg_map.specs.ProofValue.{proof_value}
use Rattle.warg_map.proofs.ForCallers.{all_bits, empty_root_held}

pub absence_leads : {E : Type 0} (H : List ℕ → List ℕ) (m : SparseMap) (key : List ℕ) (r : Result (Option Peers) E)
    → IfOk r (λ o. IsSome o ↔ (leaf_at H m (key_bits H key) ≡ empty_root H 0))
    → IfOk r (λ o. IfSome o (ProvesEmpty H m (key_bits H key)))
    → IfOk r (λ o. IfSome o (λ p. proof_value H p (empty_root H 0) (key_bits H key) ≡ sparse_root H 256 m))
absence_leads H m key (Ok (Some p)) empty proves = empty_root_held H m (key_bits H key) p (all_bits H key) proves
    (empty.0 refl)
absence_leads H m key (Ok None) empty proves = tt
absence_leads H m key (Err e) empty proves = tt
