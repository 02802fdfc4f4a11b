-- Messages of logs that keep the digest of every node.
use Rattle.std.proofs.Common.{◌≡◌, ℕ, zero, suc, ◌+◌, ◌*◌, ◌/◌, nat_eq, List, [], ◌∷◌, length, get_or, None, Ok, Err, refl, arith}
use Rattle.std.specs.Bool.{Decides}
use Rattle.std.specs.Cmp.Lexicographic.{pointwise, pointwise_decides, bytes_decides}
use Rattle.std.proofs.lemmas.List.{ext_get_or}
use Rattle.std.proofs.lemmas.Bool.Decides.{Decides-and, Decides-eqb}
use Rattle.warg_protobuf.specs.Decoding.{first_fault, digest_fault}
use Rattle.warg_protobuf.specs.declared.value_error.DecodeError.TheVariants.{NotALog}
use Rattle.warg_log.specs.Tree.{leaves_in, slice_of}
use Rattle.warg_log.specs.Images.{vec_message, is_slice_of_length, vec_in}
use Rattle.warg_log.proofs.SliceLemmas.{slice_of-is, own_leaf}

-- a tree and a length, and the message of a log, which is read as the log; one that isn't that of its own leaf digests
-- is no log's
module _ (H : List ℕ → List ℕ) (n : ℕ) (tree : List (List ℕ)) where
  slice_decides : Decides (is_slice_of_length H n tree) ((length (leaves_in tree) ≡ n)
      × (tree ≡ slice_of H (leaves_in tree)))
  slice_decides = Decides-and _ _ (Decides-eqb (length (leaves_in tree)) n)
      (pointwise_decides {E = pointwise nat_eq} bytes_decides tree (slice_of H (leaves_in tree)))

  pub message_is : length (leaves_in tree) ≡ n → tree ≡ slice_of H (leaves_in tree) → vec_message H (leaves_in tree)
      ≡ record { length = n; tree = tree }
  message_is count slice = rw (← slice, count) refl

  pub message_read : vec_message H (leaves_in tree) ≡ record { length = n; tree = tree } → first_fault digest_fault tree
      ≡ None
      → vec_in H (record { length = n; tree = tree }) ≡ Ok (leaves_in tree)
  message_read is good = grind (arith, slice_decides)

  pub no_log : first_fault digest_fault tree ≡ None
      → (vec_message H (leaves_in tree) ≡ record { length = n; tree = tree } → ⊥)
      → vec_in H (record { length = n; tree = tree }) ≡ Err NotALog
  no_log good other = grind (arith, slice_decides)

-- a log's leaf digests stand at the even places of its slice
pub leaves_count : (t : List (List ℕ)) → length (leaves_in t) ≡ (length t + 1) / 2
leaves_count [] = refl
leaves_count (d ∷ []) = refl
leaves_count (d ∷ s ∷ t) = omega (arith, leaves_count t)

leaves_in-at : (t : List (List ℕ)) (i : ℕ) → get_or (leaves_in t) i [] ≡ get_or t (2 * i) []
leaves_in-at [] i = refl
leaves_in-at (d ∷ []) zero = refl
leaves_in-at (d ∷ []) (suc i) = grind arith
leaves_in-at (d ∷ s ∷ t) zero = refl
leaves_in-at (d ∷ s ∷ t) (suc i) = grind (arith, leaves_in-at t i)

pub slice_leaves : (H : List ℕ → List ℕ) (ds : List (List ℕ)) → leaves_in (slice_of H ds) ≡ ds
slice_leaves H ds =
    let slice = slice_of-is H ds (slice_of H ds) refl in
    let count = leaves_count (slice_of H ds) in
    ext_get_or [] (leaves_in (slice_of H ds)) ds (omega (arith, count))
    (λ i lt. grind (arith, leaves_in-at, own_leaf H ds i))

-- where no log has a message, that of the tree's own leaf digests hasn't
pub log_again : (H : List ℕ → List ℕ) (n : ℕ) (tree ds : List (List ℕ))
    → vec_message H ds ≡ record { length = n; tree = tree } → vec_message H (leaves_in tree)
    ≡ record { length = n; tree = tree }
log_again H n tree ds is = grind (arith, slice_leaves)
