-- What refutes a law without one of its premises.
use Rattle.std.proofs.Common.{◌≡◌, ℕ, suc, ◌+◌, inl, inr, Bool, true, false, not, List, [], ◌∷◌, ◌++◌, length, Option, Some, is_some, refl, sym, ap, ◌∙◌, arith}
use Rattle.std.specs.Prelude.{replicate}
use Rattle.std.specs.FinMap.{get, insert, empty, contains_key, get-empty}
use Rattle.std.proofs.lemmas.List.{append_cancel_left, append_cancel_right, length-replicate}
use Rattle.warg_crypto.proofs.ForCallers.{zeros, ones}
use Rattle.warg_crypto.specs.EmptyTrees.{empty_root}
use Rattle.warg_map.specs.Messages.{Peers}
use Rattle.warg_map.specs.Sparse.{SparseMap, bits_cmp, root_of_levels, sparse_root}
use Rattle.warg_map.specs.Peers.{IsPeers, Proves, ProvesAbsent, ProvesEmpty}
use Rattle.warg_map.specs.ProofValue.{peer_of, proof_value}
use Rattle.warg_map.proofs.BitsInFront.{no_some}
use Rattle.warg_map.proofs.FoundInNode.{get-lone_other}
use Rattle.warg_map.proofs.ForCallers.{root_at_prefix}
use Rattle.warg_map.specs.Last.{same_bits}
use Rattle.warg_map.proofs.SparseTree.{get-insert_same, get-insert_other, contains_key-insert_same, contains_key-empty, tied, tied_itself_bits}

-- Each byte string is its own digest.
abbrev pub own : List ℕ → List ℕ
own m = m

-- Of no bytes none, and of others 32 zeros.
abbrev pub short : List ℕ → List ℕ
short [] = []
short (b ∷ bytes) = zeros

-- Of no bytes 32 zeros, and of others 32 ones.
abbrev pub apart : List ℕ → List ℕ
apart [] = zeros
apart (b ∷ bytes) = ones

abbrev pub SameDigest : Option (List ℕ) → Option (List ℕ) → Type 0
SameDigest x y = x ≡ y

-- One bit, the other one, and 256.
abbrev pub one_bit : List Bool
one_bit = true ∷ []

abbrev pub other_bit : List Bool
other_bit = false ∷ []

pub below : List Bool
below = replicate 255 false

below_255 : length below ≡ 255
unfolding below
below_255 = length-replicate 255 false

abbrev pub all_bits : List Bool
all_bits = true ∷ below

pub bits_256 : length all_bits ≡ 256
bits_256 = omega (arith, below_255)

pub prefix_256 : length {A = Bool} [] + length all_bits ≡ 256
prefix_256 = omega (arith, bits_256)

-- A map that holds one bit's leaf digest alone.
abbrev pub lone : List ℕ → SparseMap
lone x = insert empty one_bit x

-- A peer at the top.
abbrev pub with_top : ℕ → Peers
with_top byte = Some (byte ∷ []) ∷ []

-- What is held there alone.
only_lone : (p q : List Bool) (x : List ℕ) → contains_key (insert (empty {K = List Bool} {X = List ℕ} {R = bits_cmp}) p
    x) q ≡ true → q ≡ p
only_lone p q x held = tied q p (not_other (same_bits q p) refl)
  where
    not_other : (b : Bool) → same_bits q p ≡ b → same_bits q p ≡ true
    not_other true is = is
    not_other false is = absurd (no_some _
        (get-lone_other p x q (λ same. let no : false ≡ true = sym is ∙ ap (same_bits q) (sym same)
        ∙ tied_itself_bits q in cc)) held)

-- The proof of a key alone in its map has the empty tree beside its first bit.
pub lone_proof : (H : List ℕ → List ℕ) (b : Bool) (rest : List Bool) (x : List ℕ)
    → Proves H 256 (insert empty (b ∷ rest) x) (b ∷ rest) (Some (empty_root H (length rest)) ∷ [])
unfolding IsPeers
lone_proof H b rest x = record {
  held = contains_key-insert_same empty (b ∷ rest) x;
  peers_from_top = (
    inl (refl, λ q. get-lone_other (b ∷ rest) x (not b ∷ q) (λ same. head_differs b same)),
    λ q other. get-lone_other (b ∷ rest) x (b ∷ q) (λ same. other (cc)),
  );
  count = record {
    above = λ q held other. absurd (other (only_lone (b ∷ rest) q x held));
    reached = inl (refl, λ q held. only_lone (b ∷ rest) q x held);
  };
}
  where
    head_differs : (b : Bool) {q r : List Bool} → (not b ∷ q) ≡ (b ∷ r) → ⊥
    head_differs true same = cc
    head_differs false same = cc

pub lone_empty : (H : List ℕ → List ℕ) (b : Bool) (rest : List Bool) (x : List ℕ)
    → ProvesEmpty H (insert empty (b ∷ rest) x) (b ∷ rest) (Some (empty_root H (length rest)) ∷ [])
lone_empty H b rest x = rw (get-insert_same empty (b ∷ rest) x) (lone_proof H b rest x)

-- The proof of nothing in the empty map has no peers.
pub nothing_proof : (H : List ℕ → List ℕ) (bits : List Bool) → ProvesAbsent H empty bits []
unfolding IsPeers
nothing_proof H bits = record {
  absent = contains_key-empty bits;
  peers_from_top = λ q _. get-empty bits_cmp q;
  count = record {
    above = λ q held _. absurd (no_some _ (get-empty bits_cmp q) held);
    reached = inl (refl, λ q held. absurd (no_some _ (get-empty bits_cmp q) held));
  };
}

pub nothing_empty : (H : List ℕ → List ℕ) (bits : List Bool) → ProvesEmpty H empty bits []
nothing_empty H bits = rw (get-empty bits_cmp bits) (nothing_proof H bits)

-- The proof of an absence beside one bit has its digest.
pub beside_proof : (H : List ℕ → List ℕ) (y : List ℕ) → ProvesAbsent H (insert empty other_bit y) one_bit (Some y ∷ [])
unfolding IsPeers root_of_levels
beside_proof H y = grind (
  arith,
  is_some,
  get-lone_other,
  get-insert_same empty other_bit y,
  contains_key-insert_same empty other_bit y,
  only_lone,
)

-- And the tree over both has it on the other side.
abbrev pub seven : SparseMap
seven = insert empty other_bit (7 ∷ [])

pub beside_root : root_of_levels own 1 (get seven) ≡ 1 ∷ 7 ∷ 0 ∷ []
unfolding root_of_levels empty_root
beside_root = rw (get-insert_same empty other_bit (7 ∷ []), get-lone_other other_bit (7 ∷ []) one_bit (λ same. cc)) refl

-- The map that holds that and one bit, too.
abbrev pub both : SparseMap
both = insert seven one_bit []

seven_there : get both other_bit ≡ Some (7 ∷ [])
seven_there = get-insert_other seven one_bit other_bit [] (λ same. cc) ∙ get-insert_same empty other_bit (7 ∷ [])

pub both_proof : (H : List ℕ → List ℕ) → Proves H 256 both one_bit (Some (7 ∷ []) ∷ [])
unfolding IsPeers root_of_levels
both_proof H = record {
  held = contains_key-insert_same seven one_bit [];
  peers_from_top = grind
      (arith, seven_there, is_some, get-insert_other, get-lone_other);
  count = record {
    above = grind (arith, only_lone, is_some, get-insert_other);
    reached = inr
        (other_bit, ap is_some seven_there, (λ same. cc), refl);
  };
}

pub both_root : root_of_levels own 1 (get both) ≡ 1 ∷ 7 ∷ []
unfolding root_of_levels
both_root = rw (seven_there, get-insert_same seven one_bit []) refl

-- A tree of two levels or more begins with two branches.
two_branches : (k : ℕ) (f : List Bool → Option (List ℕ)) → (t : List ℕ) × (root_of_levels own (suc (suc k)) f ≡ 1 ∷ 1 ∷
    t)
unfolding root_of_levels
two_branches k f = (_, refl)

-- So one of one level or of none is another.
pub one_level : (x : List ℕ) → proof_value own (Some (empty_root own 0) ∷ []) x one_bit
    ≡ sparse_root own 256 (insert (lone x) one_bit x) → ⊥
unfolding proof_value empty_root
one_level x is =
    let root = two_branches 254 (get (insert (lone x) one_bit x)) in
    cc (is ∙ root.1)

pub no_level : proof_value own [] [] [] ≡ sparse_root own 256 (insert empty [] []) → ⊥
unfolding proof_value
no_level is = grind (arith, two_branches 254 (get (insert (empty {K = List Bool} {X = List ℕ} {R = bits_cmp}) [] [])))

-- Another peer at the top leads elsewhere.
top_is : (byte k : ℕ) → k ≡ 255 → peer_of own (with_top byte) k ≡ byte ∷ []
top_is byte k is = rw is refl

peer_matters : (rest : List Bool) (x : List ℕ) → length rest ≡ 255 → proof_value own (with_top 5) x (true ∷ rest)
    ≡ proof_value own (with_top 6) x (true ∷ rest) → ⊥
unfolding proof_value
peer_matters rest x count is = cc (rw (top_is 5 (length rest) count, top_is 6 (length rest) count) at is)

pub peers_matter : (x : List ℕ) → proof_value own (with_top 5) x all_bits ≡ proof_value own (with_top 6) x all_bits → ⊥
peers_matter x is = peer_matters below x below_255 is

-- Another leaf digest leads elsewhere.
pub leaf_matters : (peers : Peers) (x y : List ℕ) (bits : List Bool) → proof_value own peers x bits
    ≡ proof_value own peers y bits → x ≡ y
unfolding proof_value
leaf_matters peers x y [] is = is
leaf_matters peers x y (true ∷ bits) is =
    let under : peer_of own peers (length bits) ++ proof_value own peers x bits ≡ peer_of own peers (length bits)
    ++ proof_value own peers y bits = cc in
    leaf_matters peers x y bits (append_cancel_left (peer_of own peers (length bits)) _ _ under)
leaf_matters peers x y (false ∷ bits) is =
    let under : proof_value own peers x bits ++ peer_of own peers (length bits) ≡ proof_value own peers y bits
    ++ peer_of own peers (length bits) = cc in
    leaf_matters peers x y bits (append_cancel_right _ _ (peer_of own peers (length bits)) under)

-- A map of one key has the root to which its proof leads.
pub own_root : (H : List ℕ → List ℕ) (b : Bool) (rest : List Bool) (x : List ℕ) → length (b ∷ rest) ≡ 256
    → proof_value H (Some (empty_root H (length rest)) ∷ []) x (b ∷ rest) ≡ sparse_root H 256 (insert empty (b ∷ rest)
    x)
own_root H b rest x count =
    let m : SparseMap = insert empty (b ∷ rest) x in
    grind (arith, root_at_prefix H m [] (b ∷ rest), lone_proof H b rest x, get-insert_same empty (b ∷ rest) x)
