-- Honest proofs evaluate to the root.
use Rattle.std.proofs.Common.{◌≡◌, ℕ, ◌+◌, ◌-◌, ◌<◌, ◌≤◌, Bool, true, false, not, List, [], ◌∷◌, ◌++◌, length, Option, Some, None, is_some, unwrap_or, refl, sym, ap, ◌∙◌, arith, inl, inr, append_assoc, length-append}
use Rattle.std.proofs.lemmas.List.{get_or-reverse, get_or_at, length-reverse, append-nil}
use Rattle.std.proofs.lemmas.Bool.{cond-true, cond-false, lt-ltb, le-ltb}
use Rattle.std.specs.Prelude.{reverse, MatchOption}
use Rattle.std.specs.FinMap.{get, insert}
use Rattle.warg_crypto.specs.EmptyTrees.{empty_root}
use Rattle.warg_crypto.specs.Tree.{input_beside, branch_input}
use Rattle.warg_map.specs.Messages.{Peers}
use Rattle.warg_map.specs.Sparse.{SparseMap, root_of_levels, sparse_root, leaf_at}
use Rattle.warg_map.specs.ProofValue.{peer_of, proof_value}
use Rattle.warg_map.specs.Peers.{IsPeer, IsPeers, Proves, ProvesAbsent, IsBeside}
use Rattle.warg_map.proofs.SparseTree.{get-insert_same, get-insert_other, root-nothing, root-same, head_differs}
use Rattle.warg_map.proofs.CollectedPeers.{few_collected}

-- the peer at a height
peer_missing : (H : List ℕ → List ℕ) (peers : Peers) (i : ℕ) → i + length peers < 256 → peer_of H peers i
    ≡ empty_root H i
peer_missing H peers i h = cond-true _ _ _ (lt-ltb i (256 - length peers) (omega (arith, h)))

peer_there : (H : List ℕ → List ℕ) (peers before os : Peers) (o : Option (List ℕ)) (i : ℕ) → reverse peers
    ≡ before ++ o ∷ os → length before + i ≡ 255 → length peers ≤ 256 → peer_of H peers i ≡ unwrap_or o (empty_root H i)
peer_there H peers before os o i e place few = grind (
  arith,
  length-reverse peers,
  length-append before (o ∷ os),
  get_or_at before o os None (length before) refl,
  get_or-reverse,
  cond-false,
  le-ltb,
)

-- however an empty half is written, it counts as the empty tree
abbrev IsEmptyHalf : (List ℕ → List ℕ) → (ℕ → Option (List ℕ)) → Type 0
IsEmptyHalf H half = (k : ℕ) → unwrap_or (half k) (empty_root H k) ≡ empty_root H k

other_none : {m : List Bool → Option (List ℕ)} (H : List ℕ → List ℕ) (k : ℕ) → ((q : List Bool) → m q ≡ None)
    → root_of_levels H k m ≡ empty_root H k
other_none {m} H k h = root-same H k m (λ q. None) h ∙ root-nothing H k

peer_value : {e o : Option (List ℕ)} {m : List Bool → Option (List ℕ)} (H : List ℕ → List ℕ) (k : ℕ)
    → unwrap_or e (empty_root H k) ≡ empty_root H k → IsPeer H e k m o → unwrap_or o (empty_root H k)
    ≡ root_of_levels H k m
peer_value H k h (inl g) = rw (g.0, h, other_none H k g.1)
peer_value H k h (inr g) = rw g.0

-- below the last peer
beside_below_last : {m : List Bool → Option (List ℕ)} (H : List ℕ → List ℕ) (bits : List Bool) (peers : Peers)
    → length bits + length peers ≤ 256 → ((q : List Bool) → ¬ (q ≡ bits) → m q ≡ None) → IsBeside H peers m bits
unfolding IsBeside
beside_below_last H [] peers few h = tt
beside_below_last H (b ∷ bits) peers few h = (
  grind (arith, peer_missing, other_none, head_differs),
  beside_below_last H bits peers (omega (arith, few)) (λ q n. h (b ∷ q) (λ x. n (cc))),
)

-- with the peers from the top, of which those before have been used
beside_rest : (H : List ℕ → List ℕ) (half : ℕ → Option (List ℕ)) (bits : List Bool) (m : List Bool → Option (List ℕ))
    (peers before os : Peers) → IsEmptyHalf H half → reverse peers ≡ before ++ os → length before + length bits ≡ 256
    → length peers ≤ 256 → IsPeers H half m bits os → IsBeside H peers m bits
unfolding IsPeers IsBeside
beside_rest H half bits m peers before [] s e place few h = grind (arith, length-reverse, append-nil, beside_below_last)
beside_rest H half [] m peers before (o ∷ os) s e place few h = tt
beside_rest H half (b ∷ bits) m peers before (o ∷ os) s e place few h = (
  grind (
    arith,
    peer_there H peers before os o (length bits) e,
    peer_value H (length bits) (s (length bits))
        h.0,
  ),
  beside_rest H half bits (λ q. m (b ∷ q)) peers (before ++ o ∷ []) os s
      (e ∙ sym (append_assoc before (o ∷ []) os)) (rw (length-append before (o ∷ [])) (omega (arith, place))) few h.1,
)

-- the branch over both halves
halves : {x y : List ℕ} (H : List ℕ → List ℕ) (b : Bool) (k : ℕ) (m : List Bool → Option (List ℕ)) → x
    ≡ root_of_levels H k (λ q. m (not b ∷ q)) → y ≡ root_of_levels H k (λ q. m (b ∷ q))
    → ◌≡◌ {A = List ℕ} (input_beside b x y) (branch_input (root_of_levels H k (λ q. m (false ∷ q)))
    (root_of_levels H k (λ q. m (true ∷ q))))
halves H true k m e f = rw (e, f) refl
halves H false k m e f = rw (e, f) refl

-- from the leaf digest they lead to the root
beside_value : {x : List ℕ} (H : List ℕ → List ℕ) (peers : Peers) (m : List Bool → Option (List ℕ)) (bits : List Bool)
    → IsBeside H peers m bits → unwrap_or (m bits) (empty_root H 0) ≡ x → proof_value H peers x bits
    ≡ root_of_levels H (length bits) m
unfolding IsBeside proof_value root_of_levels
beside_value H peers m [] h e = sym e
beside_value H peers m (b ∷ bits) h e =
    ap H (halves H b (length bits) m h.0 (beside_value H peers (λ q. m (b ∷ q)) bits h.1 e))

-- so they are after a prefix
beside_after : (H : List ℕ → List ℕ) (peers : Peers) (m : List Bool → Option (List ℕ)) (prefix rest : List Bool)
    → IsBeside H peers m (prefix ++ rest) → IsBeside H peers (λ q. m (prefix ++ q)) rest
unfolding IsBeside
beside_after H peers m [] rest h = h
beside_after H peers m (b ∷ prefix) rest h = beside_after H peers (λ q. m (b ∷ q)) prefix rest h.1

-- and where the same is held beside the bits
pub beside_alike : {m n : List Bool → Option (List ℕ)} (H : List ℕ → List ℕ) (peers : Peers) (bits : List Bool)
    → ((q : List Bool) → ¬ (q ≡ bits) → m q ≡ n q) → IsBeside H peers m bits → IsBeside H peers n bits
unfolding IsBeside
beside_alike H peers [] same h = tt
beside_alike H peers (b ∷ bits) same h = (
  h.0 ∙ root-same H (length bits) _ _ (λ q. same (not b ∷ q) (head_differs b bits q)),
  beside_alike H peers bits (λ q other. same (b ∷ q) (λ e. other (cc))) h.1,
)

-- the peers of a proof, be it of presence or of absence, are what stands beside the bits
honest : (H : List ℕ → List ℕ) (half : ℕ → Option (List ℕ)) (m : SparseMap) (bits : List Bool) (peers : Peers)
    → IsEmptyHalf H half → length bits ≡ 256 → IsPeers H half (get m) bits (reverse peers)
    → IsBeside H peers (get m) bits
honest H half m bits peers s n p = beside_rest H half bits (get m) peers [] (reverse peers) s refl (omega (arith, n))
    (few_collected H half (get m) bits peers p n) p

pub honest_held : {H h m bits peers : _} → length bits ≡ 256 → Proves H h m bits peers → IsBeside H peers (get m) bits
honest_held {H} {m} {bits} {peers} n p = honest H (λ k. Some (empty_root H k)) m bits peers
    (λ k. refl) n p.peers_from_top

pub honest_absent : {H m bits peers : _} → length bits ≡ 256 → ProvesAbsent H m bits peers
    → IsBeside H peers (get m) bits
honest_absent {H} {m} {bits} {peers} n p = honest H (λ k. None) m bits peers (λ k. refl) n p.peers_from_top

pub honest_empty : (H : List ℕ → List ℕ) (m : SparseMap) (bits : List Bool) (peers : Peers) (o : Option (List ℕ))
    → length bits ≡ 256 → MatchOption o (ProvesAbsent H m bits peers) (λ _. Proves H 256 m bits peers)
    → IsBeside H peers (get m) bits
honest_empty H m bits peers None n p = honest_absent n p
honest_empty H m bits peers (Some x) n p = honest_held n p

pub leaf_absent : (o : Option (List ℕ)) (d : List ℕ) → is_some o ≡ false → unwrap_or o d ≡ d
leaf_absent None d e = refl
leaf_absent (Some x) d e = cc

-- they lead from the leaf digest to the plain root at each prefix of the bits, and so to the map's
pub honest_prefix : {x : List ℕ} (H : List ℕ → List ℕ) (m : SparseMap) (prefix rest : List Bool) (peers : Peers)
    → IsBeside H peers (get m) (prefix ++ rest) → leaf_at H m (prefix ++ rest) ≡ x → proof_value H peers x rest
    ≡ root_of_levels H (length rest) (λ q. get m (prefix ++ q))
honest_prefix H m prefix rest peers p = beside_value H peers (λ q. get m (prefix ++ q)) rest
    (beside_after H peers (get m) prefix rest p)

pub honest_root : {x : List ℕ} (H : List ℕ → List ℕ) (m : SparseMap) (bits : List Bool) (peers : Peers) → length bits
    ≡ 256 → IsBeside H peers (get m) bits → leaf_at H m bits ≡ x → proof_value H peers x bits ≡ sparse_root H 256 m
honest_root H m bits peers n p at = beside_value H peers (get m) bits p at ∙ ap (λ k. sparse_root H k m) n

-- by the plain inputs on the way
pub honest_input : {x : List ℕ} (H : List ℕ → List ℕ) (m : SparseMap) (prefix below : List Bool) (b : Bool)
    (peers : Peers) → IsBeside H peers (get m) (prefix ++ b ∷ below) → leaf_at H m (prefix ++ b ∷ below) ≡ x
    → input_beside b (peer_of H peers (length below)) (proof_value H peers x below)
    ≡ branch_input (root_of_levels H (length below) (λ q. get m (prefix ++ false ∷ q)))
    (root_of_levels H (length below) (λ q. get m (prefix ++ true ∷ q)))
unfolding IsBeside
honest_input H m prefix below b peers p at =
    let h = beside_after H peers (get m) prefix (b ∷ below) p in
    halves H b (length below) (λ q. get m (prefix ++ q)) h.0
    (beside_value H peers (λ q. get m (prefix ++ b ∷ q)) below h.1 at)

-- and from any leaf digest to the root of the map that holds it
pub honest_replaced : (H : List ℕ → List ℕ) (m : SparseMap) (bits : List Bool) (peers : Peers) (x : List ℕ)
    → length bits ≡ 256 → IsBeside H peers (get m) bits → proof_value H peers x bits
    ≡ sparse_root H 256 (insert m bits x)
honest_replaced H m bits peers x n p = grind (arith, honest_root, beside_alike, get-insert_other, get-insert_same)
