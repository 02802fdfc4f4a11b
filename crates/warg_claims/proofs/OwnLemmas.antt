-- Verdicts on a log's or a map's own evidence.
use Rattle.std.proofs.Common.{◌≡◌, ℕ, ◌*◌, ◌&&◌, Bool, true, List, [], ◌∷◌, Option, Some, None, Ok, refl, sym, ap, ◌∙◌}
use Rattle.std.specs.Prelude.{slice_get, is_some}
use Rattle.std.specs.FinMap.{get}
use Rattle.std.specs.Cmp.Lexicographic.{bytes_decides}
use Rattle.std.proofs.lemmas.Bool.{eq-eqb}
use Rattle.warg_crypto.specs.Bytes.{same_bytes}
use Rattle.warg_crypto.specs.Tree.{leaf_digest}
use Rattle.warg_protobuf.specs.MapProofBundle.{MapBundle}
use Rattle.warg_log.specs.declared.node.Node.{Node}
use Rattle.warg_log.specs.Claims.{leaf_claim}
use Rattle.warg_log.specs.Sparse.{held_digest}
use Rattle.warg_log.specs.Inclusion.{inclusion}
use Rattle.warg_log.specs.Consistency.{consistency}
use Rattle.warg_log.proofs.ForCallers.{inclusion_leads}
use Rattle.warg_paths.specs.Paths.{inclusion_root, consistency_roots, led_to, led_to_both}
use Rattle.warg_map.specs.Messages.{Peers}
use Rattle.warg_map.specs.Peers.{Proves, ProvesEmpty}
use Rattle.warg_map.specs.Sparse.{SparseMap}
use Rattle.warg_bundle.specs.LogBundles.{Bundle, bundle_of}
use Rattle.warg_bundle.specs.MapBundles.{map_bundle_of}
use Rattle.warg_bundle.specs.Bundling.{IncludesAs, IsConsistentAs}
use Rattle.warg_bundle.specs.Served.{SpellsKey}
use Rattle.warg_check.specs.Verdicts.{leads}
use Rattle.warg_check.specs.Verdicts as bundles
use Rattle.warg_check.specs.CheckpointVerdicts.{entry_verdict, growth_verdict, shows_entry, shows_growth}
use Rattle.warg_check.proofs.ForCallers.{judged_at}
use Rattle.warg_check.specs.PathVerdicts.{judged_path, is_found, are_both}

pub same : (xs ys : List ℕ) → xs ≡ ys → same_bytes xs ys ≡ true
same xs ys is = (bytes_decides xs ys).1 is

pub both : {a b : Bool} → a ≡ true → b ≡ true → (a && b) ≡ true
both first second = rw (first, second) refl

-- a path that leads to the root, and one that leads to both
pub entry_by_path : (H : List ℕ → List ℕ) (m n : ℕ) (x root : List ℕ) (o : Option (List (List ℕ)))
    → led_to H m n x o ≡ Some root → judged_path (λ digests. is_found root (inclusion_root H m n x digests)) o ≡ Ok true
entry_by_path H m n x root None leads = absurd cc
entry_by_path H m n x root (Some digests) leads = ap Ok (ap (is_found root) leads ∙ same root root refl)

pub growth_by_path : (H : List ℕ → List ℕ) (m n : ℕ) (old new : List ℕ) (o : Option (List (List ℕ)))
    → led_to_both H m n old o ≡ Some (old, new)
    → judged_path (λ digests. are_both old new (consistency_roots H m n old digests)) o ≡ Ok true
growth_by_path H m n old new None leads = absurd cc
growth_by_path H m n old new (Some digests) leads =
    ap Ok (ap (are_both old new) leads ∙ rw (same old old refl, same new new refl) refl)

-- a bundle of one proof
pub entry_by_bundle : (H : List ℕ → List ℕ) (F : ℕ → Option (List ℕ)) (index : ℕ) (value : List ℕ) (n : ℕ)
    (root bytes : List ℕ) (b : Bundle) → bundle_of bytes ≡ Ok b
    → b.included_nodes ≡ record { 0 = 2 * index } ∷ [] → n ≡ b.log_length → IncludesAs H F b
    → inclusion H F (leaf_claim index n) (leaf_digest H value) ≡ Ok root → entry_verdict H bytes 0 index value n root
    ≡ Ok true
entry_by_bundle H F index value n root bytes b spells nodes len as_source is =
    let x = leaf_digest H value in
    let G = held_digest b.hashes in
    let node : Node = record { 0 = 2 * index } in
    let cut = (rw nodes at (as_source x)).0 in
    let own = (inclusion_leads H F (leaf_claim index n) x root).0 is in
    let led : inclusion H G (record { leaf = node; log_length = b.log_length }) x ≡ Ok root =
    (inclusion_leads H G (record { leaf = node; log_length = b.log_length }) x root).1
    (rw len at own.0, cut ∙ rw len at own.1) in
    judged_at (λ (b : Bundle). b.included_nodes) (shows_entry H index value n root) 0
    (bundle_of bytes) b node true spells (ap (λ ns. slice_get ns 0) nodes)
    (rw (eq-eqb (2 * index) (2 * index) refl, eq-eqb b.log_length n (sym len), led, same root root refl) refl)

pub growth_by_bundle : (H : List ℕ → List ℕ) (F : ℕ → Option (List ℕ)) (m n : ℕ) (old new bytes : List ℕ) (b : Bundle)
    → bundle_of bytes ≡ Ok b
    → b.consistent_lengths ≡ m ∷ [] → n ≡ b.log_length → IsConsistentAs H F b → consistency H F m n ≡ Ok (old, new)
    → growth_verdict H bytes 0 m old n new ≡ Ok true
growth_by_bundle H F m n old new bytes b spells lengths len as_source is =
    let evaluates : consistency H (held_digest b.hashes) m b.log_length ≡ Ok (old, new) = (rw lengths at as_source).0
    ∙ rw len at is in
    judged_at (λ (b : Bundle). b.consistent_lengths) (shows_growth H m old n new) 0 (bundle_of bytes) b m true spells
    (ap (λ ms. slice_get ms 0) lengths)
    (rw (eq-eqb m m refl, eq-eqb b.log_length n (sym len), evaluates, same old old refl, same new new refl) refl)

-- a key's bundle
pub key_by_bundle : (H : List ℕ → List ℕ) (m : SparseMap) (bits : List Bool) (bytes x : List ℕ) (holds : Peers → Bool)
    → SpellsKey H m bits bytes → get m bits ≡ Some x
    → ((peers : Peers) → Proves H 256 m bits peers → holds peers ≡ true)
    → bundles.verdict_at (λ (b : MapBundle). b.proofs) (λ b. holds) 0 (map_bundle_of bytes) ≡ Ok true
key_by_bundle H m bits bytes x holds s is judges =
    let has = s.proves.held (ap is_some is) in
    judged_at (λ (b : MapBundle). b.proofs) (λ b. holds) 0 (map_bundle_of bytes) s.bundle s.proves.peers true s.spells
    (ap (λ (b : MapBundle). slice_get b.proofs 0) has.0) (judges _ has.1)

pub absence_by_bundle : (H : List ℕ → List ℕ) (m : SparseMap) (bits : List Bool) (bytes : List ℕ) (holds : Peers → Bool)
    → SpellsKey H m bits bytes → get m bits ≡ None
    → ((peers : Peers) → ProvesEmpty H m bits peers → holds peers ≡ true)
    → bundles.verdict_at (λ (b : MapBundle). b.absences) (λ b. holds) 0 (map_bundle_of bytes) ≡ Ok true
absence_by_bundle H m bits bytes holds s is judges =
    let has = s.proves.absent (ap is_some is) in
    judged_at (λ (b : MapBundle). b.absences) (λ b. holds) 0 (map_bundle_of bytes) s.bundle s.proves.peers true s.spells
    (ap (λ (b : MapBundle). slice_get b.absences 0) has.0) (judges _ (rw is has.1))
