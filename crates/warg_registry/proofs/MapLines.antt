-- The line of a map's root is read in one way.
use Rattle.std.proofs.Common.{◌≡◌, ℕ, suc, ◌+◌, nat_eq, Bool, true, Option, List, [], ◌∷◌, ◌++◌, length, take, drop, replicate, Result, Ok, codes, refl, sym, ap, ◌∙◌, inl, inr, arith}
use Rattle.std.proofs.lemmas.Bool.{cases_lt}
use Rattle.std.proofs.lemmas.List.{length-append, length-replicate, get_or_past, get_or-drop, take-append-drop}
use Rattle.std.proofs.lemmas.List.Elements.{All-get_or}
use Rattle.std.specs.FinMap.{get}
use Rattle.std.specs.Cmp.Lexicographic.{pointwise, bytes_decides}
use Rattle.base64.specs.Engines.{standard}
use Rattle.base64.specs.GeneralPurpose.{encode_of, decode_of, IsBytes}
use Rattle.base64.specs.Rfc4648.{encode_symbols, padding_len}
use Rattle.base64.proofs.EngineFacts.{decode_of-encode_of, decode_of_strict}
use Rattle.base64.proofs.RoundTrip.{length-encode_symbols}
use Rattle.warg_crypto.specs.Digests.{IsDigest, IsByte, sha256}
use Rattle.warg_crypto.specs.DigestFacts.{IsDigest-sha256}
use Rattle.warg_map.specs.Sparse.{SparseMap, map_of, root_of_levels, sparse_root}
use Rattle.warg_tiles.specs.CheckpointText.{IsLine, Said}
use Rattle.warg_tiles.proofs.ForCallers.{no_newline-encode}
use Rattle.warg_store.specs.Log as log
use Rattle.warg_registry.specs.Folder.{registry_of}
use Rattle.warg_registry.specs.Registry.{line_of}

-- A digest's bytes are bytes.
digest_bytes : (root : List ℕ) → IsDigest root → IsBytes root
digest_bytes root is i = elim (cases_lt i (length root)) [
  | inl low ↦ All-get_or IsByte root i 0 low is.are_bytes
  | inr out ↦ rw (get_or_past root i 0 out) (omega arith)
]

-- The base64 of a digest has 44 bytes, and is decoded.
pub root_is : (line digits root : List ℕ) → digits ≡ drop 4 line → IsDigest root → line ≡ line_of root
    → (length digits ≡ 44) × (decode_of standard digits ≡ Ok root)
root_is line digits root behind digest is =
    let same : digits ≡ encode_of standard root = behind ∙ ap (drop 4) is in
    let symbols = encode_symbols standard.encode_table root in
    let padding : List ℕ = replicate (padding_len (length root)) 61 in
    let counts = length-encode_symbols standard.encode_table root in
    let pads = length-replicate {A = ℕ} (padding_len (length root)) 61 in (
      omega (arith, ap length same, length-append symbols padding, counts, digest.has_32, pads),
      rw same (decode_of-encode_of standard root refl (digest_bytes root digest)),
    )

-- What was decoded is the base64 of what it gave.
pub root_read : (line digits decoded root : List ℕ) → IsBytes line
    → pointwise nat_eq (take 4 line) (codes "map ") ≡ true
    → digits ≡ drop 4 line → decode_of standard digits ≡ Ok decoded → root ≡ decoded → line ≡ line_of root
root_read line digits decoded root all begins behind is same =
    let front : take 4 line ≡ codes "map " = (bytes_decides (take 4 line) (codes "map ")).0 begins in
    let bytes : IsBytes digits = λ i. rw behind (rw (get_or-drop 4 line i 0) (all (4 + i))) in
    let text : digits ≡ encode_of standard root =
    decode_of_strict standard digits decoded (refl, refl) bytes is ∙ ap (encode_of standard) (sym same) in
    sym (take-append-drop 4 line) ∙ ap (λ b. b ++ drop 4 line) front ∙ ap (λ b. codes "map " ++ b) (sym behind ∙ text)

-- A digest that was decoded has 32 bytes.
pub decoded_length : {E : Type 0} (r : Result (List ℕ) E) (root decoded : List ℕ) → r ≡ Ok root → r ≡ Ok decoded
    → IsDigest root → length decoded ≡ 32
decoded_length r root decoded one two is =
    let e = sym one ∙ two in
    let same : root ≡ decoded = cc e in
    omega (arith, ap length same, is.has_32)

-- The line of a root is a line.
pub is_line : (root : List ℕ) → IsLine (line_of root)
is_line root = record {
  some = let size = length-append (codes "map ") (encode_of standard root) in omega (arith, size);
  no_newline = (
    λ e. omega (arith, e),
    (λ e. omega (arith, e), (λ e. omega (arith, e), (λ e. omega (arith, e), no_newline-encode root))),
  );
}

-- Roots of one line are one.
pub one_root : (a b : List ℕ) → IsDigest a → IsDigest b → line_of a ∷ [] ≡ line_of b ∷ [] → a ≡ b
one_root a b fa fb e =
    let line : line_of a ≡ line_of b = cc in
    let text : encode_of standard a ≡ encode_of standard b = ap (drop 4) line in
    let first = decode_of-encode_of standard a refl (digest_bytes a fa) in
    let second = decode_of-encode_of standard b refl (digest_bytes b fb) in
    let both = sym first ∙ ap (decode_of standard) text ∙ second in
    cc

-- A map's root is a digest.
root_digest : (k : ℕ) (held : List Bool → Option (List ℕ)) → IsDigest (root_of_levels sha256 (suc k) held)
unfolding root_of_levels
root_digest k held = IsDigest-sha256 _

pub map_digest : (m : SparseMap) → IsDigest (sparse_root sha256 256 m)
map_digest m = root_digest 255 (get m)

-- A registry's text says the line of its map's root: whoever looks for a root finds one,
pub own_root : {P : Type 0} {text : Said} (origin : List ℕ) (insertions : List (List ℕ × List ℕ))
    → text ≡ log.said_of (registry_of origin insertions)
    → ((root : List ℕ) → IsDigest root → text.extensions ≡ line_of root ∷ [] → P) → P
own_root origin insertions is looks = looks (sparse_root sha256 256 (map_of sha256 insertions))
    (map_digest (map_of sha256 insertions)) (ap (λ (t : Said). t.extensions) is)

-- and it is that one.
pub root_of_map : {text : Said} (origin root : List ℕ) (insertions : List (List ℕ × List ℕ))
    → text ≡ log.said_of (registry_of origin insertions) → IsDigest root × (text.extensions ≡ line_of root ∷ [])
    → root ≡ sparse_root sha256 256 (map_of sha256 insertions)
root_of_map origin root insertions is found = one_root root (sparse_root sha256 256 (map_of sha256 insertions)) found.0
    (map_digest (map_of sha256 insertions)) (sym found.1 ∙ ap (λ (t : Said). t.extensions) is)
