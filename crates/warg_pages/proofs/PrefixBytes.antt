-- Prefixes of bytes, by their bits.
use Rattle.std.proofs.Common.{◌≡◌, ℕ, suc, ◌+◌, ◌*◌, ◌/◌, ◌%◌, ◌<◌, Bool, true, false, ◌&&◌, eqb, List, [], ◌∷◌, ◌++◌, length, refl, sym, ap, ◌∙◌, arith, inl, inr, length-append, take, ◌≤◌}
use Rattle.std.proofs.lemmas.Bool.Decides.{eqb_tells}
use Rattle.std.proofs.lemmas.List.{get_or_append_left, get_or-append-add, length-take}
use Rattle.std.specs.Prelude.{slice_index}
use Rattle.std.specs.List.{All}
use Rattle.warg_crypto.specs.Digests.{IsDigest, IsByte}
use Rattle.warg_map.specs.Bits.{bit_at, bits_from, last_bits}
use Rattle.warg_pages.specs.Prefixes.{bits_of_bytes, byte_bits, begins}
use Rattle.warg_pages.specs.Pages.{slot_height}
use Rattle.warg_pages.proofs.ByteNumbers.{number, number-byte_bits}
use Rattle.warg_pages.proofs.PageFormat.{same_parts}
use Rattle.warg_pages.proofs.KeyPrefixes.{length-bits_from, bits_from-append, bits_from-same, key_split}
use Rattle.warg_pages.proofs.HeldHalves.{begins-rest}
use Rattle.warg_pages.proofs.PageRoots.{longer}
use Rattle.warg_pages.proofs.OneMore.{own_byte, other_byte}
use Rattle.warg_pages.proofs.BitParts.{key_at}
use Rattle.warg_pages.proofs.OwnDescent.{bits_of_taken}
use Rattle.std.proofs.lemmas.List.Elements.{All-take}

pub length-bits : (bytes : List ℕ) → length (bits_of_bytes bytes) ≡ 8 * length bytes
length-bits bytes = length-bits_from bytes 0 _

-- the bits of two parts
pub bits-append : (a b : List ℕ) → bits_of_bytes (a ++ b) ≡ bits_of_bytes a ++ bits_of_bytes b
bits-append a b =
    let all : 8 * length (a ++ b) ≡ 8 * length a + 8 * length b = rw (length-append a b) (omega arith) in
    rw (
      all,
      bits_from-append (a ++ b) 0 (8 * length a) (8 * length b),
      bits_from-same (a ++ b) a 0 0 (8 * length a) front,
      bits_from-same (a ++ b) b (0 + 8 * length a) 0 (8 * length b) back,
    ) refl
  where
    front : (m : ℕ) → m < 8 * length a → bit_at (a ++ b) (0 + m) ≡ bit_at a (0 + m)
    front m lt = let low : (0 + m) / 8 < length a = omega arith in rw (get_or_append_left a b 0 _ low) refl

    back : (m : ℕ) → m < 8 * length b → bit_at (a ++ b) (0 + 8 * length a + m) ≡ bit_at b (0 + m)
    back m lt =
        let place : (0 + 8 * length a + m) / 8 ≡ length a + (0 + m) / 8 = omega arith in
        let rest : (0 + 8 * length a + m) % 8 ≡ (0 + m) % 8 = omega arith in
        rw (place, rest, get_or-append-add a b _ 0) refl

pub bits-more : (bytes : List ℕ) (s : ℕ) → bits_of_bytes (bytes ++ s ∷ []) ≡ bits_of_bytes bytes ++ byte_bits s
bits-more bytes s = bits-append bytes _

-- a key digest below a prefix goes on with its byte there
pub begins-more : (k : List ℕ) (p : List Bool) (depth s : ℕ) → IsDigest k → length p ≡ 8 * depth → depth < 32 → s < 256
    → begins (p ++ byte_bits s) (last_bits k 256) ≡ (begins p (last_bits k 256) && eqb (slice_index k depth) s)
begins-more k p depth s is size lt byte = either (begins p _) refl
  where
    split : last_bits k 256 ≡ bits_from k 0 (8 * depth) ++
        (byte_bits (slice_index k depth) ++ last_bits k (slot_height depth))
    split = key_split (λ _. k) [] depth lt

    fits : slice_index k depth < 256
    fits = is.are_bytes depth 0 (omega arith)

    either : (b : Bool) → begins p (last_bits k 256) ≡ b → begins (p ++ byte_bits s) (last_bits k 256)
        ≡ (b && eqb (slice_index k depth) s)
    either false f = longer p _ _ f
    either true h =
        let rest = begins-rest p _ h in
        let parts = same_parts p rest.0 _ _ (size ∙ sym (length-bits_from k 0 _)) (sym rest.1 ∙ split) in
        let whole : last_bits k 256 ≡ p ++ (byte_bits (slice_index k depth) ++ last_bits k
        (slot_height depth)) = rw parts.0 split in
        elim (eqb_tells (slice_index k depth) s) [
          | inl same ↦ rw whole
              (ap (λ n. begins (p ++ byte_bits s) (p ++ (byte_bits n ++ last_bits k (slot_height depth)))) same.1
              ∙ own_byte p _ s ∙ sym same.0)
          | inr apart ↦ rw whole (other_byte p _ _ s fits byte (λ e. apart.1 (sym e)) ∙ sym apart.0)
        ]

-- bytes whose bits are the same
pub same_bytes : (a b : List ℕ) → All IsByte a → All IsByte b → length a ≡ length b → bits_of_bytes a ≡ bits_of_bytes b
    → a ≡ b
same_bytes [] [] all other n e = refl
same_bytes [] (y ∷ b) all other n e = absurd (omega arith)
same_bytes (x ∷ a) [] all other n e = absurd (omega arith)
same_bytes (x ∷ a) (y ∷ b) all other n e =
    let parts = same_parts _ _ _ _ (length-bits_from _ 0 8 ∙ sym (length-bits_from _ 0 8)) (sym (bits-append _ a) ∙ e
    ∙ bits-append _ b) in
    let first : x ≡ y = sym (number-byte_bits x (all 0 0 (omega arith))) ∙ ap number parts.0
    ∙ number-byte_bits y (other 0 0 (omega arith)) in
    let rest = same_bytes a b (λ i d lt. all (suc i) d (omega arith)) (λ i d lt. other (suc i) d (omega arith))
    (omega arith) parts.1 in
    λ i. first i ∷ rest i

-- a key digest below a prefix begins with its bytes
pub taken_is : (k prefix : List ℕ) → IsDigest k → All IsByte prefix → length prefix ≤ 32
    → begins (bits_of_bytes prefix) (last_bits k 256) ≡ true → take (length prefix) k ≡ prefix
taken_is k prefix is bytes short under =
    let size = is.has_32 in
    let rest = begins-rest _ _ under in
    let bits = (same_parts (bits_of_bytes prefix) rest.0 _ _ (length-bits prefix ∙ sym (length-bits_from k 0 _))
    (sym rest.1 ∙ key_at k (8 * length prefix) (omega arith))).0 in
    let taken : length (take (length prefix) k) ≡ length prefix = omega (arith, length-take (length prefix) k) in
    same_bytes _ prefix (All-take IsByte (length prefix) k is.are_bytes) bytes taken
    (bits_of_taken k (length prefix) (omega arith) ∙ sym bits)
