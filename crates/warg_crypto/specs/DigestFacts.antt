-- Each digest function here gives digests, which its type hands in.
use Rattle.std.specs.Prelude.{◌≡◌, ℕ, zero, suc, ◌/◌, ◌%◌, ◌^◌, Bool, true, false, nat_eq, nat_lt, cond, List, [], ◌∷◌, sum, length, replicate, slice_index, refl}
use Rattle.std.specs.List.{All, list_all}
use Rattle.std.specs.Int.{w32, to_be_bytes, bytes_high_first, byte_at}
use Rattle.std.proofs.Common.{lit<}
use Rattle.std.proofs.lemmas.Bool.{eqb-true, ltb-true, and_parts}
use Rattle.std.proofs.lemmas.Nat.{mod_below}
use Rattle.std.proofs.lemmas.List.Elements.{All-nil, All-cons, All-append, All-replicate}
use Rattle.sha2.specs.Sha256.{sha256, digest_bytes}
use Rattle.sha2.proofs.Facts256.{length-sha256}
use Rattle.warg_crypto.specs.Digests.{IsByte, IsDigest}
use Rattle.warg_crypto.specs.WeakDigests.{byte_sum, same_or_sha256, zeros, are_32_bytes}

IsByte-mod : (n : ℕ) → IsByte (n % 256)
IsByte-mod n = mod_below n 256 (lit< tt)

IsByte-byte_at : (k n : ℕ) → IsByte (byte_at k n)
IsByte-byte_at zero n = IsByte-mod n
IsByte-byte_at (suc k) n = IsByte-mod (n / 256 ^ suc k)

are_bytes-bytes_high_first : (k n : ℕ) → All IsByte (bytes_high_first k n)
are_bytes-bytes_high_first zero n = All-nil IsByte
are_bytes-bytes_high_first (suc k) n = All-cons IsByte (byte_at k n) (bytes_high_first k n) (IsByte-byte_at k n) (are_bytes-bytes_high_first k n)

are_bytes-digest_bytes : (h : List ℕ) (n : ℕ) → All IsByte (digest_bytes h n)
unfolding digest_bytes
are_bytes-digest_bytes h zero = All-nil IsByte
are_bytes-digest_bytes h (suc n) =
    All-append IsByte (digest_bytes h n) (to_be_bytes w32 (slice_index h n)) (are_bytes-digest_bytes h n) (are_bytes-bytes_high_first 4 (slice_index h n))

-- SHA-256
pub IsDigest-sha256 : (m : List ℕ) → IsDigest (sha256 m)
unfolding sha256
IsDigest-sha256 m = record { has_32 = length-sha256 m; are_bytes = are_bytes-digest_bytes _ 8 }

-- the sum of the bytes
pub IsDigest-byte_sum : (m : List ℕ) → IsDigest (byte_sum m)
IsDigest-byte_sum m = record {
  has_32 = refl;
  are_bytes = All-append IsByte (replicate 31 0) (sum m % 256 ∷ []) (All-replicate IsByte 31 0 (lit< tt)) (All-cons IsByte (sum m % 256) [] (IsByte-mod (sum m)) (All-nil IsByte));
}

-- zeros
pub IsDigest-zeros : (m : List ℕ) → IsDigest (zeros m)
IsDigest-zeros m = record { has_32 = refl; are_bytes = All-replicate IsByte 32 0 (lit< tt) }

are_bytes-list_all : (m : List ℕ) → list_all (λ b. nat_lt b 256) m ≡ true → All IsByte m
are_bytes-list_all [] are = All-nil IsByte
are_bytes-list_all (b ∷ m) are =
    let parts = and_parts (nat_lt b 256) (list_all (λ b. nat_lt b 256) m) are in
    All-cons IsByte b m (ltb-true b 256 parts.0) (are_bytes-list_all m parts.1)

-- 32 bytes themselves, and SHA-256 of any others
pub IsDigest-same_or_sha256 : (m : List ℕ) → IsDigest (same_or_sha256 m)
IsDigest-same_or_sha256 m = by_test (are_32_bytes m) own
  where
    own : are_32_bytes m ≡ true → IsDigest m
    own are =
        let parts = and_parts (nat_eq (length m) 32) (list_all (λ b. nat_lt b 256) m) are in
        record { has_32 = eqb-true (length m) 32 parts.0; are_bytes = are_bytes-list_all m parts.1 }

    by_test : (b : Bool) → (b ≡ true → IsDigest m) → IsDigest (cond b m (sha256 m))
    by_test true is = is refl
    by_test false is = IsDigest-sha256 m
