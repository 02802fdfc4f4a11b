-- Digests, and the digest function of `Sha256`: SHA-256 as FIPS 180-4 states it.
use Rattle.std.specs.Prelude.{◌≡◌, ℕ, ◌<◌, List, length}
use Rattle.std.specs.List.{All}
pub use Rattle.sha2.specs.Sha256.{sha256}

-- a byte is a number below 256
abbrev pub IsByte : ℕ → Type 0
IsByte b = b < 256

-- a digest is 32 bytes
pub record IsDigest (digest : List ℕ) : Type 0 where
  pub has_32 : length digest ≡ 32
  pub are_bytes : All IsByte digest
