-- What a visit comes to where the pages are those of insertions.
use Rattle.std.specs.Prelude.{◌≡◌, ℕ, ◌-◌, ◌*◌, ◌^◌, ◌<◌, true, List, length, Option, Some}
use Rattle.std.specs.List.{All}
use Rattle.warg_crypto.specs.Digests.{IsByte}
use Rattle.warg_map.specs.Sparse.{root_of_levels, map_of}
use Rattle.warg_pages.specs.Prefixes.{bits_of_bytes, below, version}
use Rattle.warg_pages.specs.Slots.{SlotAt, slot_of}
use Rattle.warg_pages.specs.OwnPages.{AreOwnPages, stands}

-- A source has the pages of insertions, and one stands at a prefix of bytes, of this version and this digest.
pub record IsOwnFrom (H : List ℕ → List ℕ) (bytes_at : List ℕ → ℕ → Option (List ℕ)) (prefix : List ℕ) (number : ℕ)
    (digest : List ℕ) (insertions : List (List ℕ × List ℕ)) : Type 0 where
  pub pages : AreOwnPages H bytes_at insertions
  pub fits : length insertions < 2 ^ 64
  pub are_bytes : All IsByte prefix
  pub is_there : stands H insertions (bits_of_bytes prefix) ≡ true
  pub is_version : number ≡ version H insertions (bits_of_bytes prefix)
  pub is_digest : digest ≡ root_of_levels H (256 - 8 * length prefix) (below (map_of H insertions) (bits_of_bytes prefix))

-- A source has the pages of insertions, and this is a slot of the page at a prefix of bytes.
pub record IsOwnSlot (H : List ℕ → List ℕ) (bytes_at : List ℕ → ℕ → Option (List ℕ)) (prefix : List ℕ) (x : SlotAt)
    (insertions : List (List ℕ × List ℕ)) : Type 0 where
  pub pages : AreOwnPages H bytes_at insertions
  pub fits : length insertions < 2 ^ 64
  pub are_bytes : All IsByte prefix
  pub is_byte : x.byte < 256
  pub is_slot : slot_of H insertions (bits_of_bytes prefix) x.byte ≡ Some x
