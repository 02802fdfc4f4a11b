-- The pages that insertions change.
use Rattle.std.specs.Prelude.{◌≡◌, ◌≢◌, ℕ, ◌+◌, ◌<◌, true, List, [], ◌∷◌, ◌++◌, length, None}
use Rattle.std.specs.List.{All, AllPairs, Contains}
use Rattle.warg_crypto.specs.Digests.{IsByte}
use Rattle.warg_map.specs.Last.{last_with}
use Rattle.warg_pages.specs.Prefixes.{bits_of_bytes, is_below, version}
use Rattle.warg_pages.specs.Slots.{SlotAt, page_of}
use Rattle.warg_pages.specs.Pages.{digest_at, slot_height, slot_at, page_digest}
use Rattle.warg_pages.specs.OwnPages.{stands}

-- A page that is handed out: the bytes of its prefix, its version, and its slots.
pub record ChangedPageAt : Type 0 where
  pub prefix : List ℕ
  pub version : ℕ
  pub page : List SlotAt

-- The page of insertions at a prefix of bytes, with its version.
abbrev pub page_at : (List ℕ → List ℕ) → List (List ℕ × List ℕ) → List ℕ → ChangedPageAt
page_at H insertions prefix = record {
  prefix = prefix;
  version = version H insertions (bits_of_bytes prefix);
  page = page_of H insertions (bits_of_bytes prefix);
}

-- Insertions behind others change the page at a prefix: it stands, and the last insertion below it is one of them.
pub record ChangesAt (H : List ℕ → List ℕ) (old more : List (List ℕ × List ℕ)) (prefix : List ℕ) : Type 0 where
  pub are_bytes : All IsByte prefix
  pub short : length prefix < 32
  pub is_there : stands H (old ++ more) (bits_of_bytes prefix) ≡ true
  pub later : length old < version H (old ++ more) (bits_of_bytes prefix)

-- The pages that insertions behind others change, each once.
pub record AreChangedPages (H : List ℕ → List ℕ) (old more : List (List ℕ × List ℕ)) (pages : List ChangedPageAt) : Type 0 where
  pub each : All (λ c. ChangesAt H old more c.prefix × (c ≡ page_at H (old ++ more) c.prefix)) pages
  pub all : (prefix : List ℕ) → ChangesAt H old more prefix → Contains pages (page_at H (old ++ more) prefix)
  pub once : AllPairs (λ c d. c.prefix ≢ d.prefix) pages

-- What stood at a prefix below a root, by digests alone: at the empty prefix slots with this root, and one byte further slots with the digest of that byte.
pub data StoodAt (H : List ℕ → List ℕ) (root : List ℕ) : List ℕ → List SlotAt → Type 0 where
  first : (slots : List SlotAt) → page_digest H 0 slots ≡ root → StoodAt H root [] slots
  below : (prefix : List ℕ) (above slots : List SlotAt) (byte : ℕ) → StoodAt H root prefix above → page_digest H (length prefix + 1) slots ≡ digest_at H (slot_height (length prefix)) above byte
      → StoodAt H root (prefix ++ byte ∷ []) slots

-- A page is what stood at its prefix, but for the slots with an insertion below them.
pub record ChangesWhatStood (H : List ℕ → List ℕ) (root : List ℕ) (more : List (List ℕ × List ℕ)) (c : ChangedPageAt) : Type 0 where
  pub before : List SlotAt
  pub stood : StoodAt H root c.prefix before
  pub others : (byte : ℕ) → byte < 256 → last_with (is_below H (bits_of_bytes (c.prefix ++ byte ∷ []))) more ≡ None → slot_at c.page byte ≡ slot_at before byte
