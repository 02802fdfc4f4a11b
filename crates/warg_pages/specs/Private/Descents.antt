-- The way down through pages.
use Rattle.std.specs.Prelude.{◌≡◌, ℕ, zero, suc, ◌+◌, ◌-◌, ◌*◌, ◌^◌, ◌<◌, ◌≤◌, Bool, true, List, [], ◌∷◌, ◌++◌, length, slice_index, Option, Some, None, unwrap_or, IfSome}
use Rattle.std.specs.Option.{option_map}
use Rattle.std.specs.FinMap.{get}
use Rattle.warg_crypto.specs.EmptyTrees.{empty_root}
use Rattle.warg_crypto.specs.Tree.{input_beside}
use Rattle.warg_map.specs.Bits.{bits_from, last_bits}
use Rattle.warg_map.specs.Sparse.{root_of_levels, map_of}
use Rattle.warg_map.specs.Peers.{IsPeers}
use Rattle.warg_pages.specs.Prefixes.{below, version}
use Rattle.warg_pages.specs.Slots.{SlotAt}
use Rattle.warg_pages.specs.Pages.{digest_at, slot_height}
use Rattle.warg_pages.specs.PagePeers.{optional_peer}
use Rattle.warg_pages.specs.OwnPages.{AreOwnPages, stands}

-- The value at the top of bits that end at a height, from the value there. Peers run from the top to the bottom; one that is missing, or None, stands for the empty tree of its height.
unfoldable pub value_above : (List ℕ → List ℕ) → ℕ → List (Option (List ℕ)) → List ℕ → List Bool → List ℕ
value_above H n os x [] = x
value_above H n [] x (b ∷ bits) = H (input_beside b (empty_root H (length bits + n)) (value_above H n [] x bits))
value_above H n (o ∷ os) x (b ∷ bits) = H (input_beside b (unwrap_or o (empty_root H (length bits + n))) (value_above H n os x bits))

-- The digest of a lone key's tree of so many levels.
abbrev pub lone_root : (List ℕ → List ℕ) → List ℕ → List ℕ → ℕ → List ℕ
lone_root H key leaf k = value_above H 0 [] leaf (last_bits key k)

-- The peers of the heights below k in a page, beside the slot of a byte, from the top.
unfoldable pub peers_below : (List ℕ → List ℕ) → ℕ → List SlotAt → ℕ → ℕ → List (Option (List ℕ))
peers_below H depth slots s zero = []
peers_below H depth slots s (suc k) = optional_peer H depth slots s k ∷ peers_below H depth slots s k

-- The peers of a page beside the slot of a key digest's byte, from the top.
abbrev pub page_peers : (List ℕ → List ℕ) → ℕ → List SlotAt → List ℕ → List (Option (List ℕ))
page_peers H depth slots key = peers_below H depth slots (slice_index key depth) 8

-- The value to which they lead from the slot's digest.
abbrev pub page_value : (List ℕ → List ℕ) → ℕ → List SlotAt → List ℕ → List ℕ
page_value H depth slots key = value_above H (slot_height depth) (page_peers H depth slots key) (digest_at H (slot_height depth) slots (slice_index key depth)) (bits_from key (8 * depth) 8)

-- Some bits are held, and no others.
pub record HoldsAlone (held : List Bool → Option (List ℕ)) (bits : List Bool) (leaf : List ℕ) : Type 0 where
  pub this : held bits ≡ Some leaf
  pub others : (q : List Bool) → ¬ (q ≡ bits) → held q ≡ None

-- A lone key stands below a prefix of a key digest, with this digest of its tree: it begins with these bits, and nothing else is held below them.
pub record StandsAlone (H : List ℕ → List ℕ) (prefix : List Bool) (lone : List ℕ × List ℕ) (height : ℕ) (digest : List ℕ) (held : List Bool → Option (List ℕ)) : Type 0 where
  pub rest : List Bool
  pub begins : last_bits lone.0 256 ≡ prefix ++ rest
  pub alone : HoldsAlone held rest lone.1
  pub is_root : digest ≡ root_of_levels H height held

-- What a key's digest holds at the end of its way: nothing, or the index of an insertion and a leaf digest.
abbrev pub held_leaf : Option (ℕ × List ℕ) → Option (List ℕ)
held_leaf held = option_map (λ (h : ℕ × List ℕ). h.1) held

-- At a prefix of so many bytes of a key digest a source has the page of these insertions, of this version and this digest.
pub record IsOwnAt (H : List ℕ → List ℕ) (bytes_at : List ℕ → ℕ → Option (List ℕ)) (key : List ℕ) (depth : ℕ) (digest : List ℕ) (number : ℕ) (insertions : List (List ℕ × List ℕ)) : Type 0 where
  pub pages : AreOwnPages H bytes_at insertions
  pub fits : length insertions < 2 ^ 64
  pub is_there : stands H insertions (bits_from key 0 (8 * depth)) ≡ true
  pub is_version : number ≡ version H insertions (bits_from key 0 (8 * depth))
  pub is_digest : digest ≡ root_of_levels H (256 - 8 * depth) (below (map_of H insertions) (bits_from key 0 (8 * depth)))

-- The peers from a prefix of a key digest on, from the top, are those of the map of these insertions, and what is held is what the map holds, by the last insertion under this digest.
pub record IsOwnWay (H : List ℕ → List ℕ) (insertions : List (List ℕ × List ℕ)) (key : List ℕ) (depth : ℕ) (peers : List (Option (List ℕ))) (held : Option (ℕ × List ℕ)) : Type 0 where
  pub are_peers : IsPeers H (λ k. None) (below (map_of H insertions) (bits_from key 0 (8 * depth))) (last_bits key (256 - 8 * depth)) peers
  pub is_leaf : get (map_of H insertions) (last_bits key 256) ≡ held_leaf held
  pub is_index : IfSome held (λ h. h.0 + 1 ≡ version H insertions (last_bits key 256))

-- The way down from a prefix of a key digest: the peers lead from what is held to the digest there.
pub record IsWayDown (H : List ℕ → List ℕ) (key : List ℕ) (depth : ℕ) (digest : List ℕ) (peers : List (Option (List ℕ))) (held : Option (ℕ × List ℕ)) : Type 0 where
  pub few : length peers ≤ 256 - 8 * depth
  pub leads : value_above H 0 peers (unwrap_or (held_leaf held) (empty_root H 0)) (last_bits key (256 - 8 * depth)) ≡ digest

-- Where the way down ends at the lone key of a slot: the further peers lead from what is held to the slot's digest, and where the lone key stands alone there, they are those of the key digest.
pub record EndsAt (H : List ℕ → List ℕ) (key : List ℕ) (depth : ℕ) (slot : SlotAt) (lone : List ℕ × List ℕ) (more : List (Option (List ℕ))) (held : Option (ℕ × List ℕ)) : Type 0 where
  pub few : length more ≤ slot_height depth
  pub leads : value_above H 0 more (unwrap_or (held_leaf held) (empty_root H 0)) (last_bits key (slot_height depth)) ≡ slot.digest
  pub own : (f : List Bool → Option (List ℕ)) → StandsAlone H (bits_from key 0 (8 * depth + 8)) lone (slot_height depth) slot.digest f
      → IsPeers H (λ k. None) f (last_bits key (slot_height depth)) more × (f (last_bits key (slot_height depth)) ≡ held_leaf held)
  pub index : IfSome held (λ h. (h.0 + 1 ≡ slot.version) × (last_bits key 256 ≡ last_bits lone.0 256))

-- The lone key of a slot doesn't stand alone there, or its version is 0.
abbrev pub IsNoLoneKey : (List ℕ → List ℕ) → List ℕ → ℕ → SlotAt → List ℕ × List ℕ → Type 0
IsNoLoneKey H key depth slot lone = (f : List Bool → Option (List ℕ)) → StandsAlone H (bits_from key 0 (8 * depth + 8)) lone (slot_height depth) slot.digest f → 0 < slot.version → ⊥
