-- What a run was told so far, and the log and the map that this stands for.
use Rattle.std.specs.Prelude.{◌≡◌, ℕ, ◌-◌, ◌^◌, false, List, [], ◌∷◌, ◌++◌, length}
use Rattle.std.specs.FinMap as finite
use Rattle.warg_crypto.specs.Digests.{sha256}
use Rattle.warg_log.specs.Tree.{leaves_of}
use Rattle.warg_map.specs.Bits.{key_bits}
use Rattle.warg_map.specs.Sparse.{SparseMap, map_of}
use Rattle.warg_program.specs.Orders.{Order, push, insert, Line, empty, bad, good}

-- The entries pushed and the insertions made, each in order.
pub record State : Type 0 where
  pub entries : List (List ℕ)
  pub insertions : List (List ℕ × List ℕ)

-- At the start there are none.
abbrev pub start : State
start = record { entries = []; insertions = [] }

-- The log of a state, as its leaf digests.
abbrev pub log_at : State → List (List ℕ)
log_at s = leaves_of sha256 s.entries

-- The map of a state.
abbrev pub map_at : State → SparseMap
map_at s = map_of sha256 s.insertions

-- The state after an order.
abbrev pub after : State → Order → State
after s (push entry) = record { entries = s.entries ++ entry ∷ []; insertions = s.insertions }
after s (insert key value) = record { entries = s.entries; insertions = s.insertions ++ (key, value) ∷ [] }
after s order = s

-- The state after a line.
abbrev pub after_line : State → Line → State
after_line s empty = s
after_line s bad = s
after_line s (good order) = after s order

-- An order finds no room: a push a log of 2 ^ 63 entries, or an insertion of a new key digest a map of 2 ^ 64 - 1.
abbrev pub FindsFull : State → Order → Type 0
FindsFull s (push entry) = length s.entries ≡ 2 ^ 63
FindsFull s (insert key value) = (finite.len (map_at s) ≡ 2 ^ 64 - 1) × (finite.contains_key (map_at s) (key_bits sha256 key) ≡ false)
FindsFull s order = ⊥
