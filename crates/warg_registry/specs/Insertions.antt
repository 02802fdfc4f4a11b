-- Insertions, each a key and a value, and the entries under which a log keeps them.
use Rattle.std.specs.Prelude.{◌≡◌, ◌≢◌, ℕ, List, [], ◌∷◌, ◌++◌, map}
use Rattle.warg_crypto.specs.Framed.{framed, framed_part, IsPart}
use Rattle.warg_registry.specs.declared.error.InsertionFault.{InsertionFault}
use Rattle.warg_registry.specs.declared.error.InsertionFault.TheVariants.{Key, Value, Longer}

-- The entry of an insertion: its key and its value, each behind its length.
abbrev pub entry_of : List ℕ × List ℕ → List ℕ
entry_of e = framed (e.0 ∷ e.1 ∷ [])

-- The entries of insertions, in order.
abbrev pub entries_of : List (List ℕ × List ℕ) → List (List ℕ)
entries_of insertions = map entry_of insertions

-- An insertion whose key and value have lengths that 8 bytes can say.
abbrev pub IsInsertion : List ℕ × List ℕ → Type 0
IsInsertion e = IsPart e.0 × IsPart e.1

-- Bytes begin with no part behind its length.
abbrev pub HasNoPart : List ℕ → Type 0
HasNoPart bytes = (part more : List ℕ) → IsPart part → bytes ≢ framed_part part ++ more

-- What is wrong with bytes that are no entry: no key stands at their front, no value behind it, or more behind both.
abbrev pub IsFault : List ℕ → InsertionFault → Type 0
IsFault bytes Key = HasNoPart bytes
IsFault bytes Value = (key more : List ℕ) × IsPart key × (bytes ≡ framed_part key ++ more) × HasNoPart more
IsFault bytes Longer =
    (e : List ℕ × List ℕ) × (more : List ℕ) × IsInsertion e × (bytes ≡ entry_of e ++ more) × (more ≢ [])
