-- What a client finds over a registry's own pages and entries.
use Rattle.std.proofs.Common.{◌≡◌, ℕ, ◌<◌, true, false, List, length, get_or, map, Option, Some, None, MatchOption, Bor, is_some, refl, sym, ap, ◌∙◌, subst, arith}
use Rattle.std.specs.Prelude.{◌≢◌, slice_get}
use Rattle.std.specs.Option.{option_map}
use Rattle.std.specs.FinMap.{get}
use Rattle.std.proofs.lemmas.List.{length-map}
use Rattle.std.proofs.lemmas.Option.{slice_get_within, slice_get-map, slice_get_read}
use Rattle.warg_crypto.specs.Tree.{leaf_digest}
use Rattle.warg_map.specs.Bits.{key_bits}
use Rattle.warg_map.specs.Last.{last_under}
use Rattle.warg_map.specs.Peers.{ProvesAbsent}
use Rattle.warg_map.specs.Sparse.{map_of}
use Rattle.warg_map.proofs.ForCallers.{last_held}
use Rattle.warg_registry.specs.Insertions.{entry_of, entries_of, IsInsertion}
use Rattle.warg_registry.proofs.ForCallers.{one_insertion}

-- A key that was inserted isn't absent.
pub not_absent : (H : List ℕ → List ℕ) (insertions : List (List ℕ × List ℕ)) (key value : List ℕ)
    (peers : List (Option (List ℕ))) → ProvesAbsent H (map_of H insertions) (key_bits H key) peers
    → last_under H (key_bits H key) insertions ≡ Some (key, value) → ⊥
not_absent H insertions key value peers proof own =
    let held : get (map_of H insertions) (key_bits H key) ≡ Some (leaf_digest H value) =
    last_held H (key_bits H key) insertions ∙ ap (option_map (λ e. leaf_digest H e.1)) own in
    let no : true ≡ false = sym (ap is_some held) ∙ proof.absent in
    cc

-- An entry of the insertions is one of the entries.
pub within : {X : Type 0} (bytes : X → List ℕ) (entries : List X) (insertions : List (List ℕ × List ℕ)) (index : ℕ)
    (entry : List ℕ) → map bytes entries ≡ entries_of insertions
    → slice_get (entries_of insertions) index ≡ Some entry → index < length entries
within bytes entries insertions index entry all at =
    omega (arith, slice_get_within (entries_of insertions) index entry at, ap length all, length-map entries bytes)

-- And what stands there is it.
pub entry_is : {X : Type 0} (bytes : X → List ℕ) (entries : List X) (insertions : List (List ℕ × List ℕ)) (index : ℕ)
    (x : X) (entry : List ℕ) → map bytes entries ≡ entries_of insertions → index < length entries
    → x ≡ get_or entries index x → slice_get (entries_of insertions) index ≡ Some entry → bytes x ≡ entry
entry_is bytes entries insertions index x entry all low is at =
    let read : slice_get (map bytes entries) index ≡ Some (bytes x) = slice_get-map bytes entries index
    ∙ ap (option_map bytes) (slice_get_read entries (length entries) index x refl low is) in
    let both : Some (bytes x) ≡ Some entry = sym read ∙ ap (λ l. slice_get l index) all ∙ at in
    cc

-- The value that is found in the entry of an insertion under the key is that of the insertion.
pub value_found : (H : List ℕ → List ℕ) (entry key name value leaf : List ℕ) (found : Option (Bor (List ℕ)))
    → MatchOption found
    ((v : List ℕ) → IsInsertion (key, v) → entry ≡ entry_of (key, v) → leaf_digest H v ≢ leaf)
    (λ v. (entry ≡ entry_of (key, v.now)) × (leaf_digest H v.now ≡ leaf))
    → key ≡ name → IsInsertion (name, value) → entry ≡ entry_of (name, value) → leaf_digest H value ≡ leaf
    → MatchOption found ⊥ (λ v. v.now ≡ value)
value_found H entry key name value leaf None none called fine is same =
    let short = subst (λ k. IsInsertion (k, value)) (sym called) fine in
    none value short (is ∙ ap (λ k. entry_of (k, value)) (sym called)) same
value_found H entry key name value leaf (Some v) some called fine is same =
    let one = one_insertion (name, value) (key, v.now) fine (sym is ∙ some.0) in
    ap (λ e. e.1) (sym one)
