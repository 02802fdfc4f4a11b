-- Logs that stand for the leaf digests of some entries.
use Rattle.std.proofs.Common.{◌≡◌, ℕ, List, [], ◌∷◌, ◌++◌, length, map, take, get_or, append_assoc, sym, ◌∙◌, ◌+◌, ◌<◌, Result, Ok, Err}
use Rattle.std.specs.Result.{OnOk}
use Rattle.std.specs.Prelude.{IfOk}
use Rattle.std.proofs.lemmas.List.{map-append, length-map}
use Rattle.warg_crypto.specs.Digests.{sha256}
use Rattle.warg_log.specs.Claims.{RootAndLength}
use Rattle.warg_log.specs.Tree.{root_of, leaves_of}
use Rattle.warg_tiles.specs.TileLog.{RightEdge, StandsFor}
use Rattle.warg_store.proofs.ListLemmas.{next_mapped}
use Rattle.warg_store.specs.Audited.{HasEntries, IsOfEntries}

-- a fact holds where a call is done, too
pub ok_holds : {T E : Type 0} (r : Result T E) (P : Type 0) → P → OnOk r P
ok_holds (Ok value) P holds = holds
ok_holds (Err error) P holds = tt

-- two facts of a call that is done, together
pub ok_and : {T E : Type 0} (r : Result T E) (P Q : Type 0) → OnOk r P → OnOk r Q → OnOk r (P × Q)
ok_and (Ok value) P Q one two = (one, two)
ok_and (Err error) P Q one two = tt

-- what two facts say of a call that is done, together
pub ok_both : {T E : Type 0} (r : Result T E) (Q : Type 0) (P R : T → Type 0) → OnOk r Q → IfOk r P
    → ((value : T) → Q → P value → R value) → IfOk r R
ok_both (Ok value) Q P R one two more = more value one two
ok_both (Err error) Q P R one two more = tt

-- One entry more leaves a log of entries.
pub one_more : (old new : RightEdge) (entry : List ℕ)
    → ((ds : List (List ℕ)) → StandsFor sha256 old ds → StandsFor sha256 new (ds ++ sha256 (0 ∷ entry) ∷ []))
    → (es : List (List ℕ)) → StandsFor sha256 old (leaves_of sha256 es)
    → StandsFor sha256 new (leaves_of sha256 (es ++ entry ∷ []))
one_more old new entry stands es was =
    rw (map-append (λ (e : List ℕ). sha256 (0 ∷ e)) es (entry ∷ [])) (stands (leaves_of sha256 es) was)

-- So do the entries of a list, one after the other.
pub next_more : {X : Type 0} (entry_of : X → List ℕ) (first old new : RightEdge) (xs : List X) (i : ℕ) (x : X)
    → i < length xs → x ≡ get_or xs i x
    → ((es : List (List ℕ)) → StandsFor sha256 first (leaves_of sha256 es)
    → StandsFor sha256 old (leaves_of sha256 (es ++ map entry_of (take i xs))))
    → ((es : List (List ℕ)) → StandsFor sha256 old (leaves_of sha256 es)
    → StandsFor sha256 new (leaves_of sha256 (es ++ entry_of x ∷ [])))
    → (es : List (List ℕ)) → StandsFor sha256 first (leaves_of sha256 es)
    → StandsFor sha256 new (leaves_of sha256 (es ++ map entry_of (take (i + 1) xs)))
next_more {X = X} entry_of first old new xs i x below is so_far more es was =
    rw (next_mapped entry_of xs i x below is, ← append_assoc es (map entry_of (take i xs)) (entry_of x ∷ []))
    (more (es ++ map entry_of (take i xs)) (so_far es was))

-- The checkpoint of a log of entries is theirs.
pub of_entries : (log : RightEdge) (checkpoint : RootAndLength)
    → ((ds : List (List ℕ)) → StandsFor sha256 log ds → checkpoint.root ≡ root_of sha256 ds)
    → checkpoint.length ≡ log.len → HasEntries log → IsOfEntries checkpoint
of_entries log checkpoint root count has =
    let leaves : length (leaves_of sha256 has.0) ≡ log.len = has.1.count in (
      has.0,
      sym (length-map has.0 (λ (e : List ℕ). sha256 (0 ∷ e))) ∙ leaves ∙ sym count,
      sym (root (leaves_of sha256 has.0) has.1),
    )
