-- A registry's entries, one after the other, beside the pages of its map.
use Rattle.std.proofs.Common.{◌≡◌, ℕ, ◌+◌, ◌≤◌, Bool, true, false, true≢false, cond, not, ◌&&◌, eqb, List, [], ◌∷◌, ◌++◌, length, take, refl, sym, ap, subst, ◌∙◌, arith}
use Rattle.std.proofs.lemmas.Bool.{and_parts}
use Rattle.std.proofs.lemmas.Bool.Decides.{Decides-eqb}
use Rattle.std.proofs.lemmas.List.{length-map, map-append, length-take-le}
use Rattle.std.specs.Cmp.Lexicographic.{pointwise, bytes_decides}
use Rattle.warg_crypto.specs.Digests.{sha256}
use Rattle.warg_crypto.specs.Tree.{leaf_digest}
use Rattle.warg_log.specs.Blocks.{Blocks, StandsFor}
use Rattle.warg_log.specs.Claims.{RootAndLength}
use Rattle.warg_log.specs.Tree.{leaves_of, root_of}
use Rattle.warg_pages.specs.Audits.{IsInPages, AreInPages}
use Rattle.warg_pages.specs.ChangedPages.{ChangedPageAt}
use Rattle.warg_pages.specs.Visits.{IsAllowed, lone_slots}
use Rattle.warg_pages.proofs.ForCallers.{audited, AreInPages-push, count_last-push, length_versions}
use Rattle.warg_store.specs.Audited.{IsOfEntries}
use Rattle.warg_store.specs.Log.{said_of}
use Rattle.warg_store.specs.Reading.{checkpoint_said}
use Rattle.warg_folder.specs.Files.{Files}
use Rattle.warg_registry.specs.Auditing.{AreAllInFiles, AreOfRegistry, AreReplayed}
use Rattle.warg_registry.specs.Folder.{page_read, registry_of}
use Rattle.warg_registry.specs.Insertions.{entry_of, entries_of}

-- no entry yet
pub none_replayed : {IsFaithful : Type 0} {files : Files} {version : ℕ} {log : Blocks} → StandsFor sha256 log []
    → AreReplayed IsFaithful files version log 0 []
unfolding AreInPages
none_replayed stands = record {
  entries = stands;
  in_pages = λ faithful root all led. ([], tt, refl);
}

-- the same files, where a device is faithful
pub replayed_at : {IsFaithful : Type 0} {files others : Files} {version number : ℕ} {log : Blocks} {last : ℕ}
    {es : List (List ℕ × List ℕ)} → (IsFaithful → files ≡ others) → version ≡ number
    → AreReplayed IsFaithful files version log last es → AreReplayed IsFaithful others number log last es
replayed_at same at was = record {
  entries = was.entries;
  in_pages = λ faithful root all led. was.in_pages faithful root all
      (subst (λ (was : Files × ℕ). AreAllInFiles was.0 root was.1 all) (λ i. (sym (same faithful) i, sym at i)) led);
}

-- as many entries as the log has
pub replayed_length : {IsFaithful : Type 0} {files : Files} {version : ℕ} {log : Blocks} {last : ℕ}
    {es : List (List ℕ × List ℕ)} (entries : List (List ℕ)) (n : ℕ) → AreReplayed IsFaithful files version log last es
    → entries_of es ≡ take n entries → n ≤ length entries → log.len ≡ n
replayed_length {es = es} entries n was are le = sym was.entries.count
    ∙ length-map (entries_of es) (leaf_digest sha256) ∙ ap length are ∙ length-take-le n entries le

-- What the pages say of an entry's insertion: whether it is the last one of its key.
abbrev pub IsLastBy : Type 0 → Files → ℕ → ℕ → List ℕ × List ℕ → Bool → Type 0
IsLastBy IsFaithful files version index e last = IsFaithful → (root : List ℕ) (all : List ChangedPageAt)
    → AreAllInFiles files root version all → (number : ℕ) × IsInPages sha256 all index e number
    × (last ≡ eqb number (index + 1))

-- an entry more
pub one_replayed : {IsFaithful : Type 0} {files : Files} {version : ℕ} {log new : Blocks} {last after : ℕ}
    {es : List (List ℕ × List ℕ)} {e : List ℕ × List ℕ} (is_last : Bool)
    → ((ds : List (List ℕ)) → StandsFor sha256 log ds
    → StandsFor sha256 new (ds ++ leaf_digest sha256 (entry_of e) ∷ []))
    → IsLastBy IsFaithful files version log.len e is_last → after ≡ last + cond is_last 1 0
    → AreReplayed IsFaithful files version log last es → AreReplayed IsFaithful files version new after (es ++ e ∷ [])
one_replayed {log = log} {new = new} {es = es} {e = e} is_last stands by counts was = record {
  entries = rw leaves (stands (leaves_of sha256 (entries_of es)) was.entries);
  in_pages = λ faithful root all led.
      let old = was.in_pages faithful root all led in
      let one = by faithful root all led in
      let size : length old.0 ≡ log.len = length_versions sha256 all 0 es old.0 old.1 ∙ many in
      let index : log.len ≡ 0 + length es = omega (arith, many) in
      let last_place : log.len + 1 ≡ 0 + length old.0 + 1 = omega (arith, size) in (
        old.0 ++ one.0 ∷ [],
        AreInPages-push sha256 all 0 es old.0 e one.0 old.1 (rw index at one.1),
        counts ∙ (λ i. old.2 i + cond ((one.2 ∙ ap (eqb one.0) last_place) i) 1 0)
            ∙ sym (count_last-push 0 old.0 one.0),
      );
}
  where
    many : length es ≡ log.len
    many = sym (length-map es entry_of) ∙ sym (length-map (entries_of es) (leaf_digest sha256)) ∙ was.entries.count

    leaves : leaves_of sha256 (entries_of (es ++ e ∷ []))
        ≡ leaves_of sha256 (entries_of es) ++ leaf_digest sha256 (entry_of e) ∷ []
    leaves = rw (map-append entry_of es (e ∷ [])) (map-append (leaf_digest sha256) (entries_of es) (entry_of e ∷ []))

-- two checkpoints by `!=`
abbrev are_same : RootAndLength → RootAndLength → Bool
are_same a b = (pointwise eqb a.root b.root && true) && eqb a.length b.length

pub same_checkpoints : (a b : RootAndLength) → false ≡ not (are_same a b) → (a.root ≡ b.root) × (a.length ≡ b.length)
same_checkpoints a b e =
    let both = and_parts (pointwise eqb a.root b.root && true) (eqb a.length b.length) (negated _ (sym e)) in
    let root = and_parts (pointwise eqb a.root b.root) true both.0 in
    ((bytes_decides a.root b.root).0 root.0, (Decides-eqb a.length b.length).0 both.1)
  where
    negated : (b : Bool) → not b ≡ false → b ≡ true
    negated true h = refl
    negated false h = absurd (cc)

pub other_checkpoints : (a b : RootAndLength) → true ≡ not (are_same a b) → a.root ≡ b.root → a.length ≡ b.length → ⊥
other_checkpoints a b e root size =
    let roots = (bytes_decides a.root b.root).1 root in
    let sizes = (Decides-eqb a.length b.length).1 size in
    let all : are_same a b ≡ true = λ i. (roots i && true) && sizes i in
    true≢false (e ∙ ap not all)

module _ {IsFaithful : Type 0} {files : Files} {version : ℕ} {log : Blocks} {last : ℕ}
    {es : List (List ℕ × List ℕ)} (found checkpoint : RootAndLength)
    (was : AreReplayed IsFaithful files version log last es)
    (is_root : (ds : List (List ℕ)) → StandsFor sha256 log ds → found.root ≡ root_of sha256 ds)
    (is_length : found.length ≡ log.len) where
  many : length (entries_of es) ≡ found.length
  many = sym (length-map (entries_of es) (leaf_digest sha256)) ∙ was.entries.count ∙ sym is_length

  root_is : root_of sha256 (leaves_of sha256 (entries_of es)) ≡ found.root
  root_is = sym (is_root (leaves_of sha256 (entries_of es)) was.entries)

  -- the log is that of the entries
  pub of_entries : (found.root ≡ checkpoint.root) × (found.length ≡ checkpoint.length) → IsOfEntries checkpoint
  of_entries same = (entries_of es, many ∙ same.1, root_is ∙ same.0)

  -- and the map that of the insertions
  pub of_insertions : (found.root ≡ checkpoint.root) × (found.length ≡ checkpoint.length) → {root : List ℕ} {keys : ℕ}
      (all : List ChangedPageAt) → IsFaithful → AreAllInFiles files root version all
      → keys ≡ length (lone_slots all) → last ≡ keys → AreOfRegistry checkpoint root es
  of_insertions same {root} all faithful led held counted =
      let in_pages = was.in_pages faithful root all led in record {
        count = sym (length-map es entry_of) ∙ many ∙ same.1;
        log_root = root_is ∙ same.0;
        map_root = audited sha256 (IsAllowed (page_read files) (true ≡ true)) root version es all in_pages.0
            led in_pages.1 (sym in_pages.2 ∙ counted ∙ held);
      }

  -- of the entries of a log the checkpoint is the log's
  pub own_checkpoint : (origin : List ℕ) (insertions : List (List ℕ × List ℕ)) → entries_of es ≡ entries_of insertions
      → checkpoint ≡ checkpoint_said (said_of (registry_of origin insertions))
      → (found.root ≡ checkpoint.root) × (found.length ≡ checkpoint.length)
  own_checkpoint origin insertions same is = (
    sym root_is ∙ ap (λ entries. root_of sha256 (leaves_of sha256 entries)) same
        ∙ sym (ap (λ (k : RootAndLength). k.root) is),
    sym many ∙ ap length same ∙ sym (ap (λ (k : RootAndLength). k.length) is),
  )
