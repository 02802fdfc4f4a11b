-- What stood at prefixes below a root, over any pages.
use Rattle.std.proofs.Common.{◌≡◌, ℕ, ◌+◌, ◌<◌, cond, eqb, List, [], ◌∷◌, ◌++◌, length, Option, Some, None, refl, sym, ap, ◌∙◌, arith, length-append, eq-eqb, inl, inr, suc}
use Rattle.std.proofs.lemmas.Bool.{cond-true, cond-false, ne_eqb, cases_lt}
use Rattle.std.proofs.lemmas.List.Elements.{All-nil, All-cons, All-append}
use Rattle.std.specs.Prelude.{IfSome}
use Rattle.std.specs.Option.{option_map}
use Rattle.std.specs.List.{All, filter, cons_option}
use Rattle.warg_crypto.specs.Digests.{IsByte}
use Rattle.warg_crypto.specs.Collisions.{GivesHashes}
use Rattle.warg_map.specs.Last.{last_with}
use Rattle.warg_pages.specs.Prefixes.{is_below, bits_of_bytes}
use Rattle.warg_pages.specs.Slots.{SlotAt}
use Rattle.warg_pages.specs.Pages.{slot_at}
use Rattle.warg_pages.specs.ChangedPages.{StoodAt, ChangesWhatStood}
use Rattle.warg_pages.specs.ChangedPages.StoodAt.{below}
use Rattle.warg_pages.specs.Private.Updates.{ChangeAt, changes_below, goes_to, slot_digest, AreChangesAt, IsNamedAt}
use Rattle.warg_pages.proofs.ChangesBelow.{last_of-none, put_by, last_change}
use Rattle.warg_pages.proofs.OwnUpdates.{changes_next}
use Rattle.warg_pages.proofs.NumberedSlots.{digest_at-slot, digest_of-slot}

-- the changes a byte further
pub next_changes : (H : List ℕ → List ℕ) → GivesHashes H → (prefix : List ℕ) (changes : List ChangeAt) (byte count : ℕ)
    (more : List (List ℕ × List ℕ)) → length prefix < 32 → byte < 256
    → AreChangesAt H count more prefix changes → AreChangesAt H count more (prefix ++ byte ∷ [])
    (filter (goes_to (length prefix) byte) changes)
next_changes H gives prefix changes byte count more short lt are = record {
  are_bytes = All-append IsByte prefix (byte ∷ []) are.are_bytes (All-cons IsByte byte [] lt (All-nil IsByte));
  are_changes = changes_next H gives prefix changes byte count more short lt are.are_changes;
}

pub none_changes : (H : List ℕ → List ℕ) → GivesHashes H → (prefix : List ℕ) (changes : List ChangeAt) (byte count : ℕ)
    (more : List (List ℕ × List ℕ)) → length prefix < 32 → byte < 256
    → AreChangesAt H count more prefix changes → last_with (is_below H (bits_of_bytes (prefix ++ byte ∷ []))) more
    ≡ None → filter (goes_to (length prefix) byte) changes ≡ []
none_changes H gives prefix changes byte count more short lt are none =
    let next = changes_next H gives prefix changes byte count more short lt are.are_changes in
    next ∙ last_of-none (changes_below H count more (bits_of_bytes (prefix ++ byte ∷ []))) (last_change H _ count more
    ∙ ap (option_map (put_by H _)) none)

-- what a slot names
pub named_next : (H : List ℕ → List ℕ) (root prefix : List ℕ) (above : List SlotAt) (byte : ℕ)
    → StoodAt H root prefix above → IsNamedAt H root (prefix ++ byte ∷ [])
    (slot_digest H (length prefix) (slot_at above byte))
named_next H root prefix above byte stood = λ slots e.
    below prefix above slots byte stood (rw (← length-append prefix (byte ∷ [])) (e
    ∙ digest_of-slot H (length prefix) (slot_at above byte) ∙ sym (digest_at-slot H _ above byte)))

-- a page that changes what stood
pub page_stood : (H : List ℕ → List ℕ) → GivesHashes H → (root prefix : List ℕ) (number count : ℕ)
    (more : List (List ℕ × List ℕ)) (slots fresh : List SlotAt) (changes : List ChangeAt) → length prefix < 32
    → AreChangesAt H count more prefix changes → StoodAt H root prefix slots
    → ((s : ℕ) → s < 256 → filter (goes_to (length prefix) s) changes ≡ [] → slot_at fresh s ≡ slot_at slots s)
    → ChangesWhatStood H root more record { prefix = prefix; version = number; page = fresh }
page_stood H gives root prefix number count more slots fresh changes short are stood kept = record {
  before = slots;
  stood = stood;
  others = λ byte lt none. kept byte lt (none_changes H gives prefix changes byte count more short lt are none);
}

-- one slot more
pub slot_at-before : (xs : List SlotAt) (o : Option SlotAt) (n s : ℕ) → IfSome o (λ x. x.byte ≡ n) → s < n
    → slot_at (xs ++ cons_option o []) s ≡ slot_at xs s
slot_at-before [] None n s is lt = refl
slot_at-before [] (Some x) n s is lt = cond-false _ _ _ (ne_eqb x.byte s (λ e. omega arith))
slot_at-before (x ∷ xs) o n s is lt = ap (λ r. cond (eqb x.byte s) (Some x) r) (slot_at-before xs o n s is lt)

pub slot_at-here : (xs : List SlotAt) (o : Option SlotAt) (n : ℕ) → All (λ x. x.byte < n) xs
    → IfSome o (λ x. x.byte ≡ n) → slot_at (xs ++ cons_option o []) n ≡ o
slot_at-here [] None n all is = refl
slot_at-here [] (Some x) n all is = cond-true _ _ _ (eq-eqb x.byte n is)
slot_at-here (x ∷ xs) o n all is =
    let low : x.byte < n = all 0 x (omega arith) in
    cond-false _ _ _ (ne_eqb x.byte n (λ e. omega arith))
    ∙ slot_at-here xs o n (λ i d lt. all (suc i) d (omega arith)) is

pub kept_more : (slots xs : List SlotAt) (o : Option SlotAt) (n depth : ℕ) (changes : List ChangeAt)
    → All (λ x. x.byte < n) xs → IfSome o (λ x. x.byte ≡ n)
    → ((s : ℕ) → s < n → filter (goes_to depth s) changes ≡ [] → slot_at xs s ≡ slot_at slots s)
    → (filter (goes_to depth n) changes ≡ [] → o ≡ slot_at slots n) → (s : ℕ) → s < n + 1
    → filter (goes_to depth s) changes ≡ [] → slot_at (xs ++ cons_option o []) s ≡ slot_at slots s
kept_more slots xs o n depth changes all is kept here s lt none = elim (cases_lt s n) [
  | inl low ↦ slot_at-before xs o n s is low ∙ kept s low none
  | inr high ↦
      let same : s ≡ n = omega arith in
      ap (slot_at (xs ++ cons_option o [])) same ∙ slot_at-here xs o n all is
      ∙ here (ap (λ m. filter (goes_to depth m) changes) (sym same) ∙ none) ∙ ap (slot_at slots) (sym same)
]
