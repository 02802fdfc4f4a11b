-- The page at the empty prefix, before and after more insertions.
use Rattle.std.proofs.Common.{◌≡◌, ◌≢◌, ℕ, ◌+◌, ◌^◌, ◌<◌, true, List, [], ◌∷◌, ◌++◌, length, Option, Some, refl, sym, ap, ◌∙◌, arith, length-append}
use Rattle.std.proofs.lemmas.List.Elements.{All-nil}
use Rattle.std.specs.Prelude.{IfSome}
use Rattle.std.specs.List.{filter}
use Rattle.warg_crypto.specs.Digests.{IsByte}
use Rattle.warg_crypto.specs.Collisions.{GivesHashes}
use Rattle.warg_map.specs.Bits.{bits_from, last_bits}
use Rattle.warg_map.specs.Sparse.{sparse_root, map_of}
use Rattle.warg_pages.specs.Prefixes.{begins, is_below, bits_of_bytes, version}
use Rattle.warg_pages.specs.Slots.{SlotAt, IsPage, page_of}
use Rattle.warg_pages.specs.PageBytes.{page_bytes}
use Rattle.warg_pages.specs.OwnPages.{stands}
use Rattle.warg_pages.specs.ProvedKeys.{IsOwnSource}
use Rattle.warg_pages.specs.ChangedPages.{ChangedPageAt, AreChangedPages}
use Rattle.warg_pages.specs.ChangedPages.StoodAt.{first}
use Rattle.warg_pages.specs.Private.Updates.{AreChangesAt, IsNamedAt, ChangeAt, changes_from, IsFirstPage, IsOwnUpdate, IsUpdated}
use Rattle.warg_pages.proofs.PremiseLemmas.{empty_page}
use Rattle.warg_pages.proofs.OwnPages.{version_within}
use Rattle.warg_pages.proofs.FinalPeers.{last_of_all, version_of_all}
use Rattle.warg_pages.proofs.VisitedPages.{own_root, own_page, own_refused}

no_prefix : bits_of_bytes [] ≡ []
unfolding bits_from
no_prefix = refl

module _ (H : List ℕ → List ℕ) (gives : GivesHashes H) (bytes_at : List ℕ → ℕ → Option (List ℕ)) (root : List ℕ)
    (count : ℕ) where
  pub own_first_page : (page : List SlotAt) (es : List (List ℕ × List ℕ)) → count < 2 ^ 64 → ¬ (count ≡ 0)
      → IsPage page → IfSome (bytes_at [] count) (λ known. known ≡ page_bytes page)
      → IsOwnSource H bytes_at root count es → page ≡ page_of H es []
  own_first_page page es fits some is at own =
      rw no_prefix at (own_page gives (own_root H bytes_at root count es fits some own) (omega arith) is at)

  pub first_page_refused : (es : List (List ℕ × List ℕ)) → count < 2 ^ 64 → ¬ (count ≡ 0)
      → ((slots : List SlotAt) → IsPage slots → bytes_at [] count ≢ Some (page_bytes slots))
      → IsOwnSource H bytes_at root count es → ⊥
  first_page_refused es fits some fault own =
      own_refused gives (own_root H bytes_at root count es fits some own) (omega arith) fault

-- of no insertions
pub empty_first_page : (H : List ℕ → List ℕ) (bytes_at : List ℕ → ℕ → Option (List ℕ)) (root : List ℕ) (count : ℕ)
    (page : List SlotAt) → count ≡ 0 → page ≡ [] → IsFirstPage H bytes_at root count page
empty_first_page H bytes_at root count page z e = λ es own. e ∙ none es (own.all ∙ z)
  where
    none : (es : List (List ℕ × List ℕ)) → length es ≡ 0 → [] ≡ page_of H es []
    none [] n = sym (empty_page H)
    none (x ∷ es) n = absurd (omega arith)

-- where a source's page changes at the empty prefix
all_of : (xs : List ChangeAt) → filter (λ c. begins [] (last_bits c.key 256)) xs ≡ xs
all_of [] = refl
all_of (x ∷ xs) = ap (λ t. x ∷ t) (all_of xs)

all_stand : (H : List ℕ → List ℕ) (es : List (List ℕ × List ℕ)) → 0 < length es → stands H es [] ≡ true
all_stand H [] some = absurd (omega arith)
all_stand H (e ∷ es) some = last_of_all H e es

pub first_update : (H : List ℕ → List ℕ) (bytes_at : List ℕ → ℕ → Option (List ℕ)) (root : List ℕ) (count : ℕ)
    (page : List SlotAt) (old more : List (List ℕ × List ℕ)) → 0 < length more → count + length more < 2 ^ 64
    → IsFirstPage H bytes_at root count page → IsOwnSource H bytes_at root count old
    → IsOwnUpdate H bytes_at [] (count + length more) root page (changes_from H count more) old more
first_update H bytes_at root count page old more some fits is_first own =
    let n = own.all in
    let size = length-append old more in
    record {
      own = record {
        pages = own.pages;
        fits = omega arith;
        are_bytes = All-nil IsByte;
        are_slots = rw no_prefix (is_first old own);
        are_changes = rw (← n, no_prefix) (sym (all_of _));
      };
      changed = record {
        are_bytes = All-nil IsByte;
        short = omega arith;
        is_there = rw no_prefix (all_stand H (old ++ more) (omega arith));
        later = (let v = ap (version H _) no_prefix ∙ version_of_all H (old ++ more) in omega arith);
      };
      is_version = (let v = ap (version H _) no_prefix ∙ version_of_all H (old ++ more) in omega arith);
      is_digest = rw no_prefix own.is_root;
    }

-- all pages that change
module _ (H : List ℕ → List ℕ) (old more : List (List ℕ × List ℕ)) (digest : List ℕ) (pages : List ChangedPageAt)
    (updated : IsUpdated H old more [] digest pages) where
  pub all_changed : AreChangedPages H old more pages
  all_changed =
      let among = updated.changed in
      record {
        each = λ i d lt. let h = among.each i d lt in (h.1, h.2);
        all = λ prefix changes. among.all prefix (prefix, refl) changes;
        once = among.once;
      }

  pub root_changed : digest ≡ sparse_root H 256 (map_of H (old ++ more))
  root_changed = rw no_prefix at updated.is_root

-- no page changes without an insertion
pub none_changed : (H : List ℕ → List ℕ) (old more : List (List ℕ × List ℕ)) (pages : List ChangedPageAt)
    → length more ≡ 0 → pages ≡ [] → AreChangedPages H old more pages
none_changed H old more pages none e = rw e record {
  each = λ i d lt. absurd (omega arith);
  all = λ prefix changes.
      let later = changes.later in
      let le = version_within (is_below H (bits_of_bytes prefix)) (old ++ more) in
      let size = length-append old more in absurd (omega arith);
  once = λ i j d lt within. absurd (omega arith);
}

-- what stood at the empty prefix
pub named_first : (H : List ℕ → List ℕ) (root : List ℕ) → IsNamedAt H root [] root
named_first H root = λ slots e. first slots e

pub first_changes : (H : List ℕ → List ℕ) (count : ℕ) (more : List (List ℕ × List ℕ))
    → AreChangesAt H count more [] (changes_from H count more)
first_changes H count more = record {
  are_bytes = All-nil IsByte;
  are_changes = rw no_prefix (sym (all_of _));
}
