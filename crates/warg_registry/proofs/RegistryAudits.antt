-- What an audit of a registry that a reader has finds at each step.
use Rattle.std.proofs.Common.{◌≡◌, ℕ, zero, suc, ◌+◌, ◌<◌, ◌^◌, true, List, [], ◌∷◌, ◌++◌, length, map, get_or, take, drop, Option, Some, None, refl, sym, ap, subst, ◌∙◌, arith}
use Rattle.std.proofs.lemmas.List.{length-map, get_or-map, take_more}
use Rattle.std.proofs.lemmas.List.Elements.{All-cons}
use Rattle.std.proofs.lemmas.Option.{slice_get-map, slice_get_read}
use Rattle.std.specs.Prelude.{slice_get}
use Rattle.std.specs.List.{All}
use Rattle.std.specs.Option.{option_map}
use Rattle.warg_crypto.specs.Digests.{sha256}
use Rattle.warg_crypto.specs.DigestFacts.{IsDigest-sha256}
use Rattle.warg_crypto.specs.Tree.{leaf_digest}
use Rattle.warg_pages.specs.Audits.{IsHeldIn, AreInPages, count_last}
use Rattle.warg_pages.specs.ChangedPages.{ChangedPageAt}
use Rattle.warg_pages.specs.ProvedKeys.{IsOwnSource}
use Rattle.warg_pages.specs.Visits.{lone_slots}
use Rattle.warg_tiles.specs.CheckpointText.{Said}
use Rattle.warg_folder.specs.Files.{Files}
use Rattle.warg_folder.specs.Moments.{IsRead}
use Rattle.warg_folder.specs.declared.device.Folder.{Ghosts}
use Rattle.warg_store.specs.Log.{LogOf, AreShort}
use Rattle.warg_store.specs.Reading.{ServedIn, Reads}
use Rattle.warg_registry.specs.Auditing.{AreAllInFiles, HasVisited}
use Rattle.warg_registry.specs.Folder.{registry_of, page_read}
use Rattle.warg_registry.specs.Insertions.{entry_of, entries_of, IsInsertion}
use Rattle.warg_registry.specs.Reading.{RegistryRead, ReadsRegistry}
use Rattle.warg_registry.proofs.HeldEntries.{small_insertion}
use Rattle.warg_registry.proofs.OwnAudits as own
use Rattle.warg_registry.proofs.RegistryPages.{read_source}

-- a reader whose folder has the same files has the same log
pub log_read : {F : Type 0} (seen : F → Files) (log : LogOf) (r t : ServedIn F) → t.text ≡ r.text
    → seen t.folder ≡ seen r.folder → Reads seen log r → Reads seen log t
log_read seen log r t same found has = record {
  can = has.can;
  text = same ∙ has.text;
  files = rw found has.files;
}

module _ {F : Type 0} (dev : Ghosts F) {r t : RegistryRead F} (same : (t.root ≡ r.root) × (t.log.text ≡ r.log.text))
    (read : IsRead dev.seen dev.may_leave dev.moment dev.left_since r.log.folder t.log.folder) where
  -- a reader whose folder was only read has the same registry
  pub registry_read : (origin : List ℕ) (insertions : List (List ℕ × List ℕ))
      → ReadsRegistry dev.seen origin insertions r → ReadsRegistry dev.seen origin insertions t
  registry_read origin insertions has = record {
    reads = log_read dev.seen (registry_of origin insertions) r.log t.log same.1 read.found has.reads;
    is_root = same.0 ∙ has.is_root;
  }

  -- and has visited the same pages
  pub visited_read : (insertions : List (List ℕ × List ℕ)) (all : List ChangedPageAt)
      → HasVisited dev.seen insertions all r → HasVisited dev.seen insertions all t
  visited_read insertions all has = record {
    origin = has.origin;
    reads = registry_read has.origin insertions has.reads;
    are_all = subst (λ (was : Files × List ℕ × Said). AreAllInFiles was.0 was.1 was.2.length all)
        (λ i. (sym read.found i, sym same.0 i, sym same.1 i)) has.are_all;
  }

module _ {F : Type 0} (seen : F → Files) (insertions : List (List ℕ × List ℕ)) (all : List ChangedPageAt)
    (r : RegistryRead F) (has : HasVisited seen insertions all r) where
  source : IsOwnSource sha256 (page_read (seen r.log.folder)) r.root r.log.text.length insertions
  source = read_source has.origin insertions (seen r.log.folder) has.reads.reads.files r.root r.log.text.length
      r.log.text has.reads.reads.text refl has.reads.is_root

  fits : r.log.text.length < 2 ^ 64
  fits = let most = has.reads.reads.can.most in
      omega (arith, most, ap (λ (t : Said). t.length) has.reads.reads.text)

  -- what the pages hold under an insertion's key digest is the last one's
  pub held_last : (i : ℕ) (e : List ℕ × List ℕ) (held : Option (ℕ × List ℕ)) → slice_get insertions i ≡ Some e
      → IsHeldIn all (sha256 e.0) held → (found : ℕ × List ℕ) × (held ≡ Some found) × (i < found.0)
      × (found.0 ≡ i + 1 → found.1 ≡ leaf_digest sha256 e.1)
  held_last = own.own_held sha256 IsDigest-sha256 (page_read (seen r.log.folder)) (true ≡ true) r.root
      r.log.text.length insertions all fits source has.are_all

  -- they have as many lone keys as last insertions
  pub counted_last : (versions : List ℕ) → AreInPages sha256 all 0 insertions versions
      → count_last 0 versions ≡ length (lone_slots all)
  counted_last = own.own_count sha256 IsDigest-sha256 (page_read (seen r.log.folder)) (true ≡ true) r.root
      r.log.text.length insertions all fits source has.are_all

-- insertions of short entries
pub short_insertions : (es : List (List ℕ × List ℕ)) → AreShort (entries_of es) → All IsInsertion es
short_insertions [] short = λ i d lt. absurd (omega arith)
short_insertions (e ∷ es) short = All-cons IsInsertion e es
    (small_insertion e.0 e.1 (entry_of e) (let lt = short.0 in omega arith) refl) (short_insertions es short.1)

-- an element of a part of a list
in_front : {X : Type 0} (n : ℕ) (xs : List X) (i : ℕ) (x : X) → slice_get (take n xs) i ≡ Some x
    → slice_get xs i ≡ Some x
in_front zero xs i x is = absurd (cc)
in_front (suc n) [] i x is = absurd (cc)
in_front (suc n) (y ∷ xs) zero x is = is
in_front (suc n) (y ∷ xs) (suc i) x is = in_front n xs i x is

behind : {X : Type 0} (n : ℕ) (xs : List X) (i : ℕ) → slice_get (drop n xs) i ≡ slice_get xs (n + i)
behind zero xs i = let at : 0 + i ≡ i = omega arith in ap (slice_get xs) (sym at)
behind (suc n) [] i = refl
behind (suc n) (y ∷ xs) i = let at : suc n + i ≡ suc (n + i) = omega arith in behind n xs i
    ∙ ap (slice_get (y ∷ xs)) (sym at)

-- the insertion of an entry in a bundle
pub entry_in_bundle : (insertions : List (List ℕ × List ℕ)) (entries : List (List ℕ)) (first i : ℕ) (entry : List ℕ)
    → entries ≡ take 256 (drop first (entries_of insertions)) → slice_get entries i ≡ Some entry
    → (e : List ℕ × List ℕ) × (slice_get insertions (first + i) ≡ Some e) × (entry ≡ entry_of e)
entry_in_bundle insertions entries first i entry are at = by_place (slice_get insertions (first + i)) refl
  where
    there : option_map entry_of (slice_get insertions (first + i)) ≡ Some entry
    there = sym (slice_get-map entry_of insertions (first + i)) ∙ sym (behind first (entries_of insertions) i)
        ∙ in_front 256 (drop first (entries_of insertions)) i entry (rw (← are) at)

    by_place : (o : Option (List ℕ × List ℕ)) → slice_get insertions (first + i) ≡ o
        → (e : List ℕ × List ℕ) × (slice_get insertions (first + i) ≡ Some e) × (entry ≡ entry_of e)
    by_place None e = absurd (let clash : None ≡ Some entry = sym (ap (option_map entry_of) e) ∙ there in cc)
    by_place (Some f) e = (
      f,
      e,
      let both : Some entry ≡ Some (entry_of f) = sym there
          ∙ ap (option_map entry_of) e in cc,
    )

-- one element more of what is made of a list, and the element there
pub next_made : {X Y : Type 0} (f : X → Y) (ys : List X) (i : ℕ) (x : X) → i < length ys → x ≡ get_or ys i x
    → take (i + 1) (map f ys) ≡ take i (map f ys) ++ f x ∷ []
next_made f ys i x lt at = take_more (map f ys) i (f x) (omega (arith, length-map ys f, lt))
    ∙ ap (λ y. take i (map f ys) ++ y ∷ []) (get_or-map f ys i x (f x) lt ∙ ap f (sym at))

pub made_at : {X Y : Type 0} (f : X → Y) (ys : List X) (i : ℕ) (x : X) → i < length ys → x ≡ get_or ys i x
    → slice_get (map f ys) i ≡ Some (f x)
made_at f ys i x lt at = slice_get-map f ys i ∙ ap (option_map f) (slice_get_read ys (length ys) i x refl lt at)
