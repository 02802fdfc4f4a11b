-- What proofs of other crates use.
use Rattle.std.proofs.Common.{◌≡◌, ℕ, zero, suc, ◌+◌, ◌-◌, ◌*◌, ◌/◌, ◌%◌, ◌^◌, ◌<◌, ◌≤◌, Bool, true, false, cond, eqb, List, [], ◌∷◌, ◌++◌, length, take, Option, Some, None, refl, sym, ap, ◌∙◌, arith, length-append}
use Rattle.std.proofs.lemmas.Fmt.{decimal_injective, decimal_is_IsNumeral}
use Rattle.std.proofs.lemmas.List.Elements.{All-tail}
use Rattle.std.specs.Bool.{then_some}
use Rattle.std.specs.Fmt.{decimal, digit_glyph}
use Rattle.std.specs.List.{All, Contains, flat_map, filter_map, cons_option}
use Rattle.std.specs.Str.Parse.{AllDigits}
use Rattle.warg_crypto.specs.Digests.{IsByte, IsDigest}
use Rattle.warg_crypto.specs.Collisions.{GivesHashes}
use Rattle.warg_crypto.specs.Tree.{leaf_digest}
use Rattle.warg_map.specs.Bits.{bit_at, bits_from}
use Rattle.warg_map.specs.Last.{last_with}
use Rattle.warg_map.specs.Sparse.{root_of_levels, sparse_root, map_of}
use Rattle.warg_pages.specs.Prefixes.{bits_of_bytes, is_below, below, version}
use Rattle.warg_pages.specs.Slots.{SlotAt, is_lone, slot_over, numbers, page_of}
use Rattle.warg_pages.specs.ProvedKeys.{IsOwnSource}
use Rattle.warg_pages.specs.PageBytes.{slot_bytes, lone_bytes, page_bytes}
use Rattle.warg_pages.specs.PagePaths.{byte_path}
use Rattle.warg_pages.specs.OwnPages.{stands, stands_over}
use Rattle.warg_pages.specs.ChangedPages.{ChangedPageAt, page_at}
use Rattle.warg_pages.specs.Visits.{AreAllPagesWhere, AreAllPages, IsAllowed, lone_slots}
use Rattle.warg_pages.specs.Audits.{IsInPages, AreInPages, count_last}
use Rattle.warg_pages.proofs.PageFormat.{same_parts}
use Rattle.warg_pages.proofs.KeyPrefixes as keys
use Rattle.warg_pages.proofs.LastPassing.{last_found}
use Rattle.warg_pages.proofs.OwnDescent as descent
use Rattle.warg_pages.proofs.PrefixBytes.{taken_is}
use Rattle.warg_pages.proofs.MoreInsertions.{quiet_page, quiet_version, quiet_stands}
use Rattle.warg_pages.proofs.PagesAfter.{nothing_new}
use Rattle.warg_pages.proofs.OwnPages as own
use Rattle.std.proofs.lemmas.Bool.Decides.{nat_tests}
use Rattle.warg_pages.proofs.OwnVisits.{own_among, own_from}
use Rattle.warg_pages.proofs.VisitedPages.{own_root}
use Rattle.warg_pages.proofs.VisitedRoots.{pages_held, root_of_pages, lone_digests}
use Rattle.warg_pages.proofs.AuditedMaps.{held_is}
use Rattle.warg_pages.proofs.PageRoots.{root-same}

-- The bits of a key: as many as are asked for, those of two parts, the same ones of another key, and those of its first
-- bytes.
pub length-bits_from : (bytes : List ℕ) (i n : ℕ) → length (bits_from bytes i n) ≡ n
length-bits_from = keys.length-bits_from

pub bits_from-append : (bytes : List ℕ) (i m n : ℕ) → bits_from bytes i (m + n)
    ≡ bits_from bytes i m ++ bits_from bytes (i + m) n
bits_from-append = keys.bits_from-append

pub bits_from-same : (a b : List ℕ) (i j n : ℕ) → ((m : ℕ) → m < n → bit_at a (i + m) ≡ bit_at b (j + m))
    → bits_from a i n ≡ bits_from b j n
bits_from-same = keys.bits_from-same

pub bits_of_taken : (k : List ℕ) (depth : ℕ) → depth ≤ length k
    → bits_of_bytes (take depth k) ≡ bits_from k 0 (8 * depth)
bits_of_taken = descent.bits_of_taken

-- Digits that are written alike are the same.
one_glyph : (d e : ℕ) → digit_glyph false d ≡ digit_glyph false e → d ≡ e
one_glyph d e same = grind (arith, nat_tests)

-- No number in decimal begins with an x.
no_x : (v : ℕ) (rest : List ℕ) → v < 2 ^ 64 → decimal v ≡ 120 ∷ rest → ⊥
no_x v rest small e =
    let digits : AllDigits 10 (120 ∷ rest) = rw e at (decimal_is_IsNumeral v small).0.1 in
    omega arith

-- The path of a page fixes its prefix and its version: here without "map/".
pub one_path_below : (p q : List ℕ) (v w : ℕ) → All IsByte p → All IsByte q → v < 2 ^ 64 → w < 2 ^ 64
    → flat_map byte_path p ++ decimal v ≡ flat_map byte_path q ++ decimal w → (p ≡ q) × (v ≡ w)
one_path_below [] [] v w all other v_fits w_fits e = (refl, decimal_injective v w v_fits w_fits e)
one_path_below [] (y ∷ q) v w all other v_fits w_fits e = absurd (no_x v _ v_fits e)
one_path_below (x ∷ p) [] v w all other v_fits w_fits e = absurd (no_x w _ w_fits (sym e))
one_path_below (x ∷ p) (y ∷ q) v w all other v_fits w_fits e =
    let parts = same_parts (byte_path x) (flat_map byte_path p ++ decimal v) (byte_path y)
    (flat_map byte_path q ++ decimal w) refl e in
    let high : digit_glyph false (x / 16) ≡ digit_glyph false (y / 16) = let path = parts.0 in cc in
    let low : digit_glyph false (x % 16) ≡ digit_glyph false (y % 16) = cc in
    let first : x ≡ y = omega (arith, one_glyph (x / 16) (y / 16) high, one_glyph (x % 16) (y % 16) low) in
    let rest = one_path_below p q v w (All-tail IsByte x p all) (All-tail IsByte y q other) v_fits w_fits parts.1 in
    ((λ i. first i ∷ rest.0 i), rest.1)

-- Pages are short: they have 256 slots, and each at most 106 bytes.
short_lone : (H : List ℕ → List ℕ) → GivesHashes H → (b : Bool) (e : List ℕ × List ℕ)
    → length (lone_bytes (then_some b (H e.0, leaf_digest H e.1))) ≤ 64
short_lone H gives false e = omega arith
short_lone H gives true e =
    let key = gives e.0 in
    let leaf : IsDigest (leaf_digest H e.1) = gives _ in
    omega (arith, length-append (H e.0) (leaf_digest H e.1), key.has_32, leaf.has_32)

abbrev IsShort : Option SlotAt → Type 0
IsShort None = Unit {0}
IsShort (Some x) = length (slot_bytes x) ≤ 106

short_slot : (H : List ℕ → List ℕ) → GivesHashes H → (es : List (List ℕ × List ℕ)) (p : List Bool) (s : ℕ)
    (last : Option (List ℕ × List ℕ)) → IsShort (slot_over H es p s last)
short_slot H gives es p s None = tt
short_slot H gives es p s (Some e) =
    let digest = own.root_is_digest H gives es p (256 - length p) in
    let lone = lone_bytes (then_some (is_lone H es p e) (H e.0, leaf_digest H e.1)) in
    omega (
      arith,
      length-append (root_of_levels H (256 - length p) (below (map_of H es) p)) lone,
      digest.has_32,
      short_lone H gives (is_lone H es p e) e,
    )

short_slots : (f : ℕ → Option SlotAt) (first n : ℕ) → ((s : ℕ) → IsShort (f s))
    → length (page_bytes (filter_map f (numbers first n))) ≤ 106 * n
unfolding numbers
short_slots f first zero short = omega arith
short_slots f first (suc n) short = one (f first) (filter_map f (numbers (first + 1) n)) (short first)
    (short_slots f (first + 1) n short)
  where
    one : (o : Option SlotAt) (slots : List SlotAt) → IsShort o → length (page_bytes slots) ≤ 106 * n
        → length (page_bytes (cons_option o slots)) ≤ 106 * suc n
    one None slots h rest = omega arith
    one (Some x) slots h rest = omega (arith, rest, h, length-append (slot_bytes x) (page_bytes slots))

pub page_is_short : (H : List ℕ → List ℕ) (insertions : List (List ℕ × List ℕ)) (prefix : List Bool) → GivesHashes H
    → length (page_bytes (page_of H insertions prefix)) ≤ 27136
unfolding page_of
page_is_short H insertions prefix gives = short_slots _ 0 256 (λ s. short_slot H gives insertions _ s _)

-- A version is no greater than the number of insertions.
pub version_within : (H : List ℕ → List ℕ) (insertions : List (List ℕ × List ℕ)) (prefix : List Bool)
    → version H insertions prefix ≤ length insertions
version_within H insertions prefix = own.version_within _ insertions

-- Where a page stands, a key digest of an insertion begins with its prefix.
pub page_has_insertion : (H : List ℕ → List ℕ) (insertions : List (List ℕ × List ℕ)) (prefix : List ℕ) → GivesHashes H
    → All IsByte prefix → length prefix < 32 → stands H insertions (bits_of_bytes prefix) ≡ true
    → (e : List ℕ × List ℕ) × Contains insertions e × (prefix ≡ take (length prefix) (H e.0))
page_has_insertion H insertions prefix gives are_bytes short is_there =
    by_last _ refl is_there
  where
    p : List Bool
    p = bits_of_bytes prefix

    by_last : (last : Option (List ℕ × List ℕ)) → last_with (is_below H p) insertions ≡ last
        → stands_over H insertions p last ≡ true
        → (e : List ℕ × List ℕ) × Contains insertions e × (prefix ≡ take (length prefix) (H e.0))
    by_last None l h = absurd cc
    by_last (Some e) l h =
        let found = last_found _ insertions e l in
        (e, found.0, sym (taken_is (H e.0) prefix (gives e.0) are_bytes (omega arith) found.1))

-- A page whose version is an old one is as it was before the later insertions.
pub unchanged_page : (H : List ℕ → List ℕ) (old more : List (List ℕ × List ℕ)) (prefix : List Bool)
    → stands H (old ++ more) prefix ≡ true → version H (old ++ more) prefix ≤ length old
    → (stands H old prefix ≡ true) × (version H old prefix ≡ version H (old ++ more) prefix)
    × (page_of H old prefix ≡ page_of H (old ++ more) prefix)
unchanged_page H old more prefix there early =
    let none = nothing_new H old more prefix early in (
      sym (quiet_stands H old more prefix none) ∙ there,
      sym (quiet_version H old more prefix none),
      sym (quiet_page H old more prefix none),
    )

-- A visit of the pages of insertions finds each of them, whatever it shows of lone keys.
pub own_visit : (H : List ℕ → List ℕ) (IsLone : List ℕ → SlotAt → List ℕ × List ℕ → Type 0)
    (bytes_at : List ℕ → ℕ → Option (List ℕ)) (tells_all : Type 0) (root : List ℕ)
    (count : ℕ) (insertions : List (List ℕ × List ℕ)) (pages : List ChangedPageAt) (prefix : List ℕ) → GivesHashes H
    → count < 2 ^ 64 → IsOwnSource H bytes_at root count insertions
    → AreAllPagesWhere H IsLone (IsAllowed bytes_at tells_all) root count pages → All IsByte prefix → length prefix < 32
    → stands H insertions (bits_of_bytes prefix) ≡ true → Contains pages (page_at H insertions prefix)
unfolding last_with
own_visit H IsLone f T root zero es pages prefix gives fits own all are_bytes short there = none es own.all there
  where
    none : (es : List (List ℕ × List ℕ)) → length es ≡ 0 → stands H es (bits_of_bytes prefix) ≡ true
        → Contains pages (page_at H es prefix)
    none [] e is = absurd cc
    none (x ∷ es) e is = absurd (omega arith)
own_visit H IsLone f T root (suc n) es pages prefix gives fits own all are_bytes short there =
    own_among H gives IsLone f T es 32 [] root _ pages prefix all (own_root H f root _ es fits (λ z. omega arith) own)
    are_bytes short there

-- And no others: at the prefix of each that it finds a page of the insertions stands, and it is of that version.
pub visit_own : (H : List ℕ → List ℕ) (IsLone : List ℕ → SlotAt → List ℕ × List ℕ → Type 0)
    (bytes_at : List ℕ → ℕ → Option (List ℕ)) (tells_all : Type 0) (root : List ℕ)
    (count : ℕ) (insertions : List (List ℕ × List ℕ)) (pages : List ChangedPageAt) → GivesHashes H → count < 2 ^ 64
    → IsOwnSource H bytes_at root count insertions
    → AreAllPagesWhere H IsLone (IsAllowed bytes_at tells_all) root count pages → (p : ChangedPageAt)
    → Contains pages p → (stands H insertions (bits_of_bytes p.prefix) ≡ true)
    × (p.version ≡ version H insertions (bits_of_bytes p.prefix))
visit_own H IsLone f T root zero es pages gives fits own all p there =
    let none : Contains [] p = rw all.0 at there in absurd (omega arith)
visit_own H IsLone f T root (suc n) es pages gives fits own all p there =
    own_from H gives IsLone f T es 32 [] root _ pages refl all (own_root H f root _ es fits (λ z. omega arith) own) p
    there

-- No two slots of a visit's pages have the same lone key.
pub lone_apart : (H : List ℕ → List ℕ) (IsThere : List ℕ → ℕ → List SlotAt → Type 0) (root : List ℕ) (version : ℕ)
    (all : List ChangedPageAt) → AreAllPages H IsThere root version all → (x y : SlotAt) (key leaf other : List ℕ)
    → Contains (lone_slots all) x → Contains (lone_slots all) y → x.lone ≡ Some (key, leaf)
    → y.lone ≡ Some (key, other) → x ≡ y
lone_apart H IsThere root zero all h = λ x y k l m at other is are. absurd (let size = ap (λ p. length
    (lone_slots p)) h.0 in
    omega arith)
lone_apart H IsThere root _ all h = (pages_held H IsThere 32 [] _ root all refl h).apart

-- It is the root of insertions that are in them, where nothing else is.
pub audited : (H : List ℕ → List ℕ) (IsThere : List ℕ → ℕ → List SlotAt → Type 0) (root : List ℕ) (version : ℕ)
    (es : List (List ℕ × List ℕ)) (all : List ChangedPageAt) (vs : List ℕ) → AreAllPages H IsThere root version all
    → AreInPages H all 0 es vs → count_last 0 vs ≡ length (lone_slots all) → root ≡ sparse_root H 256 (map_of H es)
audited H IsThere root version es all vs are in_pages same = root_of_pages H IsThere root version all are
    ∙ root-same H 256 _ _ (held_is H es all vs (lone_digests H IsThere root version all are)
    (lone_apart H IsThere root version all are) in_pages same)

-- Insertions in pages, with one more.
pub AreInPages-push : (H : List ℕ → List ℕ) (all : List ChangedPageAt) (first : ℕ) (es : List (List ℕ × List ℕ))
    (vs : List ℕ) (e : List ℕ × List ℕ) (v : ℕ) → AreInPages H all first es vs
    → IsInPages H all (first + length es) e v → AreInPages H all first (es ++ e ∷ []) (vs ++ v ∷ [])
unfolding AreInPages
AreInPages-push H all first [] [] e v h is = let at : first + 0 ≡ first = omega arith in (rw at at is, tt)
AreInPages-push H all first [] (w ∷ vs) e v h is = absurd h
AreInPages-push H all first (x ∷ es) [] e v h is = absurd h
AreInPages-push H all first (x ∷ es) (w ∷ vs) e v h is =
    let at : first + suc (length es) ≡ first + 1 + length es = omega arith in
    (h.0, AreInPages-push H all (first + 1) es vs e v h.1 (rw at at is))

pub count_last-push : (first : ℕ) (vs : List ℕ) (v : ℕ)
    → count_last first (vs ++ v ∷ []) ≡ count_last first vs + cond (eqb v (first + length vs + 1)) 1 0
count_last-push first [] v =
    let at : first + 0 + 1 ≡ first + 1 = omega arith in
    rw at (omega arith)
count_last-push first (w ∷ vs) v =
    let at : first + suc (length vs) + 1 ≡ first + 1 + length vs + 1 = omega arith in
    rw (at, count_last-push (first + 1) vs v) (omega arith)

-- There is one version for each of them.
pub length_versions : (H : List ℕ → List ℕ) (all : List ChangedPageAt) (first : ℕ) (es : List (List ℕ × List ℕ))
    (vs : List ℕ) → AreInPages H all first es vs → length vs ≡ length es
unfolding AreInPages
length_versions H all first [] [] h = refl
length_versions H all first [] (v ∷ vs) h = absurd h
length_versions H all first (e ∷ es) [] h = absurd h
length_versions H all first (e ∷ es) (v ∷ vs) h = ap suc (length_versions H all (first + 1) es vs h.1)
