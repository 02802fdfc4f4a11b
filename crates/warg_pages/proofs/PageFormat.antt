-- Pages as bytes: what begins with a slot's bytes begins with one slot's alone.
use Rattle.std.proofs.Common.{◌≡◌, ℕ, ◌+◌, ◌^◌, ◌<◌, List, [], ◌∷◌, ◌++◌, length, take, drop, get_or, Option, Some, None, refl, sym, ap, ◌∙◌, arith, ◌≢◌, false, inl, inr, eqb, ◌-◌, ◌≤◌, lit<}
use Rattle.std.proofs.lemmas.Bool.{eqb-false, cases_lt}
use Rattle.std.proofs.lemmas.Nat.{from_be_bytes-to_be_bytes_8, be_bytes_8}
use Rattle.std.proofs.lemmas.List.{append_assoc, append-nil, take_at, drop_at, length-append, length-take, get_or-take, get_or-drop, get_or_past, take-append-drop, get_or_append_left}
use Rattle.std.proofs.lemmas.List.Elements.{All-head, All-tail, All-push, All-take, All-from_get_or}
use Rattle.std.proofs.lemmas.List.Quantifiers.{all_pairs_push}
use Rattle.std.specs.List.{All}
use Rattle.std.specs.Int.{to_be_bytes, from_be_bytes, w64}
use Rattle.warg_crypto.specs.Digests.{IsDigest}
use Rattle.warg_pages.specs.Slots.{SlotAt, IsLone, IsSlot, IsPage, Ascends}
use Rattle.warg_pages.specs.PageBytes.{kind_of, lone_bytes, slot_bytes, page_bytes}
use Rattle.std.proofs.Math.Seq.{get_or-append_seam}

-- parts of one length, and what is behind them
pub same_parts : {X : Type 0} (a b c d : List X) → length a ≡ length c → a ++ b ≡ c ++ d → (a ≡ c) × (b ≡ d)
same_parts a b c d len e = (
  sym (take_at a b _ refl) ∙ ap (take (length a)) e ∙ take_at c d _ (sym len),
  sym (drop_at a b _ refl) ∙ ap (drop (length a)) e ∙ drop_at c d _ (sym len),
)

pub eight : (n : ℕ) → length (to_be_bytes w64 n) ≡ 8
eight n = refl

-- lone keys of one kind
pub same_lone : (l m : Option (List ℕ × List ℕ)) (xs ys : List ℕ) → IsLone l → IsLone m → kind_of l ≡ kind_of m
    → lone_bytes l ++ xs ≡ lone_bytes m ++ ys → (l ≡ m) × (xs ≡ ys)
same_lone None None xs ys hl hm k e = (refl, e)
same_lone None _ xs ys hl hm k e = absurd (omega arith)
same_lone _ None xs ys hl hm k e = absurd (omega arith)
same_lone (Some l) (Some m) xs ys hl hm k e =
    let one = hl l refl in
    let two = hm m refl in
    let keys = same_parts l.0 _ m.0 _ (one.0.has_32 ∙ sym two.0.has_32)
    (sym (append_assoc l.0 l.1 xs) ∙ e ∙ append_assoc m.0 m.1 ys) in
    let leaves = same_parts l.1 xs m.1 ys (one.1.has_32 ∙ sym two.1.has_32) keys.1 in
    (ap Some (λ i. (keys.0 i, leaves.0 i)), leaves.1)

-- the bytes of a slot, part by part
pub slot_parts : (x : SlotAt) (behind : List ℕ) → slot_bytes x ++ behind ≡ x.byte ∷ kind_of x.lone ∷
    (to_be_bytes w64 x.version ++ (x.digest ++ (lone_bytes x.lone ++ behind)))
slot_parts x behind = ap (λ t. x.byte ∷ kind_of x.lone ∷ t)
    (append_assoc (to_be_bytes w64 x.version) _ behind
    ∙ ap (λ t. to_be_bytes w64 x.version ++ t) (append_assoc x.digest (lone_bytes x.lone) behind))

pub same_slot : (x y : SlotAt) (xs ys : List ℕ) → IsSlot x → IsSlot y → slot_bytes x ++ xs ≡ slot_bytes y ++ ys
    → (x ≡ y) × (xs ≡ ys)
same_slot x y xs ys hx hy e =
    let parts : x.byte ∷ kind_of x.lone ∷ (to_be_bytes w64 x.version ++ (x.digest ++ (lone_bytes x.lone ++ xs)))
    ≡ y.byte ∷ kind_of y.lone ∷ (to_be_bytes w64 y.version ++ (y.digest ++ (lone_bytes y.lone ++ ys))) =
    sym (slot_parts x xs) ∙ e ∙ slot_parts y ys in
    let bytes : x.byte ≡ y.byte = cc in
    let kinds : kind_of x.lone ≡ kind_of y.lone = cc in
    let rest : to_be_bytes w64 x.version ++ (x.digest ++ (lone_bytes x.lone ++ xs)) ≡ to_be_bytes w64 y.version ++
    (y.digest ++ (lone_bytes y.lone ++ ys)) = cc in
    let versions = same_parts (to_be_bytes w64 x.version) (x.digest ++ (lone_bytes x.lone ++ xs))
    (to_be_bytes w64 y.version) (y.digest ++ (lone_bytes y.lone ++ ys)) (eight x.version ∙ sym (eight y.version))
    rest in
    let version : x.version ≡ y.version = sym (from_be_bytes-to_be_bytes_8 x.version hx.fits)
    ∙ ap (from_be_bytes w64) versions.0 ∙ from_be_bytes-to_be_bytes_8 y.version hy.fits in
    let digests = same_parts x.digest (lone_bytes x.lone ++ xs) y.digest (lone_bytes y.lone ++ ys)
    (hx.digest.has_32 ∙ sym hy.digest.has_32) versions.1 in
    let lones = same_lone x.lone y.lone xs ys hx.lone hy.lone kinds digests.1 in
    ((λ i. record { byte = bytes i; version = version i; digest = digests.0 i; lone = lones.0 i }), lones.1)

-- slots that are read are the first ones of every page with these bytes
pub read_first : (xs ys : List SlotAt) (rest : List ℕ) → All IsSlot xs → All IsSlot ys → page_bytes xs ++ rest
    ≡ page_bytes ys → (zs : List SlotAt) × (ys ≡ xs ++ zs) × (rest ≡ page_bytes zs)
read_first [] ys rest hx hy e = (ys, refl, e)
read_first (x ∷ xs) [] rest hx hy e = absurd (cc e)
read_first (x ∷ xs) (y ∷ ys) rest hx hy e =
    let same = same_slot x y (page_bytes xs ++ rest) (page_bytes ys) (All-head IsSlot x xs hx) (All-head IsSlot y ys hy)
    (sym (append_assoc (slot_bytes x) (page_bytes xs) rest) ∙ e) in
    let more = read_first xs ys rest (All-tail IsSlot x xs hx) (All-tail IsSlot y ys hy) same.1 in
    (more.0, (λ i. (sym same.0 i) ∷ (more.1 i)), more.2)

-- the law
pub one_page : (xs ys : List SlotAt) → IsPage xs → IsPage ys → page_bytes xs ≡ page_bytes ys → xs ≡ ys
one_page xs ys hx hy e =
    let more = read_first xs ys [] hx.are_slots hy.are_slots (append-nil (page_bytes xs) ∙ e) in
    nothing more.0 more.1 more.2
  where
    nothing : (zs : List SlotAt) → ys ≡ xs ++ zs → [] ≡ page_bytes zs → xs ≡ ys
    nothing [] is none = sym (is ∙ append-nil xs)
    nothing (z ∷ zs) is none = absurd (cc none)

-- a slot more is read
pub page_bytes-push : (xs : List SlotAt) (x : SlotAt) → page_bytes (xs ++ x ∷ []) ≡ page_bytes xs ++ slot_bytes x
page_bytes-push [] x = append-nil _
page_bytes-push (y ∷ xs) x = rw (page_bytes-push xs x)
    (sym (append_assoc (slot_bytes y) (page_bytes xs) (slot_bytes x)))

pub read_more : (bytes : List ℕ) (xs : List SlotAt) (x : SlotAt) (rest behind : List ℕ) → bytes ≡ page_bytes xs ++ rest
    → rest ≡ slot_bytes x ++ behind → bytes ≡ page_bytes (xs ++ x ∷ []) ++ behind
read_more bytes xs x rest behind read first = rw (read, first, page_bytes-push xs x) (sym (append_assoc _ _ behind))

pub IsPage-push : (xs : List SlotAt) (x : SlotAt) → IsPage xs → IsSlot x → All (λ y. y.byte < x.byte) xs
    → IsPage (xs ++ x ∷ [])
IsPage-push xs x page is below = record {
  ascend = all_pairs_push (λ (y z : SlotAt). y.byte < z.byte) xs x page.ascend below;
  are_slots = All-push IsSlot xs x page.are_slots is;
}

-- slots around one of them
in_middle : (xs : List SlotAt) (z : SlotAt) (zs : List SlotAt) → All IsSlot (xs ++ z ∷ zs) → IsSlot z
in_middle xs z zs h = rw (get_or-append_seam xs z zs z) at
    (h (length xs) z (let all = length-append xs (z ∷ zs) in omega arith))

in_front : (xs : List SlotAt) (z : SlotAt) (zs : List SlotAt) → Ascends (xs ++ z ∷ zs) → All (λ y. y.byte < z.byte) xs
in_front xs z zs h = λ i d lt. rw (get_or_append_left xs (z ∷ zs) d i lt, get_or-append_seam xs z zs d) at
    (h i _ d lt (let all = length-append xs (z ∷ zs) in omega arith))

-- bytes that begin with no slot are no page's
pub none_left : (bytes : List ℕ) (xs ys : List SlotAt) (rest : List ℕ) → IsPage xs → IsPage ys
    → bytes ≡ page_bytes xs ++ rest → 0 < length rest
    → ((x : SlotAt) (behind : List ℕ) → IsSlot x → rest ≢ slot_bytes x ++ behind) → bytes ≢ page_bytes ys
none_left bytes xs ys rest hx hy read some none is =
    let more = read_first xs ys rest hx.are_slots hy.are_slots (sym read ∙ is) in
    left more.0 more.1 more.2
  where
    left : (zs : List SlotAt) → ys ≡ xs ++ zs → rest ≡ page_bytes zs → ⊥
    left [] all at = omega (arith, ap length at)
    left (z ∷ zs) all at = none z (page_bytes zs) (in_middle xs z zs (rw all at hy.are_slots)) at

-- nor are those that begin with a slot that doesn't ascend
pub falls_back : (bytes : List ℕ) (xs ys : List SlotAt) (x : SlotAt) (rest behind : List ℕ) → IsPage xs → IsPage ys
    → IsSlot x → bytes ≡ page_bytes xs ++ rest → rest ≡ slot_bytes x ++ behind
    → (All (λ y. y.byte < x.byte) xs → ⊥) → bytes ≢ page_bytes ys
falls_back bytes xs ys x rest behind hx hy is read first back same =
    let more = read_first xs ys rest hx.are_slots hy.are_slots (sym read ∙ same) in
    left more.0 more.1 more.2
  where
    left : (zs : List SlotAt) → ys ≡ xs ++ zs → rest ≡ page_bytes zs → ⊥
    left [] all at = absurd (cc (sym first ∙ at))
    left (z ∷ zs) all at =
        let slots = rw all at hy.are_slots in
        let one = same_slot x z behind (page_bytes zs) is (in_middle xs z zs slots) (sym first ∙ at) in
        back (rw (sym one.0) at (in_front xs z zs (rw all at hy.ascend)))

-- something is left
pub some_left : (rest : List ℕ) → eqb (length rest) 0 ≡ false → 0 < length rest
some_left rest is = let other : length rest ≢ 0 = eqb-false _ 0 is in omega arith

-- bytes before a digest
byte_in_part : (n m : ℕ) (bytes : List ℕ) → ((i : ℕ) → get_or bytes i 0 < 256) → (i : ℕ)
    → get_or (take n (drop m bytes)) i 0 < 256
byte_in_part n m bytes h i = elim (cases_lt i (length (take n (drop m bytes)))) [
  | inl inside ↦ (
      let short : i < n = let all = length-take n (drop m bytes) in omega arith in
      rw (get_or-take n (drop m bytes) i 0 short, get_or-drop m bytes i 0) (h (m + i)))
  | inr past ↦ rw (get_or_past _ i 0 past) (lit< tt)
]

pub taken_digest : (bytes : List ℕ) → ((i : ℕ) → get_or bytes i 0 < 256) → 32 ≤ length bytes → IsDigest (take 32 bytes)
taken_digest bytes h le = record {
  has_32 = (let all = length-take 32 bytes in omega arith);
  are_bytes = All-take (λ b. b < 256) 32 bytes (All-from_get_or (λ b. b < 256) bytes 0 (λ i lt. h i));
}

two_first : (bytes : List ℕ) → 2 ≤ length bytes → bytes ≡ get_or bytes 0 0 ∷ get_or bytes 1 0 ∷ drop 2 bytes
two_first [] le = absurd (omega arith)
two_first (a ∷ []) le = absurd (omega arith)
two_first _ le = refl

-- a slot that is read
pub whole_slot : (bytes version rest digest behind : List ℕ) (n : ℕ) (lone : Option (List ℕ × List ℕ)) (last : List ℕ)
    → ((i : ℕ) → get_or bytes i 0 < 256) → 2 ≤ length bytes → 8 ≤ length (drop 2 bytes)
    → version ≡ take 8 (drop 2 bytes) → rest ≡ drop 8 (drop 2 bytes) → n ≡ from_be_bytes w64 version → n < 2 ^ 64
    → IsDigest digest → rest ≡ digest ++ last → IsLone lone → get_or bytes 1 0 ≡ kind_of lone
    → last ≡ lone_bytes lone ++ behind
    → let x : SlotAt = record { byte = get_or bytes 0 0; version = n; digest = digest; lone = lone } in
    IsSlot x × (bytes ≡ slot_bytes x ++ behind)
whole_slot bytes version rest digest behind n lone last h two long ve re ne fits is at lis kind le =
    let x : SlotAt = record { byte = get_or bytes 0 0; version = n; digest = digest; lone = lone } in
    let eight : length (take 8 (drop 2 bytes)) ≡ 8 = let all = length-take 8 (drop 2 bytes) in omega arith in
    let number : to_be_bytes w64 n ≡ take 8 (drop 2 bytes) = be_bytes_8 _ n eight (byte_in_part 8 2 bytes h)
    (ne ∙ ap (from_be_bytes w64) ve) in
    let tail : drop 2 bytes ≡ to_be_bytes w64 n ++ (digest ++ (lone_bytes lone ++ behind)) =
    sym (take-append-drop 8 (drop 2 bytes)) ∙ ap (λ t. t ++ drop 8 (drop 2 bytes)) (sym number)
    ∙ ap (λ t. to_be_bytes w64 n ++ t) (sym re ∙ at ∙ ap (λ t. digest ++ t) le) in (
      record { is_byte = h 0; fits = fits; digest = is; lone = lis },
      two_first bytes two ∙ (λ i. get_or bytes 0 0 ∷ kind i ∷ tail i) ∙ sym (slot_parts x behind),
    )

-- one whose lone key is cut, or of no kind
pub cut_lone : (bytes version rest digest last : List ℕ) → 8 ≤ length (drop 2 bytes) → version ≡ take 8 (drop 2 bytes)
    → rest ≡ drop 8 (drop 2 bytes) → IsDigest digest → rest ≡ digest ++ last
    → ((lone : Option (List ℕ × List ℕ)) (behind : List ℕ) → IsLone lone → get_or bytes 1 0 ≡ kind_of lone
    → last ≢ lone_bytes lone ++ behind) → (x : SlotAt) (behind : List ℕ) → IsSlot x → bytes ≢ slot_bytes x ++ behind
cut_lone bytes version rest digest last long ve re is at none x behind slot e =
    let whole = e ∙ slot_parts x behind in
    let kind : get_or bytes 1 0 ≡ kind_of x.lone = ap (λ l. get_or l 1 0) whole in
    let tail : drop 2 bytes ≡ to_be_bytes w64 x.version ++ (x.digest ++ (lone_bytes x.lone ++ behind)) =
    ap (drop 2) whole in
    let size : length (take 8 (drop 2 bytes)) ≡ 8 = let all = length-take 8 (drop 2 bytes) in omega arith in
    let versions = same_parts (take 8 (drop 2 bytes)) (drop 8 (drop 2 bytes)) (to_be_bytes w64 x.version)
    (x.digest ++ (lone_bytes x.lone ++ behind)) (size ∙ sym (eight x.version)) (take-append-drop 8 (drop 2 bytes)
    ∙ tail) in
    let digests = same_parts digest last x.digest (lone_bytes x.lone ++ behind) (is.has_32 ∙ sym slot.digest.has_32)
    (sym at ∙ re ∙ versions.1) in
    none x.lone behind slot.lone kind digests.1

-- the last of ascending slots
pub behind_last : (xs : List SlotAt) (last : SlotAt) (byte : ℕ) → Ascends xs → 0 < length xs
    → ((d : SlotAt) → last ≡ get_or xs (length xs - 1) d) → last.byte < byte → All (λ x. x.byte < byte) xs
behind_last xs last byte h some at low = λ k d lt. elim (cases_lt k (length xs - 1)) [
  | inl before ↦ (let one = h k _ d before (omega arith) in let same : last.byte
      ≡ (get_or xs (length xs - 1) d).byte = ap (λ (x : SlotAt). x.byte) (at d) in omega arith)
  | inr end ↦ (let here : k ≡ length xs - 1 = omega arith in let same : last.byte
      ≡ (get_or xs (length xs - 1) d).byte = ap (λ (x : SlotAt). x.byte) (at d) in rw here (omega arith))
]
