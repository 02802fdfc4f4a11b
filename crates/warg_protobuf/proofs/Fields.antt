-- Fields: what stands at the front is read, and what is read stands there.
use Rattle.std.proofs.Common.{◌≡◌, ℕ, zero, suc, ◌+◌, ◌*◌, ◌/◌, ◌%◌, ◌^◌, ◌<◌, ◌≤◌, leb, eqb, true, false, cond, List, ◌++◌, ◌||◌, length, take, drop, Ok, Err, refl, sym, subst, append_assoc, arith, Result, inl, inr, ◌⊎◌}
use Rattle.std.proofs.lemmas.Grind.{common_steps}
use Rattle.std.proofs.lemmas.Bool.{cases_lt, lt-ltb, le-ltb}
use Rattle.std.proofs.lemmas.List.{length-take, take-append-drop}
use Rattle.warg_protobuf.specs.declared.error.WireError.{WireError}
use Rattle.warg_protobuf.specs.declared.error.WireError.TheVariants as errors
use Rattle.warg_protobuf.specs.Reading.{◌>>=◌}
use Rattle.warg_protobuf.specs.Varint.{IsVarint}
use Rattle.warg_protobuf.specs.Field.{Payload, varint, fixed64, delimited, fixed32, Field, wire_type, SpellsPayload, SpellsField, bytes_at, payload_at, field_at}
use Rattle.warg_protobuf.specs.Faults.{PayloadFault, FieldFault}
use Rattle.warg_protobuf.specs.Faults.PayloadFault.{in_varint, below_eight, in_length, below_length, group_start, group_end, below_four, no_type}
use Rattle.warg_protobuf.specs.Faults.FieldFault.{in_tag, bad_tag, in_payload}
use Rattle.warg_protobuf.proofs.Readers.{Stands, IsReader, read_on, behind, begins, parts_joined}
use Rattle.warg_protobuf.proofs.Varints.{varints, varint_not_empty}

-- ---- so many bytes

-- what holds of going on behind so many bytes, and where there are fewer
bytes_on : {Y : Type 0} (P : Result Y WireError → Type 0) (len : ℕ) (bytes : List ℕ) (f : List ℕ × List ℕ
    → Result Y WireError)
    → ((inner rest : List ℕ) → length inner ≡ len → bytes ≡ inner ++ rest → P (f (inner, rest)))
    → (length bytes < len → P (Err errors.Truncated)) → P (bytes_at len bytes >>= f)
bytes_on P len bytes f ok short =
    elim (cases_lt (length bytes) len) [
      | inl lt ↦ rw (lt-ltb (length bytes) len lt) (short lt)
      | inr le ↦
          rw (le-ltb (length bytes) len le) (ok (take len bytes) (drop len bytes) (omega (arith, length-take len bytes))
          (sym (take-append-drop len bytes)))
    ]

bytes_again : (len : ℕ) (bytes rest : List ℕ) → length bytes ≡ len → bytes_at len (bytes ++ rest) ≡ Ok (bytes, rest)
bytes_again len bytes rest e = grind (arith, common_steps)

too_short : (len : ℕ) (bytes : List ℕ) → length bytes < len → bytes_at len bytes ≡ Err errors.Truncated
too_short len bytes lt = rw (lt-ltb (length bytes) len lt) refl

-- ---- payloads

-- no payload has such a kind
bad_kind : (kind : ℕ) (bytes : List ℕ) → 6 ≤ kind → payload_at kind bytes ≡ Err errors.BadWireType
unfolding payload_at
bad_kind kind bytes le = grind arith

-- a payload of a kind
abbrev SpellsKind : ℕ → List ℕ → Payload → Type 0
SpellsKind kind text p = SpellsPayload text p × (wire_type p ≡ kind)

abbrev PayloadStands : ℕ → List ℕ → Result (Payload × List ℕ) WireError → Type 0
PayloadStands kind bytes r = Stands (SpellsKind kind) (λ b e. PayloadFault b kind e) bytes r

payload_stands : (kind : ℕ) (bytes : List ℕ) → PayloadStands kind bytes (payload_at kind bytes)
unfolding payload_at
payload_stands zero bytes =
    behind varints (PayloadStands 0 bytes) bytes (λ n. Ok (varint n.0, n.1))
    (λ n rest b. record { front = b.front; spelled = (b.spelled, refl); parts = b.parts }) in_varint
payload_stands (suc zero) bytes =
    bytes_on (PayloadStands 1 bytes) 8 bytes (λ x. Ok (fixed64 x.0, x.1))
    (λ inner rest long parts. record { front = inner; spelled = ((refl, long), refl); parts = parts }) below_eight
payload_stands (suc (suc zero)) bytes =
    behind varints (PayloadStands 2 bytes) bytes (λ len. bytes_at len.0 len.1 >>= λ x. Ok (delimited x.0, x.1))
    (λ len after b. bytes_on (PayloadStands 2 bytes) len after (λ x. Ok (delimited x.0, x.1))
    (λ inner rest long parts. record {
      front = b.front ++ inner;
      spelled = ((b.front, subst (IsVarint b.front) (sym long) b.spelled, refl), refl);
      parts = parts_joined bytes b.front inner after rest b.parts parts;
    }) (below_length len after b)) in_length
payload_stands (suc (suc (suc zero))) bytes = group_start
payload_stands (suc (suc (suc (suc zero)))) bytes = group_end
payload_stands (suc (suc (suc (suc (suc zero))))) bytes =
    bytes_on (PayloadStands 5 bytes) 4 bytes (λ x. Ok (fixed32 x.0, x.1))
    (λ inner rest long parts. record { front = inner; spelled = ((refl, long), refl); parts = parts }) below_four
payload_stands (suc (suc (suc (suc (suc (suc kind)))))) bytes =
    let kind' = suc (suc (suc (suc (suc (suc kind))))) in
    let le : 6 ≤ kind' = omega arith in
    rw (bad_kind kind' bytes le) (no_type kind' le)

payload_again : (bytes : List ℕ) (c : Payload) (rest : List ℕ) → SpellsPayload bytes c
    → payload_at (wire_type c) (bytes ++ rest) ≡ Ok (c, rest)
unfolding payload_at
payload_again bytes (varint n) rest h = rw (varints.again bytes n rest h) refl
payload_again bytes (fixed64 found) rest h = rw (h.0, bytes_again 8 found rest h.1) refl
payload_again bytes (delimited found) rest h =
    rw (
      h.2,
      append_assoc,
      varints.again h.0 (length found) (found ++ rest) h.1,
      bytes_again (length found) found rest refl,
    ) refl
payload_again bytes (fixed32 found) rest h = rw (h.0, bytes_again 4 found rest h.1) refl

fault_payload : (kind : ℕ) (bytes : List ℕ) (e : WireError) → PayloadFault bytes kind e → payload_at kind bytes ≡ Err e
unfolding payload_at
fault_payload kind bytes e (in_varint fault v) = rw (varints.fails bytes fault v) refl
fault_payload kind bytes e (below_eight lt) = rw (too_short 8 bytes lt) refl
fault_payload kind bytes e (in_length fault v) = rw (varints.fails bytes fault v) refl
fault_payload kind bytes e (below_length len rest b lt) =
    rw (begins varints bytes len rest b, too_short len rest lt) refl
fault_payload kind bytes e group_start = refl
fault_payload kind bytes e group_end = refl
fault_payload kind bytes e (below_four lt) = rw (too_short 4 bytes lt) refl
fault_payload kind bytes e (no_type k le) = bad_kind k bytes le

-- ---- fields

tag_cases : (tag : ℕ) → ((2 ^ 32 ≤ tag) ⊎ (tag / 8 ≡ 0)) ⊎ ((tag < 2 ^ 32) × (0 < tag / 8))
tag_cases tag = grind arith

tag_out : (tag : ℕ) → (2 ^ 32 ≤ tag) ⊎ (tag / 8 ≡ 0) → (leb (2 ^ 32) tag || eqb (tag / 8) 0) ≡ true
tag_out tag out = grind arith

tag_in : (tag : ℕ) → tag < 2 ^ 32 → 0 < tag / 8 → (leb (2 ^ 32) tag || eqb (tag / 8) 0) ≡ false
tag_in tag low has = grind arith

-- a field whose number stands in the tag, with the payload behind the tag
abbrev with_payload : ℕ × List ℕ → Result (Field × List ℕ) WireError
with_payload tag =
    payload_at (tag.0 % 8) tag.1 >>= λ payload. Ok (record { number = tag.0 / 8; payload = payload.0 }, payload.1)

field_spelled : (tag text : List ℕ) (n : ℕ) (p : Payload) → IsVarint tag n → n < 2 ^ 32 → 0 < n / 8
    → SpellsPayload text p → wire_type p ≡ n % 8 → SpellsField (tag ++ text) (record { number = n / 8; payload = p })
field_spelled tag text n p tag_spelled low has spelled kind = grind arith

abbrev FieldStands : List ℕ → Result (Field × List ℕ) WireError → Type 0
FieldStands bytes r = Stands SpellsField FieldFault bytes r

field_stands : (bytes : List ℕ) → FieldStands bytes (field_at bytes)
unfolding field_at
field_stands bytes =
    behind varints (FieldStands bytes) bytes (λ tag. cond (leb (2 ^ 32) tag.0 || eqb (tag.0 / 8) 0) (Err errors.BadTag)
    (with_payload tag))
    (λ n after b. elim (tag_cases n) [
      | inl out ↦ rw (tag_out n out) (bad_tag n after b out)
      | inr ok ↦
          rw (tag_in n ok.0 ok.1) (read_on (SpellsKind (n % 8)) (λ rest e. PayloadFault rest (n % 8) e) after
          (FieldStands bytes) (payload_at (n % 8) after)
          (λ payload. Ok (record { number = n / 8; payload = payload.0 }, payload.1)) (payload_stands (n % 8) after)
          (λ p rest q. record {
            front = b.front ++ q.front;
            spelled = field_spelled b.front q.front n p b.spelled ok.0 ok.1 q.spelled.0 q.spelled.1;
            parts = parts_joined bytes b.front q.front after rest b.parts q.parts;
          }) (λ e f. in_payload n after e b ok.0 ok.1 f))
    ]) in_tag

pub wire_type_small : (c : Payload) → wire_type c < 8
wire_type_small c = grind arith

field_again : (bytes : List ℕ) (f : Field) (rest : List ℕ) → SpellsField bytes f → field_at (bytes ++ rest)
    ≡ Ok (f, rest)
unfolding field_at
field_again bytes f rest h =
    let tag : ℕ = f.number * 8 + wire_type f.payload in
    let tag_read = varints.again h.tag tag (h.payload ++ rest) h.tag_spelled in
    grind (
      arith,
      append_assoc h.tag h.payload rest,
      wire_type_small f.payload,
      tag_read,
      payload_again h.payload f.payload rest h.payload_spelled,
    )

fault_field : (bytes : List ℕ) (e : WireError) → FieldFault bytes e → field_at bytes ≡ Err e
unfolding field_at
fault_field bytes e (in_tag fault v) = grind (arith, varints.fails)
fault_field bytes e (bad_tag tag rest b out) = grind (arith, begins varints bytes tag rest b)
fault_field bytes e (in_payload tag rest fault b low has p) =
    grind (arith, begins varints bytes tag rest b, fault_payload)

field_not_empty : (bytes : List ℕ) (f : Field) → SpellsField bytes f → 0 < length bytes
field_not_empty bytes f h = grind (arith, common_steps, varint_not_empty)

pub fields : IsReader field_at SpellsField FieldFault
fields = record { reads = field_stands; again = field_again; fails = fault_field; not_empty = field_not_empty }
